use Rattle.std.proofs.Common.{◌<◌, sym, arith}
use Rattle.snap_core.specs.Entries.{entry_of, number_in}
use Rattle.snap_conditions.proofs.Leasts.{first_less_at, no_first_less}
use Rattle.snap_witness.proofs.fault_calls.least_exceeding.Goals as goal

pub returns-then-number : goal.returns-then-number
returns-then-number c =
    let less : number_in (entry_of c.loop-k.k c.args.other.now) < number_in (entry_of c.loop-k.k c.args.view.now) = omega (arith, c.if-number.true, c.number.ensures, c.number-in-loop-k.ensures) in
    sym (first_less_at (λ k. number_in (entry_of k c.args.other.now)) (λ k. number_in (entry_of k c.args.view.now)) c.loop-k.k c.loop-k-test.true less c.loop-k.invariant)

pub returns : goal.returns
returns c = sym (no_first_less (λ k. number_in (entry_of k c.args.other.now)) (λ k. number_in (entry_of k c.args.view.now)) (λ j l. c.loop-k.invariant j (omega (arith, l, c.loop-k-test.false))))
