use Rattle.std.proofs.Common.{sym, arith}
use Rattle.snap_views.specs.Rows.{number_among, row_number}
use Rattle.snap_conditions.proofs.Leasts.{first_less_at, no_first_less}
use Rattle.snap_conditions.proofs.row.Row.first_excess.Goals as goal

pub returns-then-numbers-k : goal.returns-then-numbers-k
returns-then-numbers-k c =
    let other = c.numbers_of-numbers.ensures c.loop-k.k c.loop-k-test.true in
    sym (first_less_at (number_among c.args.other.now) (row_number c.args.self.now) c.loop-k.k c.loop-k-test.true (rw (← c.self.view_is) (omega (arith, other, c.if-numbers-k.true))) c.loop-k.invariant)

pub returns : goal.returns
returns c = sym (no_first_less (number_among c.args.other.now) (row_number c.args.self.now) (λ j l. c.loop-k.invariant j (omega (arith, l))))
