use Rattle.std.proofs.Common.{subst}
use Rattle.std.specs.Prelude.{IsSome}
use Rattle.std.proofs.lemmas.Bool.{false≢true}
use Rattle.snap_check.proofs.Verdicts.{no_fault_then}
use Rattle.snap_check.proofs.judge.order_alone.Goals as goal

pub unreachable-requires : goal.unreachable-requires
unreachable-requires g c =
    let none = no_fault_then c.args.index.now c.args.tally.now c.requires.tally (c.is_atomic-has_order.ensures.0 c.if-not-has_order.false) in
    false≢true (subst IsSome c.in_default.is (c.requires.given none.read))

pub build_alone-requires-clause-fault : goal.build_alone-requires-clause-fault
build_alone-requires-clause-fault g c = no_fault_then c.args.index.now c.args.tally.now c.requires.tally (c.is_atomic-has_order.ensures.0 c.if-not-has_order.false)
