use Rattle.snap_record.specs.inside.Workers.{IsTakenOf}
use Rattle.snap_record.proofs.taking.take_some.Given as goal

abbrev pub invariant-turns : goal.invariant-turns
invariant-turns g l = IsTakenOf l.relay l.taken
