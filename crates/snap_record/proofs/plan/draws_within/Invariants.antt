use Rattle.std.proofs.Common.{◌≡◌, drop}
use Rattle.snap_record.specs.Plans.{draws_within}
use Rattle.snap_record.proofs.plan.draws_within.Given as goal

abbrev pub invariant-steps : goal.invariant-steps
invariant-steps l = draws_within l.most l.steps ≡ draws_within l.room (drop l.k l.steps)
