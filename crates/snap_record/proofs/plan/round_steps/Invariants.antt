use Rattle.std.proofs.Common.{◌≡◌}
use Rattle.snap_record.specs.Plans.{round_script}
use Rattle.snap_record.proofs.plan.round_steps.Given as goal

abbrev pub invariant-loop-round : goal.invariant-loop-round
invariant-loop-round l = l.steps.items ≡ round_script l.scan l.worker l.round
