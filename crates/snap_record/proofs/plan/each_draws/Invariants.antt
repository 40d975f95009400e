use Rattle.std.proofs.Common.{◌≡◌, drop}
use Rattle.snap_record.specs.Plans.{lists_of, each_draws}
use Rattle.snap_record.proofs.plan.each_draws.Given as goal

abbrev pub invariant-scripts : goal.invariant-scripts
invariant-scripts l = each_draws l.most (lists_of l.scripts) ≡ each_draws l.most (lists_of (drop l.k l.scripts))
