use Rattle.std.proofs.Common.{◌≡◌, vec_items}
use Rattle.snap_record.specs.Plans.{lists_of, rounds_scripts}
use Rattle.snap_record.proofs.plan.round_lists.Given as goal

abbrev pub invariant-workers : goal.invariant-workers
invariant-workers l = lists_of (vec_items l.lists) ≡ rounds_scripts l.scan l.worker l.rounds
