use Rattle.std.proofs.Common.{◌≡◌, take}
use Rattle.std.specs.List.{count_by}
use Rattle.snap_core.specs.Calls.{calls_of, views_of}
use Rattle.snap_theory.specs.Faults.{is_stale}
use Rattle.snap_views.specs.Seen.{view_in}
use Rattle.snap_conditions.proofs.stale.stale_count.Given as goal

abbrev pub invariant-loop-other : goal.invariant-loop-other
invariant-loop-other g l =
    let calls = calls_of l.index in
    l.count ≡ count_by (is_stale (view_in calls l.place)) (take l.other (views_of calls))
