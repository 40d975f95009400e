use Rattle.std.proofs.Common.{◌≡◌, map, filter, not}
use Rattle.std.specs.List.{flat_map}
use Rattle.snap_core.specs.Orders.{is_update}
use Rattle.snap_versions.specs.Rows.{call_of}
use Rattle.snap_versions.specs.inside.RankedMoments.{ranked_whole}
use Rattle.snap_versions.specs.inside.Updates.{update_calls}
use Rattle.snap_versions.proofs.cut.split.Given as goal

abbrev pub invariant-loop-row : goal.invariant-loop-row
invariant-loop-row l =
    (goal.iterator-loop-row).can_next l.row-iterator × (goal.iterator-loop-row).is_finite l.row-iterator
    × (update_calls l.updates.items ≡ filter is_update (map call_of l.yielded))
    × (l.moments.items ≡ flat_map ranked_whole (filter (λ c. not (is_update c)) (map call_of l.yielded)))
