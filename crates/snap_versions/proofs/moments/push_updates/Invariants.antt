use Rattle.std.proofs.Common.{◌≡◌, ◌++◌, take}
use Rattle.std.specs.List.{flat_map}
use Rattle.snap_versions.specs.inside.RankedMoments.{ranked_of}
use Rattle.snap_versions.specs.inside.Updates.{update_calls}
use Rattle.snap_versions.proofs.moments.push_updates.Given as goal

abbrev pub invariant-loop-i : goal.invariant-loop-i
invariant-loop-i l = l.moments.items ≡ l.initial.moments.items ++ flat_map (ranked_of (update_calls l.updates)) (update_calls (take l.i l.updates))
