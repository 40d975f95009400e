use Rattle.std.proofs.Common.{◌≡◌, ◌++◌, take}
use Rattle.std.specs.List.{flat_map}
use Rattle.snap_core.specs.Calls.{calls_of}
use Rattle.snap_draw.specs.Marks.{update_mark}
use Rattle.snap_draw.proofs.marks.mark_updates.Given as goal

abbrev pub invariant-loop-update : goal.invariant-loop-update
invariant-loop-update g l = l.marks.items ≡ l.fn.marks.items ++ flat_map (update_mark l.kind (calls_of l.index)) (take l.update-index l.updates)
