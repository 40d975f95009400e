use Rattle.std.proofs.Common.{◌≡◌, ◌++◌, take}
use Rattle.std.specs.List.{flat_map}
use Rattle.snap_draw.specs.Marks.{view_mark}
use Rattle.snap_draw.proofs.marks.mark_views.Given as goal

abbrev pub invariant-loop-view : goal.invariant-loop-view
invariant-loop-view l = l.marks.items ≡ l.fn.marks.items ++ flat_map (view_mark l.kind) (take l.view-index l.views)
