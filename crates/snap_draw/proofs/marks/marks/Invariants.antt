use Rattle.std.proofs.Common.{◌≡◌, ◌++◌, [], take}
use Rattle.std.specs.List.{flat_map}
use Rattle.snap_core.specs.Calls.{calls_of}
use Rattle.snap_conditions.specs.Kinds.{kinds}
use Rattle.snap_draw.specs.Marks.{kind_marks}
use Rattle.snap_draw.proofs.marks.marks.Given as goal

abbrev pub invariant-loop-kind : goal.invariant-loop-kind
invariant-loop-kind g l = l.marks.items ≡ [] ++ flat_map (kind_marks (calls_of l.index) l.tally) (take l.kind-index kinds)
