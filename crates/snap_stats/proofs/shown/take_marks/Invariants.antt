use Rattle.std.proofs.Common.{◌≡◌, length, take}
use Rattle.snap_core.specs.Calls.{calls_of}
use Rattle.snap_stats.specs.inside.Marks.{AreTaken}
use Rattle.snap_stats.proofs.shown.take_marks.Given as goal

abbrev pub invariant-loop-entry : goal.invariant-loop-entry
invariant-loop-entry g l = AreTaken (calls_of l.index) (take l.entry-index l.entries) l.fn.marks l.marks
