use Rattle.std.proofs.Common.{take}
use Rattle.snap_core.specs.Calls.{calls_of, views_of}
use Rattle.snap_stats.specs.inside.Marks.{AreLeft}
use Rattle.snap_stats.proofs.shown.take_shown.Given as goal

abbrev pub invariant-loop-place : goal.invariant-loop-place
invariant-loop-place g l = AreLeft (calls_of l.index) (take l.place (views_of (calls_of l.index))) l.marks
