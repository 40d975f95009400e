use Rattle.std.proofs.Common.{take}
use Rattle.snap_stats.specs.inside.Spans.{AreTimesOf}
use Rattle.snap_stats.proofs.timeline.Timeline.new.Given as goal

abbrev pub invariant-loop-span : goal.invariant-loop-span
invariant-loop-span l = AreTimesOf (take l.span-index l.spans) l.begins.items l.ends.items
