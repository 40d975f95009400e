use Rattle.std.proofs.Common.{◌≡◌, take}
use Rattle.snap_stats.specs.Overlaps.{greatest}
use Rattle.snap_stats.specs.inside.Spans.{span_length}
use Rattle.snap_stats.proofs.open.longest.Given as goal

abbrev pub invariant-loop-call : goal.invariant-loop-call
invariant-loop-call l = l.longest ≡ greatest span_length (take l.call-index l.calls)
