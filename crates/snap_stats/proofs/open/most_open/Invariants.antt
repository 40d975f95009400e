use Rattle.std.proofs.Common.{◌≡◌, take}
use Rattle.snap_stats.specs.Overlaps.{greatest}
use Rattle.snap_stats.specs.inside.Spans.{open_in}
use Rattle.snap_stats.proofs.open.most_open.Given as goal

abbrev pub invariant-loop-call : goal.invariant-loop-call
invariant-loop-call l = l.most ≡ greatest (open_in l.calls) (take l.call-index l.calls)
