use Rattle.std.proofs.Common.{◌≡◌, filter, map, take}
use Rattle.snap_core.specs.Calls.{calls_of}
use Rattle.snap_stats.specs.inside.Spans.{is_of, span_of}
use Rattle.snap_stats.proofs.span.spans_of.Given as goal

abbrev pub invariant-loop-number : goal.invariant-loop-number
invariant-loop-number g l = l.spans.items ≡ map span_of (filter (is_of l.kind) (take l.number (calls_of l.index)))
