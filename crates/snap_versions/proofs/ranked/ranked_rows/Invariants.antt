use Rattle.std.proofs.Common.{◌≡◌, map, take}
use Rattle.snap_versions.specs.Rows.{call_of}
use Rattle.snap_versions.specs.inside.Listed.{calls_listed}
use Rattle.snap_versions.specs.inside.Ranked.{ranked_call}
use Rattle.snap_versions.proofs.ranked.ranked_rows.Given as goal

abbrev pub invariant-loop-call : goal.invariant-loop-call
invariant-loop-call l = map call_of l.ranked.items ≡ map (ranked_call l.versions) (calls_listed (take l.call-index l.calls))
