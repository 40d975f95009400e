use Rattle.std.proofs.Common.{take}
use Rattle.snap_index.specs.Rows.{rows}
use Rattle.snap_versions.specs.inside.Listed.{calls_listed}
use Rattle.snap_versions.specs.inside.Versions.{AreVersionsOf}
use Rattle.snap_versions.proofs.versions.lists_of.Given as goal

abbrev pub invariant-loop-call : goal.invariant-loop-call
invariant-loop-call l = AreVersionsOf (calls_listed (take l.call-index l.calls)) (rows l.lists.items)
