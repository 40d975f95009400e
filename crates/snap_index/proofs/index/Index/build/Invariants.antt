use Rattle.std.proofs.Common.{take}
use Rattle.snap_core.specs.Calls.{calls_of}
use Rattle.snap_index.specs.inside.Tables.{AreTables}
use Rattle.snap_index.proofs.index.Index.build.Given as goal

abbrev pub invariant-loop-c : goal.invariant-loop-c
invariant-loop-c g l = AreTables (take l.c (calls_of l.history.events)) l.views.items l.updates l.pending
