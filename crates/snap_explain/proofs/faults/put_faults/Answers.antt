use Rattle.std.proofs.Common.{arith}
use Rattle.snap_core.specs.Calls.{calls_of}
use Rattle.snap_report.proofs.Pieces.{kinds_more}
use Rattle.snap_explain.specs.Faults.{kind_text}
use Rattle.snap_explain.proofs.faults.put_faults.Goals as goal

pub loop-kind-preserved : goal.loop-kind-preserved
loop-kind-preserved g c =
    kinds_more (kind_text c.args.lines.listed c.args.lines.records.now (calls_of c.args.index.now) c.args.tally.now) c.loop-kind.kind-index c.args.out.now.items _ _
    (omega (arith, c.loop-kind-test.true)) c.loop-kind.invariant c.in_ok-put_kind.ensures
