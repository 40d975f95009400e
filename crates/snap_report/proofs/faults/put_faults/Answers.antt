use Rattle.std.proofs.Common.{arith}
use Rattle.snap_report.specs.Faults.{kind_lines}
use Rattle.snap_report.specs.Lines.{text_of}
use Rattle.snap_report.proofs.Pieces.{kinds_more}
use Rattle.snap_report.proofs.faults.put_faults.Goals as goal

pub loop-kind-preserved : goal.loop-kind-preserved
loop-kind-preserved c =
    kinds_more (λ kind. text_of (kind_lines c.args.tally.now kind)) c.loop-kind.kind-index c.args.out.now.items _ _
    (omega (arith, c.loop-kind-test.true)) c.loop-kind.invariant c.in_ok-put_kind.ensures
