use Rattle.std.proofs.Common.{subst, sym}
use Rattle.snap_core.specs.Counting.{inner_of}
use Rattle.snap_runs.specs.Recordings.{IsRecorded, WroteAs}
use Rattle.snap_runs.proofs.Recordings.{report_written, judged_atomic}
use Rattle.snap_runs.proofs.recording.record_run.Goals as goal

pub returns-then-judge-clause-wrote : goal.returns-then-judge-clause-wrote
returns-then-judge-clause-wrote g c =
    let old = g.W.Write.contents (inner_of c.args.writer.now) in
    let new = g.W.Write.contents (inner_of c.write_report.new.writer) in
    let written = report_written c.args.plan.now.scripts c.in_ok-history.history.events _ c.in_ok-history.ensures.workers.1 c.in_ok-history.ensures.history c.in_ok-history.ensures.stamps old new c.write_report.result c.write_report.ensures.wrote in
    subst (λ judge. WroteAs (IsRecorded judge c.args.plan.now.scripts) old new c.write_report.result) (sym c.if-judge.true) written

pub returns-then-judge-clause-atomic : goal.returns-then-judge-clause-atomic
returns-then-judge-clause-atomic g c =
    λ _ none. judged_atomic c.in_ok-history.history.events c.in_ok-history.ensures.history.kept.history (c.in_ok-history.ensures.history.atomic none) (g.W.Write.contents (inner_of c.args.writer.now)) (g.W.Write.contents (inner_of c.write_report.new.writer)) c.write_report.result c.write_report.ensures.wrote
