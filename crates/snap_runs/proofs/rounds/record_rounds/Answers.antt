use Rattle.std.proofs.Common.{List, subst, sym}
use Rattle.snap_core.specs.Counting.{inner_of}
use Rattle.snap_record.specs.declared.plan.Step.{Step}
use Rattle.snap_record.specs.Plans.{rounds_scripts}
use Rattle.snap_runs.specs.declared.rounds.Written.{Written}
use Rattle.snap_runs.specs.Recordings.{IsStampedRecording, IsWrittenAs, WroteAs}
use Rattle.snap_runs.proofs.rounds.record_rounds.Goals as goal

pub returns-in-Stamped-clause-wrote : goal.returns-in-Stamped-clause-wrote
returns-in-Stamped-clause-wrote g c =
    let old = g.W.Write.contents (inner_of c.args.writer.now) in
    let new = g.W.Write.contents (inner_of c.record_run_stamped.new.writer) in
    let scripts = rounds_scripts c.args.rounds.scan c.args.rounds.workers c.args.rounds.rounds in
    subst (λ (written : Written). WroteAs (IsWrittenAs written scripts) old new c.record_run_stamped.result) (sym c.in-Stamped.is)
    (subst (λ (ss : List (List Step)). WroteAs (IsStampedRecording ss) old new c.record_run_stamped.result) c.in_ok-plan.ensures c.record_run_stamped.ensures.wrote)
