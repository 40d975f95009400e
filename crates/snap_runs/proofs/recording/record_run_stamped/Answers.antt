use Rattle.std.proofs.Common.{◌≡◌, subst}
use Rattle.snap_core.specs.Counting.{inner_of}
use Rattle.snap_format.specs.Layout.{stamped_text}
use Rattle.snap_check.specs.declared.status.Status.TheVariants.{Recorded}
use Rattle.snap_runs.specs.Recordings.{WroteAs}
use Rattle.snap_runs.proofs.Recordings.{stamped_written}
use Rattle.snap_runs.proofs.recording.record_run_stamped.Goals as goal

pub returns-clause-wrote : goal.returns-clause-wrote
returns-clause-wrote g c =
    let old = g.W.Write.contents (inner_of c.args.writer.now) in
    let new = g.W.Write.contents (inner_of c.write_stamped_text.new.writer) in
    let written = subst (λ at. WroteAs (λ status out. (status ≡ Recorded) × (out ≡ stamped_text at c.in_ok-history.history.events)) old new c.write_stamped_text.result) c.as_slice.ensures.value c.write_stamped_text.ensures.wrote in
    stamped_written c.args.plan.now.scripts c.in_ok-history.history.events c.in_ok-history.stamps.items c.in_ok-history.ensures.history c.in_ok-history.ensures.stamps old new c.write_stamped_text.result written
