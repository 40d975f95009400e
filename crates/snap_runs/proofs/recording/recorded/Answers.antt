use Rattle.std.proofs.Common.{subst, sym}
use Rattle.snap_core.specs.Limited.{LimitedEvents}
use Rattle.snap_runs.specs.Recordings.{HasStamps, IsRecordingOf}
use Rattle.snap_runs.proofs.recording.recorded.Goals as goal

pub returns-clause-history : goal.returns-clause-history
returns-clause-history g c =
    let run = c.in-Ok.ensures in
    subst (λ (h : LimitedEvents). IsRecordingOf c.args.plan.now.scripts h.events) (sym c.into_any.ensures)
    (record {
      kept = c.events-events.ensures.history;
      few = run.few;
      regular = run.regular;
      monotone = run.monotone;
      completed = run.completed;
      interfered = c.in-Ok.recording.interfered;
      calls = run.scripts;
      whole = run.whole;
      atomic = run.atomic;
    })

pub returns-clause-stamps : goal.returns-clause-stamps
returns-clause-stamps g c =
    let kept = c.in-Ok.ensures in
    subst (λ (h : LimitedEvents). HasStamps c.args.plan.now.scripts h.events c.in-Ok.recording.stamps.items) (sym c.into_any.ensures)
    (record { stamped = kept.stamps; rising = kept.rising; each = kept.each_stamp; places = kept.places })
