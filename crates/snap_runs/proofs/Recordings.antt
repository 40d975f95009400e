-- What a recording writes and answers.
use Rattle.std.proofs.Common.{◌≡◌, ◌⊎◌, ◌∙◌, ◌≤◌, ◌*◌, ℕ, Bool, true, false, List, length, Option, Result, Ok, Err, ap, arith, inl, inr, subst, sym}
use Rattle.snap_core.proofs.Ordered.{bounded_is_ordered}
use Rattle.snap_core.specs.Events.{IsHistory}
use Rattle.snap_core.specs.Bounded.{IsBoundedBy, IsHistoryBy}
use Rattle.snap_core.specs.declared.writers.Writers.TheVariants.{One}
use Rattle.snap_core.specs.declared.writers.Writers.{Writers}
use Rattle.snap_core.specs.declared.limit.Limit.{Limit}
use Rattle.std.specs.Prelude.{IfOk}
use Rattle.snap_core.specs.declared.event.Event.{Event}
use Rattle.snap_core.specs.Calls.{calls_of}
use Rattle.snap_core.specs.Orders.{IsAtomic}
use Rattle.snap_format.specs.Layout.{history_text, stamped_text}
use Rattle.snap_format.specs.Texts.{bytes_within}
use Rattle.snap_format.proofs.TextFacts.{text_reads}
use Rattle.snap_record.specs.declared.plan.Step.{Step}
use Rattle.snap_record.specs.Plans.{steps_in}
use Rattle.snap_check.specs.declared.fault.RunFault.{RunFault}
use Rattle.snap_check.specs.declared.fault.RunFault.TheVariants as faults
use Rattle.snap_check.specs.declared.status.Status.{Status}
use Rattle.snap_check.specs.declared.status.Status.TheVariants.{Atomic, Recorded, Regular}
use Rattle.snap_runs.specs.Recordings.{HasStamps, IsRecorded, IsRecordingOf, IsRecordingReport, IsStampedRecording, WroteAs}
use Rattle.snap_check.specs.Statuses.{status_of}
use Rattle.snap_check.specs.Verdicts.{IsVerdict}
use Rattle.snap_runs.proofs.Narrow.{recording_short}

wrote_also : (Is Also : Status → List ℕ → Type 0) → ((status : Status) (out : List ℕ) → Is status out → Also status out) → (old new : Option (List ℕ)) (answer : Result Status RunFault) → WroteAs Is old new answer → WroteAs Also old new answer
wrote_also Is Also then old new (Ok status) h = (h.0, then status h.0 h.1, h.2)
wrote_also Is Also then old new (Err faults.Read) h = absurd h
wrote_also Is Also then old new (Err faults.Write) h = (h.0, h.1, then h.0 h.1 h.2, h.3)
wrote_also Is Also then old new (Err faults.Memory) h = h

regular_status : (regular atomic : Bool) (status : Status) → regular ≡ true → status ≡ status_of regular atomic → (status ≡ Atomic) ⊎ (status ≡ Regular)
regular_status regular true status is_true e = inl e
regular_status regular false status is_true e = inr (e ∙ ap (λ b. status_of b false) is_true)

-- the verdict on a history, however many processes may write a component
abbrev IsVerdictOf : List Event → Status → List ℕ → Type 0
IsVerdictOf events status out = (writers : Writers) → IsHistoryBy writers events → IsVerdict writers events status out

report_of : (scripts : List (List Step)) (events : List Event) → IsRecordingOf scripts events → ((limit : Limit) → 2 * steps_in scripts ≤ limit.events → length (history_text events) ≤ bytes_within limit) → (status : Status) (out : List ℕ) → IsVerdictOf events status out → IsRecordingReport scripts status out
report_of scripts events recording short status out verdict =
    let v = verdict One recording.kept.history in
    record {
      events = events;
      recording = recording;
      answers = regular_status v.regular v.atomic status (v.regular_exactly.1 recording.regular) v.answers;
      report = λ limit one within.
          let kept = subst (λ w. IsBoundedBy w events) (sym one) recording.kept in
          inr (record { events = events; history = text_reads limit events kept (omega (arith, recording.few, within)) (short limit within); verdict = verdict limit.writers kept.history });
    }

pub stamped_written : (scripts : List (List Step)) (events : List Event) (stamps : List ℕ) → IsRecordingOf scripts events → HasStamps scripts events stamps → (old new : Option (List ℕ)) (answer : Result Status RunFault) →
    WroteAs (λ status out. (status ≡ Recorded) × (out ≡ stamped_text stamps events)) old new answer → WroteAs (IsStampedRecording scripts) old new answer
stamped_written scripts events stamps recording has_stamps old new answer h =
    wrote_also (λ status out. (status ≡ Recorded) × (out ≡ stamped_text stamps events)) (IsStampedRecording scripts)
    (λ status out w. record { events = events; stamps = stamps; recording = recording; has_stamps = has_stamps; answers = w.0; writes = w.1 }) old new answer h

pub report_written : (scripts : List (List Step)) (events : List Event) (stamps : List ℕ) → length scripts ≤ 8 → IsRecordingOf scripts events → HasStamps scripts events stamps → (old new : Option (List ℕ)) (answer : Result Status RunFault) →
    WroteAs (IsVerdictOf events) old new answer → WroteAs (IsRecorded true scripts) old new answer
report_written scripts events stamps few recording has_stamps old new answer h =
    wrote_also (IsVerdictOf events) (IsRecorded true scripts) (report_of scripts events recording (λ limit within. recording_short limit scripts events stamps (bounded_is_ordered events recording.kept) (omega (arith, recording.few, within)) few has_stamps.stamped)) old new answer h

-- the verdict on an atomic history
pub atomic_status : (events : List Event) (status : Status) (out : List ℕ) → IsAtomic (calls_of events) → IsVerdict One events status out → status ≡ Atomic
atomic_status events status out atomic v = v.answers ∙ ap (status_of v.regular) (v.atomic_exactly.1 atomic)

pub judged_atomic : (events : List Event) → IsHistory events → IsAtomic (calls_of events) → (old new : Option (List ℕ)) (answer : Result Status RunFault) → WroteAs (IsVerdictOf events) old new answer → IfOk answer (λ status. status ≡ Atomic)
judged_atomic events history atomic old new (Ok status) h = atomic_status events status h.0 atomic (h.1 One history)
judged_atomic events history atomic old new (Err fault) h = tt
