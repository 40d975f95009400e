-- Each text has a report.
use Rattle.std.proofs.Common.{inl, inr, ℕ, List, refl}
use Rattle.snap_core.specs.declared.limit.Limit.{Limit}
use Rattle.snap_core.specs.Calls.{calls_of, views_of}
use Rattle.snap_conditions.specs.Tally.{tally_of}
use Rattle.snap_format.proofs.Decided.{text_decided}
use Rattle.snap_format.proofs.Histories.{text_kept}
use Rattle.snap_report.specs.Lines.{line_text}
use Rattle.snap_report.specs.Refusals.{refusal_line}
use Rattle.snap_report.specs.Reports.{has_no_fault, has_no_local_fault, report_text}
use Rattle.snap_check.specs.declared.status.Status.{Status}
use Rattle.snap_check.specs.declared.status.Status.TheVariants.{Refused}
use Rattle.snap_check.specs.Reports.{IsReport}
use Rattle.snap_check.specs.Statuses.{status_of}
use Rattle.snap_check.proofs.Verdicts.{has_status, order_by}

pub each_report : (limit : Limit) (text : List ℕ) → (status : Status) × (out : List ℕ) × IsReport limit text status out
each_report limit text = elim (text_decided limit text) [
  | inl (events, read) ↦
      let t = tally_of (calls_of events) (views_of (calls_of events)) in
      let status = status_of (has_no_local_fault t) (has_no_fault t) in
      let verdict = has_status limit.writers events t (record { kept = text_kept limit text events read; whole = refl }) status refl in
      (status, report_text events t (order_by events (has_no_fault t)), inr (record { events = events; history = read; verdict = verdict }))
  | inr (place, fault, first) ↦ (Refused, line_text (refusal_line place fault), inl (record { place = place; fault = fault; first = first; answers = refl; writes = refl }))
]
