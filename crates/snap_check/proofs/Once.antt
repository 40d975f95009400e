-- A text has one report.
use Rattle.std.proofs.Common.{◌≡◌, ◌∙◌, ℕ, Bool, true, false, List, refl, sym, subst, inl, inr}
use Rattle.snap_core.specs.declared.limit.Limit.{Limit}
use Rattle.snap_core.specs.declared.writers.Writers.{Writers}
use Rattle.std.specs.Prelude.{IsTrue}
use Rattle.snap_core.specs.declared.event.Event.{Event}
use Rattle.snap_core.specs.Calls.{calls_of}
use Rattle.snap_format.specs.Rows.{rows_of}
use Rattle.snap_format.proofs.Exclusive.{apart, fault_once, read_once}
use Rattle.snap_report.specs.Lines.{line_text}
use Rattle.snap_report.specs.Refusals.{refusal_line}
use Rattle.snap_report.specs.Reports.{report_lines}
use Rattle.snap_report.specs.Lines.{text_of}
use Rattle.snap_check.specs.declared.status.Status.{Status}
use Rattle.snap_check.specs.Statuses.{status_of}
use Rattle.snap_check.specs.Verdicts.{IsVerdict, findings}
use Rattle.snap_check.specs.Reports.{IsReport}

one_bool : (a b : Bool) → (IsTrue a → IsTrue b) → (IsTrue b → IsTrue a) → a ≡ b
one_bool true true f g = refl
one_bool true false f g = sym (f refl)
one_bool false true f g = g refl
one_bool false false f g = refl

verdict_once : (writers : Writers) (xs ys : List Event) (s t : Status) (o u : List ℕ) → xs ≡ ys → IsVerdict writers xs s o → IsVerdict writers ys t u → (s ≡ t) × (o ≡ u)
verdict_once writers xs ys s t o u e v w =
    let same = subst (λ (zs : List Event). IsVerdict writers zs t u) (sym e) w in
    let regular = one_bool v.regular same.regular (λ h. same.regular_exactly.1 (v.regular_exactly.0 h)) (λ h. v.regular_exactly.1 (same.regular_exactly.0 h)) in
    let monotone = one_bool v.monotone same.monotone (λ h. same.monotone_exactly.1 (v.monotone_exactly.0 h)) (λ h. v.monotone_exactly.1 (same.monotone_exactly.0 h)) in
    let atomic = one_bool v.atomic same.atomic (λ h. same.atomic_exactly.1 (v.atomic_exactly.0 h)) (λ h. v.atomic_exactly.1 (same.atomic_exactly.0 h)) in (
      v.answers ∙ (λ i. status_of (regular i) (atomic i)) ∙ sym same.answers,
      v.writes ∙ (λ i. text_of (report_lines xs (regular i) (monotone i) (atomic i) (findings (atomic i) (calls_of xs)))) ∙ sym same.writes,
    )

pub one_report : (limit : Limit) (text : List ℕ) (status other : Status) (out others : List ℕ) → IsReport limit text status out → IsReport limit text other others → (status ≡ other) × (out ≡ others)
one_report limit text s t o u (inl a) (inl b) =
    let e = fault_once limit text a.place b.place a.fault b.fault a.first b.first in
    (a.answers ∙ sym b.answers, a.writes ∙ (λ i. line_text (refusal_line (e.0 i) (e.1 i))) ∙ sym b.writes)
one_report limit text s t o u (inl a) (inr b) = absurd (apart limit text b.events a.place a.fault b.history a.first)
one_report limit text s t o u (inr a) (inl b) = absurd (apart limit text a.events b.place b.fault a.history b.first)
one_report limit text s t o u (inr a) (inr b) = verdict_once limit.writers a.events b.events s t o u (read_once limit (rows_of text) a.events b.events a.history.1 b.history.1) a.verdict b.verdict
