-- The verdict on a history, by the tally of its completed views.
use Rattle.std.proofs.Common.{◌≡◌, ◌∙◌, ◌↔◌, ℕ, Bool, true, false, List, Option, Some, None, map, refl, sym, ap, subst}
use Rattle.std.specs.Borrow.{Bor}
use Rattle.std.specs.Prelude.{IsTrue, is_some, option_copied, option_map}
use Rattle.std.specs.Option.{ForSome}
use Rattle.std.proofs.lemmas.Bool.{and_from, and_parts, eq-eqb, eqb-true}
use Rattle.snap_core.specs.declared.event.Event.{Event}
use Rattle.snap_core.specs.Calls.{Call, calls_of, views_of}
use Rattle.snap_core.specs.Events.{HasByteComponents}
use Rattle.snap_core.specs.Bounded.{IsBoundedBy}
use Rattle.snap_core.specs.Monotone.{IsMonotone}
use Rattle.snap_core.specs.declared.writers.Writers.{Writers}
use Rattle.snap_core.proofs.OrderedPushes.{is_ordered_by}
use Rattle.snap_theory.specs.Versions.{IsAtomicBy}
use Rattle.snap_core.specs.Regular.{IsRegular}
use Rattle.snap_core.proofs.Fits.{bytes_of_events}
use Rattle.snap_conditions.specs.declared.tally.Tally.{Tally}
use Rattle.snap_theory.specs.Faults.{HasNoFault}
use Rattle.snap_conditions.specs.Tally.{CountsNoFault, CountsNoLocalFault, tally_of}
use Rattle.snap_conditions.proofs.Ranges.{no_fault_by_tally, regular_by_tally}
use Rattle.snap_conditions.proofs.StaleViews.{monotone_by_tally}
use Rattle.snap_theory.specs.Levels.{printed_order}
use Rattle.snap_theory.proofs.OrderLaws.{atomic_by_exactly, prints_legal_by}
use Rattle.snap_order.proofs.PrintedNumbers.{calls_of_order}
use Rattle.snap_report.specs.Orders.{calls_numbered}
use Rattle.snap_report.specs.Reports.{finding_lines, has_no_fault, has_no_local_fault, has_no_stale_view, report_lines, report_text, verdict_lines}
use Rattle.snap_report.specs.Lines.{Line, text_of}
use Rattle.snap_check.specs.declared.status.Status.{Status}
use Rattle.snap_check.specs.Statuses.{status_of}
use Rattle.snap_check.specs.Verdicts.{IsBriefVerdict, IsVerdict, findings}

-- ---- counts and tests

local_to : (t : Tally) → CountsNoLocalFault t → has_no_local_fault t ≡ true
local_to t h = and_from _ _ (eq-eqb _ _ h.integrity) (eq-eqb _ _ h.proximity)

local_from : (t : Tally) → has_no_local_fault t ≡ true → CountsNoLocalFault t
local_from t e = let p = and_parts _ _ e in record { integrity = eqb-true _ _ p.0; proximity = eqb-true _ _ p.1 }

pub all_to : (t : Tally) → CountsNoFault t → has_no_fault t ≡ true
all_to t h = and_from _ _ (local_to t h.local) (and_from _ _ (eq-eqb _ _ h.read) (eq-eqb _ _ h.write))

all_from : (t : Tally) → has_no_fault t ≡ true → CountsNoFault t
all_from t e = let p = and_parts _ _ e in let q = and_parts _ _ p.1 in record { local = local_from t p.0; read = eqb-true _ _ q.0; write = eqb-true _ _ q.1 }

not_true : (b : Bool) → (b ≡ true → ⊥) → b ≡ false
not_true true h = absurd (h refl)
not_true false h = refl

-- ---- the verdict

abbrev pub IsPrintedList : List Event → List ℕ → Type 0
IsPrintedList es numbers = numbers ≡ map (λ c. c.number) (printed_order (calls_of es))

pub record IsTallied (writers : Writers) (es : List Event) (t : Tally) : Type 0 where
  pub kept : IsBoundedBy writers es
  pub whole : t ≡ tally_of (calls_of es) (views_of (calls_of es))

pub no_fault_then : (es : List Event) (t : Tally) → t ≡ tally_of (calls_of es) (views_of (calls_of es)) → CountsNoFault t → HasNoFault (calls_of es)
no_fault_then es t whole h = (no_fault_by_tally (calls_of es)).0 (subst CountsNoFault whole h)

bytes_in : (writers : Writers) (es : List Event) → IsBoundedBy writers es → HasByteComponents es
bytes_in writers es k = bytes_of_events es k.fit

pub regular_is : (writers : Writers) (es : List Event) (t : Tally) → IsTallied writers es t → IsTrue (has_no_local_fault t) ↔ IsRegular (calls_of es)
regular_is writers es t w =
    let law = regular_by_tally es (is_ordered_by writers es w.kept.history) (bytes_in writers es w.kept) in
    (λ e. law.0 (subst CountsNoLocalFault w.whole (local_from t e)), λ r. local_to t (subst CountsNoLocalFault (sym w.whole) (law.1 r)))

pub monotone_is : (writers : Writers) (es : List Event) (t : Tally) → IsTallied writers es t → IsTrue (has_no_stale_view t) ↔ IsMonotone (calls_of es)
monotone_is writers es t w =
    let law = monotone_by_tally (calls_of es) in
    let same = ap (λ (t : Tally). t.stale) w.whole in
    (λ e. law.0 (sym same ∙ eqb-true _ _ e), λ m. eq-eqb _ _ (same ∙ law.1 m))

pub atomic_is : (writers : Writers) (es : List Event) (t : Tally) → IsTallied writers es t → IsTrue (has_no_fault t) ↔ IsAtomicBy writers (calls_of es)
atomic_is writers es t w =
    let law = atomic_by_exactly writers es w.kept.history (bytes_in writers es w.kept) in (
      λ e. law.1 (no_fault_then es t w.whole (all_from t e)),
      λ a. all_to t (subst CountsNoFault (sym w.whole) ((no_fault_by_tally (calls_of es)).1 (law.0 a))),
    )

finding_is : (writers : Writers) (es : List Event) (t : Tally) → IsTallied writers es t → (order : Option (List Call)) (b : Bool) → has_no_fault t ≡ b → (b ≡ true → order ≡ Some (printed_order (calls_of es))) → (b ≡ false → order ≡ None) →
    finding_lines t order ≡ findings b (calls_of es)
finding_is writers es t w order true e f g = ap (finding_lines t) (f refl)
finding_is writers es t w order false e f g = rw (g refl, w.whole) refl

pub verdict_is : (writers : Writers) (es : List Event) (t : Tally) → IsTallied writers es t → (order : Option (List Call)) → (has_no_fault t ≡ true → order ≡ Some (printed_order (calls_of es))) → (has_no_fault t ≡ false → order ≡ None) →
    (status : Status) (out : List ℕ) → status ≡ status_of (has_no_local_fault t) (has_no_fault t) → out ≡ report_text es t order → IsVerdict writers es status out
verdict_is writers es t w order f g status out s o =
    record {
      regular = has_no_local_fault t;
      monotone = has_no_stale_view t;
      atomic = has_no_fault t;
      regular_exactly = regular_is writers es t w;
      monotone_exactly = monotone_is writers es t w;
      atomic_exactly = atomic_is writers es t w;
      legal = λ e. prints_legal_by writers es w.kept.history (bytes_in writers es w.kept) (no_fault_then es t w.whole (all_from t e));
      answers = s;
      writes = o ∙ ap (λ (lines : List Line). text_of (report_lines es (has_no_local_fault t) (has_no_stale_view t) (has_no_fault t) lines)) (finding_is writers es t w order (has_no_fault t) refl f g);
    }

pub verdict_by : (writers : Writers) (es : List Event) (t : Tally) → IsTallied writers es t → (order : Option (Bor (List ℕ))) → is_some order ≡ has_no_fault t →
    ForSome order (λ numbers. IsPrintedList es numbers.now) → (status : Status) (out : List ℕ) → status ≡ status_of (has_no_local_fault t) (has_no_fault t) →
    out ≡ report_text es t (option_map (calls_numbered (calls_of es)) (option_copied order)) → IsVerdict writers es status out
verdict_by writers es t w None given h status out s o = verdict_is writers es t w None (λ u. absurd (cc)) (λ u. refl) status out s o
verdict_by writers es t w (Some numbers) given h status out s o =
    verdict_is writers es t w (Some (calls_numbered (calls_of es) numbers.now)) (λ u. ap Some (calls_of_order es numbers.now (h numbers refl))) (λ u. absurd (cc)) status out s o

-- ---- the verdict, whatever of its report is written

abbrev pub order_by : List Event → Bool → Option (List Call)
order_by es true = Some (printed_order (calls_of es))
order_by es false = None

pub has_status : (writers : Writers) (es : List Event) (t : Tally) → IsTallied writers es t → (status : Status) → status ≡ status_of (has_no_local_fault t) (has_no_fault t) → IsVerdict writers es status (report_text es t (order_by es (has_no_fault t)))
has_status writers es t w status s = verdict_is writers es t w (order_by es (has_no_fault t)) (λ e. ap (order_by es) e) (λ e. ap (order_by es) e) status (report_text es t (order_by es (has_no_fault t))) s refl

pub brief_verdict : (writers : Writers) (es : List Event) (t : Tally) → IsTallied writers es t → (status : Status) (out : List ℕ) → status ≡ status_of (has_no_local_fault t) (has_no_fault t) →
    out ≡ text_of (verdict_lines (has_no_local_fault t) (has_no_stale_view t) (has_no_fault t)) → IsBriefVerdict writers es status out
unfolding verdict_is has_status
brief_verdict writers es t w status out s o =
    record { report = report_text es t (order_by es (has_no_fault t)); verdict = has_status writers es t w status s; writes = o }
