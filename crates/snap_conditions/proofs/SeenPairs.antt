-- What is compared of two views that were seen.
use Rattle.std.proofs.Common.{◌≡◌, ◌<◌, ◌↔◌, ◌&&◌, ℕ, Bool, true, false, List, refl, sym, ap, ◌∙◌, arith}
use Rattle.std.specs.Prelude.{IsTrue}
use Rattle.snap_core.specs.Calls.{Call, is_before, precedes, shown_number}
use Rattle.snap_index.specs.declared.call.Call.{Call as IndexedCall}
use Rattle.snap_views.specs.declared.seen.SeenView.{SeenView}
use Rattle.snap_theory.specs.Faults.{exceeds, is_stale}
use Rattle.snap_views.specs.Rows.{AreNumbersOf, IsLessSomewhere, number_among, row_number}
use Rattle.snap_views.specs.Seen.{IsSeen}
use Rattle.snap_conditions.proofs.Finds.{exceeds_by_number}
use Rattle.snap_views.proofs.Rows.{among_is_shown}

pub same_before : (r s : Call) (view other : SeenView) → IsSeen r view → IsSeen s other → is_before view.call.ended other.call.begun ≡ is_before r.ended s.begun
same_before r s view other v w = ap (λ (z : IndexedCall). is_before z.ended other.call.begun) v.call ∙ ap (λ (z : IndexedCall). is_before r.ended z.begun) w.call

same_less : (P : Type 0) (f g p q : ℕ → ℕ) → ((k : ℕ) → k < 256 → f k ≡ p k) → ((k : ℕ) → k < 256 → g k ≡ q k) → P ↔ IsLessSomewhere f g → P ↔ IsLessSomewhere p q
same_less P f g p q e h d = (
  λ t. let m = d.0 t in (m.0, m.1, omega (arith, m.2, e m.0 m.1, h m.0 m.1)),
  λ m. d.1 (m.0, m.1, omega (arith, m.2, e m.0 m.1, h m.0 m.1)),
)

by_row : (r : Call) (view : SeenView) (row : List ℕ) → IsSeen r view → AreNumbersOf view.entries.now row → (k : ℕ) → k < 256 → row_number row k ≡ shown_number r k
by_row r view row v n k i = n k i ∙ ap (λ es. number_among es k) v.entries ∙ among_is_shown r k

by_entries : (s : Call) (other : SeenView) → IsSeen s other → (k : ℕ) → k < 256 → number_among other.entries.now k ≡ shown_number s k
by_entries s other w k i = ap (λ es. number_among es k) w.entries ∙ among_is_shown s k

pub more_seen : (P : Type 0) (r s : Call) (view other : SeenView) (row : List ℕ) → IsSeen r view → IsSeen s other → AreNumbersOf view.entries.now row →
    P ↔ IsLessSomewhere (number_among other.entries.now) (row_number row) → P ↔ IsLessSomewhere (shown_number s) (shown_number r)
more_seen P r s view other row v w n = same_less P (number_among other.entries.now) (row_number row) (shown_number s) (shown_number r) (by_entries s other w) (by_row r view row v n)

pub less_seen : (P : Type 0) (r s : Call) (view other : SeenView) (row : List ℕ) → IsSeen r view → IsSeen s other → AreNumbersOf view.entries.now row →
    P ↔ IsLessSomewhere (row_number row) (number_among other.entries.now) → P ↔ IsLessSomewhere (shown_number r) (shown_number s)
less_seen P r s view other row v w n = same_less P (row_number row) (number_among other.entries.now) (shown_number r) (shown_number s) (by_row r view row v n) (by_entries s other w)

-- whether a view is stale to another, by their places
pub stale_seen : (r s : Call) (view other : SeenView) → IsSeen r view → IsSeen s other → is_stale r s ≡ (is_before view.call.ended other.call.begun && exceeds r s)
unfolding is_stale precedes
stale_seen r s view other v w = either (exceeds r s) (precedes r s) ∙ ap (λ b. b && exceeds r s) (sym (same_before r s view other v w))
  where
    either : (p q : Bool) → (p && q) ≡ (q && p)
    either true true = refl
    either true false = refl
    either false true = refl
    either false false = refl

pub exceeds_seen : (r s : Call) (view other : SeenView) (row : List ℕ) (more : Bool) → IsSeen r view → IsSeen s other → AreNumbersOf view.entries.now row →
    IsTrue more ↔ IsLessSomewhere (number_among other.entries.now) (row_number row) → exceeds r s ≡ more
exceeds_seen r s view other row more v w n m = exceeds_by_number r s more v.shape (more_seen (IsTrue more) r s view other row v w n m)
