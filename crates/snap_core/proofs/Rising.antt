-- Entries that rise, by places.
use Rattle.std.proofs.Common.{◌≡◌, ℕ, zero, suc, ◌+◌, ◌<◌, true, false, ◌&&◌, ◌||◌, List, [], ◌∷◌, length, drop, get_or, cond, nat_le, nat_lt, Some, refl, ap, ◌∙◌, inl, inr, arith}
use Rattle.std.proofs.lemmas.Bool.{ltb-true, ltb-false, le-leb, lt-ltb, and_parts, and_from, cases_lt}
use Rattle.std.specs.List.Sorted.{IsPartitionedBy, IsPartitionPoint}
use Rattle.std.proofs.lemmas.List.Sorted.{IsPartitionedBy-ltb}
use Rattle.std.specs.Prelude.{Bool, None, not, if◌then◌else◌}
use Rattle.std.proofs.lemmas.Bool.{eq-eqb, ne_eqb}
use Rattle.std.proofs.lemmas.Bool.Decides.{nat_tests}
use Rattle.std.proofs.lemmas.List.{at_drop_more}
use Rattle.snap_core.specs.declared.entry.Entry.{Entry}
use Rattle.snap_core.specs.declared.view.ViewRefusal.TheVariants.{NotRising, ZeroNumber}
use Rattle.snap_core.specs.Entries.{rises, has_zero, view_refusal, entry_of}

pub rises_from : (es : List Entry) → ((j : ℕ) (d : Entry) → suc j < length es → (get_or es j d).component < (get_or es (suc j) d).component) → rises es ≡ true
rises_from [] h = refl
rises_from (d ∷ []) h = refl
rises_from (d ∷ e ∷ es) h = and_from _ _ (lt-ltb _ _ (h 0 d (omega arith))) (rises_from (e ∷ es) (λ j c l. h (suc j) c (omega arith)))

pub rises_at : (es : List Entry) (j : ℕ) (c : Entry) → rises es ≡ true → suc j < length es → (get_or es j c).component < (get_or es (suc j) c).component
rises_at [] j c h l = absurd (omega arith)
rises_at (d ∷ []) j c h l = absurd (omega arith)
rises_at (d ∷ e ∷ es) zero c h l = ltb-true _ _ (and_parts _ _ h).0
rises_at (d ∷ e ∷ es) (suc j) c h l = rises_at (e ∷ es) j c (and_parts _ _ h).1 (omega arith)

-- each component is above the one before it, and the first is at least so much
abbrev pub rises_above : ℕ → List Entry → Bool
rises_above least [] = true
rises_above least (e ∷ es) = nat_le least e.component && rises_above (suc e.component) es

rises_behind : (e : Entry) (es : List Entry) → rises (e ∷ es) ≡ rises_above (suc e.component) es
rises_behind e [] = refl
rises_behind e (d ∷ es) = ap (λ b. nat_lt e.component d.component && b) (rises_behind d es)

pub rises_all_above : (es : List Entry) → rises es ≡ rises_above 0 es
rises_all_above [] = refl
rises_all_above (e ∷ es) = rw (le-leb 0 e.component (omega arith)) (rises_behind e es)

-- what one more entry adds, where `falls` says that some before it is below the least that its place allows
pub rises_more : (es : List Entry) (i least : ℕ) (falls : Bool) (d : Entry) → i < length es →
    (not falls && rises_above least (drop i es)) ≡ (not (falls || nat_lt (get_or es i d).component least) && rises_above ((get_or es i d).component + 1) (drop (i + 1) es))
rises_more es i least falls d l = rw (at_drop_more (rises_above least) es i d l) (grind (arith, nat_tests))

rises_tail : (e : Entry) (es : List Entry) → rises (e ∷ es) ≡ true → rises es ≡ true
rises_tail e [] s = refl
rises_tail e (d ∷ es) s = (and_parts (nat_lt e.component d.component) (rises (d ∷ es)) s).1

first_lower : (e : Entry) (es : List Entry) (i : ℕ) (x : Entry) → rises (e ∷ es) ≡ true → i < length es → e.component < (get_or es i x).component
first_lower e [] i x s l = absurd (omega arith)
first_lower e (d ∷ es) zero x s l = ltb-true e.component d.component (and_parts (nat_lt e.component d.component) (rises (d ∷ es)) s).0
first_lower e (d ∷ es) (suc i) x s l =
    omega (arith, ltb-true e.component d.component (and_parts (nat_lt e.component d.component) (rises (d ∷ es)) s).0, first_lower d es i x (rises_tail e (d ∷ es) s) (omega arith))

-- the entry of a component that stands at a place
pub entry_at : (es : List Entry) (i : ℕ) (x : Entry) (k : ℕ) → rises es ≡ true → i < length es → (get_or es i x).component ≡ k → entry_of k es ≡ Some (get_or es i x)
entry_at [] i x k s l same = absurd (omega arith)
entry_at (e ∷ es) zero x k s l same = ap (λ b. cond b (Some e) (entry_of k es)) (eq-eqb e.component k same)
entry_at (e ∷ es) (suc i) x k s l same =
    let lower = first_lower e es i x s (omega arith) in
    ap (λ b. cond b (Some e) (entry_of k es)) (ne_eqb e.component k (λ q. omega (arith, lower, same, q))) ∙ entry_at es i x k (rises_tail e es s) (omega arith) same

-- no entry of a component that none has
no_entry : (es : List Entry) (x : Entry) (k : ℕ) → ((i : ℕ) → i < length es → (get_or es i x).component ≡ k → ⊥) → entry_of k es ≡ None
no_entry [] x k none = refl
no_entry (e ∷ es) x k none = ap (λ b. cond b (Some e) (entry_of k es)) (ne_eqb e.component k (none 0 (omega arith))) ∙ no_entry es x k (λ i l. none (suc i) (omega (arith, l)))

-- components rise from place to place
rises_apart : (es : List Entry) (i j : ℕ) (x : Entry) → rises es ≡ true → i < j → j < length es → (get_or es i x).component < (get_or es j x).component
rises_apart [] i j x s l m = absurd (omega arith)
rises_apart (e ∷ es) i zero x s l m = absurd (omega arith)
rises_apart (e ∷ es) zero (suc j) x s l m = first_lower e es j x s (omega arith)
rises_apart (e ∷ es) (suc i) (suc j) x s l m = rises_apart es i j x (rises_tail e es s) (omega arith) (omega arith)

pub parted_at : (es : List Entry) (k : ℕ) → rises es ≡ true → IsPartitionedBy (λ e. nat_lt e.component k) es
parted_at es k s = IsPartitionedBy-ltb (λ e. e.component) es k (λ i j d l m. elim (cases_lt i j) [
  | inl less ↦ omega (arith, rises_apart es i j d s less m)
  | inr same ↦ (let e : i ≡ j = omega (arith, l, same) in omega (arith, ap (λ z. (get_or es z d).component) e))
])

-- where the components below k end, the entry of k stands or none does
pub none_at : (es : List Entry) (x : Entry) (k p : ℕ) → IsPartitionPoint (λ e. nat_lt e.component k ≡ true) (λ e. nat_lt e.component k ≡ false) es p → rises es ≡ true →
    (p < length es → (get_or es p x).component ≡ k → ⊥) → entry_of k es ≡ None
none_at es x k p point s other = no_entry es x k (λ i l same. elim (cases_lt i p) [
  | inl before ↦ omega (arith, same, ltb-true _ _ (point.0 i x (omega arith) before))
  | inr behind ↦ elim (cases_lt p i) [
    | inl after ↦ omega (arith, same, rises_apart es p i x s after l, ltb-false _ _ (point.1 p x (omega arith) (omega (arith, after, l))))
    | inr at ↦ (let e : p ≡ i = omega (arith, behind, at) in other (omega (arith, e, l)) (ap (λ z. (get_or es z x).component) e ∙ same))
  ]
])

-- the first refusal, by what its two tests say
pub refusal_by : (es : List Entry) (r z : Bool) → rises es ≡ r → has_zero es ≡ z → view_refusal es ≡ (if not r then Some NotRising else if z then Some ZeroNumber else None)
refusal_by es r z e f = rw (e, f) refl
