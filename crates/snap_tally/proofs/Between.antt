-- The entries of the components from one to before another.
use Rattle.std.proofs.Common.{◌≡◌, ◌≢◌, ℕ, zero, suc, ◌+◌, ◌-◌, ◌<◌, ◌≤◌, true, false, cond, List, [], ◌∷◌, take, drop, length, get_or, Some, refl, sym, ap, ◌∙◌, inl, inr, arith}
use Rattle.std.specs.Prelude.{nat_lt, ◌==◌}
use Rattle.std.specs.List.Sorted.{IsPartitionPoint}
use Rattle.std.proofs.lemmas.Bool.{cases_lt, ltb-true, ltb-false}
use Rattle.std.proofs.lemmas.List.{get_or-take, get_or-drop, length-take, length-drop}
use Rattle.snap_core.specs.declared.entry.Entry.{Entry}
use Rattle.snap_core.specs.Entries.{entry_of, rises}
use Rattle.snap_core.proofs.Rising.{rises_from, rises_at}
use Rattle.snap_views.specs.Rows.{number_among}
use Rattle.snap_core.specs.Entries.{number_in}
use Rattle.snap_theory.proofs.Entries.{listed_behind, nothing}

-- entries that do not list a component, before others or after them, change nothing of what is found of it

without_front : (es : List Entry) (k m : ℕ) → ((i : ℕ) → i < m → i < length es → (get_or es i nothing).component ≢ k) → entry_of k (drop m es) ≡ entry_of k es
without_front es k zero h = refl
without_front [] k (suc m) h = refl
without_front (e ∷ es) k (suc m) h = without_front es k m (λ i l b. h (suc i) (omega (arith, l)) (omega (arith, b))) ∙ sym (listed_behind k e es (h 0 (omega arith) (omega arith)))

without_rest : (es : List Entry) (k m : ℕ) → ((i : ℕ) → m ≤ i → i < length es → (get_or es i nothing).component ≢ k) → entry_of k (take m es) ≡ entry_of k es
without_rest [] k zero h = refl
without_rest [] k (suc m) h = refl
without_rest (e ∷ es) k zero h = without_rest es k zero (λ i l b. h (suc i) (omega arith) (omega (arith, b))) ∙ sym (listed_behind k e es (h 0 (omega arith) (omega arith)))
without_rest (e ∷ es) k (suc m) h = ap (λ o. cond (e.component == k) (Some e) o) (without_rest es k m (λ i l b. h (suc i) (omega (arith, l)) (omega (arith, b))))

-- the place in front of which all components are below one, and from which on none is
abbrev pub PartsAt : List Entry → ℕ → ℕ → Type 0
PartsAt es k i = IsPartitionPoint (λ (e : Entry). nat_lt e.component k ≡ true) (λ (e : Entry). nat_lt e.component k ≡ false) es i

pub in_order : (es : List Entry) (from to first end : ℕ) → from ≤ to → first ≤ length es → PartsAt es from first → PartsAt es to end → first ≤ end
in_order es from to first end l b p q = elim (cases_lt end first) [
  | inl less ↦ absurd (omega (arith, l, ltb-true _ _ (p.0 end nothing (omega arith) less), ltb-false _ _ (q.1 end nothing (omega arith) (omega (arith, less, b)))))
  | inr more ↦ omega (arith, more)
]

pub numbers_between : (es : List Entry) (from to first end k : ℕ) → from ≤ to → first ≤ length es → PartsAt es from first → PartsAt es to end → from ≤ k → k < to → number_among (take (end - first) (drop first es)) k ≡ number_among es k
numbers_between es from to first end k o f p q low high = ap number_in (without_rest (drop first es) k (end - first) behind ∙ without_front es k first before)
  where
    before : (i : ℕ) → i < first → i < length es → (get_or es i nothing).component ≢ k
    before i m b same = omega (arith, low, same, ltb-true _ _ (p.0 i nothing (omega arith) m))

    behind : (i : ℕ) → end - first ≤ i → i < length (drop first es) → (get_or (drop first es) i nothing).component ≢ k
    behind i m b same =
        let at : (get_or (drop first es) i nothing).component ≡ (get_or es (first + i) nothing).component = ap (λ (e : Entry). e.component) (get_or-drop first es i nothing) in
        omega (arith, high, same, at, ltb-false _ _ (q.1 (first + i) nothing (omega (arith, m, in_order es from to first end o f p q)) (omega (arith, b, length-drop first es))))

-- a slice of entries rises as they do
pub slice_rises : (es : List Entry) (first n : ℕ) → rises es ≡ true → first ≤ length es → rises (take n (drop first es)) ≡ true
slice_rises es first n s b = rises_from (take n (drop first es)) (λ j d l.
    let within : (suc j < n) × (suc j < length (drop first es)) = (omega (arith, l, length-take n (drop first es)), omega (arith, l, length-take n (drop first es))) in
    let at : (i : ℕ) → i < n → get_or (take n (drop first es)) i d ≡ get_or es (first + i) d = λ i m. get_or-take {A = Entry} n (drop first es) i d m ∙ get_or-drop first es i d in
    let next : first + suc j ≡ suc (first + j) = omega arith in
    let here : (get_or (take n (drop first es)) j d).component ≡ (get_or es (first + j) d).component = ap (λ (e : Entry). e.component) (at j (omega (arith, within.0))) in
    let there : (get_or (take n (drop first es)) (suc j) d).component ≡ (get_or es (suc (first + j)) d).component = ap (λ (e : Entry). e.component) (at (suc j) within.0 ∙ ap (λ i. get_or es i d) next) in
    omega (arith, here, there, rises_at es (first + j) d s (omega (arith, within.1, length-drop first es))))
