-- The row of a view's numbers.
use Rattle.std.proofs.Common.{◌≡◌, ℕ, zero, suc, ◌+◌, ◌<◌, true, false, cond, List, [], ◌∷◌, take, set, replicate, length, get_or, Option, Some, None, refl, sym, ap, ◌∙◌, subst, inl, inr, arith, get_or-set_same, get_or-set_other}
use Rattle.std.specs.Prelude.{◌==◌}
use Rattle.std.specs.Option.{option_or}
use Rattle.std.proofs.lemmas.List.{take_more, get_or-replicate}
use Rattle.std.proofs.lemmas.List.Folds.{find-append}
use Rattle.std.proofs.lemmas.Bool.{cases_eq, eq-eqb, ne_eqb}
use Rattle.snap_core.specs.declared.entry.Entry.{Entry}
use Rattle.snap_core.specs.Entries.{entry_of, number_in}
use Rattle.snap_core.specs.Calls.{Call, entries_of, shown, shown_number}
use Rattle.snap_core.proofs.Lists.{In, In-get_or}
use Rattle.snap_views.specs.Rows.{number_among}
use Rattle.snap_theory.proofs.Entries.{AreSorted, sorted_tail, above, unlisted, listed_first, listed_behind}

-- entries in front of one have lower components
in_front : (es : List Entry) (i : ℕ) (x d : Entry) → AreSorted es → i < length es → In d (take i es) → d.component < (get_or es i x).component
in_front [] i x d s l h = absurd (omega arith)
in_front (e ∷ es) zero x d s l h = absurd h
in_front (e ∷ es) (suc i) x d s l (inl same) = subst (λ (z : Entry). z.component < (get_or es i x).component) same (above e es s (get_or es i x) (In-get_or es i x (omega arith)))
in_front (e ∷ es) (suc i) x d s l (inr h) = in_front es i x d (sorted_tail e es s) (omega arith) h

-- one more entry after those looked at
pub among_more : (es : List Entry) (i : ℕ) (x : Entry) (k : ℕ) → AreSorted es → i < length es →
    number_among (take (i + 1) es) k ≡ cond ((get_or es i x).component == k) (get_or es i x).number (number_among (take i es) k)
among_more es i x k s l =
    ap (λ z. number_in (entry_of k z)) (take_more es i x l)
    ∙ ap number_in (find-append (λ e. e.component == k) (take i es) (get_or es i x ∷ []))
    ∙ elim (cases_eq e.component k) [ inl same ↦ here same | inr other ↦ away other ]
  where
    e : Entry
    e = get_or es i x

    keeps : (o : Option Entry) → option_or o None ≡ o
    keeps None = refl
    keeps (Some d) = refl

    here : e.component ≡ k → number_in (option_or (entry_of k (take i es)) (entry_of k (e ∷ []))) ≡ cond (e.component == k) e.number (number_among (take i es) k)
    here same =
        let t : (e.component == k) ≡ true = eq-eqb e.component k same in
        let none : entry_of k (take i es) ≡ None = unlisted k (take i es) (λ d j q. omega (arith, in_front es i x d s l j, same, q)) in
        rw (t, none) refl

    away : (e.component ≡ k → ⊥) → number_in (option_or (entry_of k (take i es)) (entry_of k (e ∷ []))) ≡ cond (e.component == k) e.number (number_among (take i es) k)
    away other =
        let f : (e.component == k) ≡ false = ne_eqb e.component k other in
        rw f (ap number_in (keeps (entry_of k (take i es))))

pub row_started : (es : List Entry) (k : ℕ) → k < 256 → get_or (replicate 256 0) k 0 ≡ number_among (take 0 es) k
row_started es k l = get_or-replicate 256 k 0 0 l

pub row_step : (es : List Entry) (i : ℕ) (x : Entry) (numbers : List ℕ) → AreSorted es → i < length es → length numbers ≡ 256 →
    ((k : ℕ) → k < 256 → get_or numbers k 0 ≡ number_among (take i es) k) →
    (k : ℕ) → k < 256 → get_or (set numbers (get_or es i x).component (get_or es i x).number) k 0 ≡ number_among (take (i + 1) es) k
row_step es i x numbers s l n h k m = sym (among_more es i x k s l ∙ elim (cases_eq (get_or es i x).component k) [
  | inl same ↦
      let t : ((get_or es i x).component == k) ≡ true = eq-eqb (get_or es i x).component k same in
      let within : k < length numbers = omega arith in
      rw (t, same) (sym (get_or-set_same numbers k (get_or es i x).number 0 within))
  | inr other ↦
      let f : ((get_or es i x).component == k) ≡ false = ne_eqb (get_or es i x).component k other in
      rw f (sym (get_or-set_other numbers (get_or es i x).component k (get_or es i x).number 0 (λ q. other (sym q)) ∙ h k m))
])

-- a view shows of a component that it lists the entry that it lists
pub entry_at : (es : List Entry) (i : ℕ) (x : Entry) → AreSorted es → i < length es → entry_of (get_or es i x).component es ≡ Some (get_or es i x)
entry_at [] i x s l = absurd (omega arith)
entry_at (e ∷ es) zero x s l = listed_first e es
entry_at (e ∷ es) (suc i) x s l =
    let higher = above e es s (get_or es i x) (In-get_or es i x (omega arith)) in
    listed_behind (get_or es i x).component e es (λ q. omega (arith, higher, q)) ∙ entry_at es i x (sorted_tail e es s) (omega arith)

pub among_is_shown : (r : Call) (k : ℕ) → number_among (entries_of r.operation) k ≡ shown_number r k
unfolding shown_number shown
among_is_shown r k = refl
