-- What a view shows beside what was left.
use Rattle.std.proofs.Common.{◌≡◌, ◌⊎◌, ℕ, ◌<◌, ◌≤◌, List, length, Option, Some, None, refl, sym, ap, ◌∙◌, inl, inr, arith, slice_index_or}
use Rattle.std.specs.Prelude.{◌==◌}
use Rattle.std.proofs.lemmas.Bool.{eqb-true, eq-eqb, false≢true}
use Rattle.std.proofs.lemmas.List.{get_or_past}
use Rattle.snap_core.specs.declared.entry.Entry.{Entry}
use Rattle.snap_core.specs.Entries.{AreEntries, entry_of, number_in, value_in}
use Rattle.snap_core.proofs.Lists.{In, any_from}
use Rattle.snap_core.proofs.Members.{In-find}
use Rattle.snap_windows.specs.declared.last.Wrote.{Wrote}
use Rattle.snap_windows.specs.Missed.{ShowsAt}
use Rattle.snap_windows.specs.Last.{HasLeft, entry_in}

same_entry : (d e : Entry) → d.component ≡ e.component → d.number ≡ e.number → d.value ≡ e.value → d ≡ e
same_entry d e c n v =
    ap (λ (z : ℕ). record { component = z; number = d.number; value = d.value }) c
    ∙ ap (λ (z : ℕ). record { component = e.component; number = z; value = d.value }) n
    ∙ ap (λ (z : ℕ). record { component = e.component; number = e.number; value = z }) v

-- no entry has number 0
not_zero : (es : List Entry) (d : Entry) → AreEntries es → In d es → d.number ≡ 0 → ⊥
not_zero es d h i z = false≢true (sym h.positive ∙ any_from (λ x. x.number == 0) es d i (eq-eqb _ _ z))

-- a view shows an entry where the numbers and values are the same, and the number is not 0
pub shown_is : (es : List Entry) (k : ℕ) (e : Entry) → e.component ≡ k → 0 < e.number → number_in (entry_of k es) ≡ e.number → value_in (entry_of k es) ≡ e.value → entry_of k es ≡ Some e
shown_is es k e component positive number value = go (entry_of k es) refl number value
  where
    go : (o : Option Entry) → entry_of k es ≡ o → number_in o ≡ e.number → value_in o ≡ e.value → o ≡ Some e
    go None q n v = absurd (omega (arith, n, positive))
    go (Some d) q n v = let c : d.component ≡ e.component = eqb-true _ _ (In-find (λ x. x.component == k) es d q).1 ∙ sym component in let same : d ≡ e = same_entry d e c n v in ap Some same

-- and back
pub record Shown (es : List Entry) (k : ℕ) (e : Entry) : Type 0 where
  pub component : e.component ≡ k
  pub positive : 0 < e.number
  pub number : number_in (entry_of k es) ≡ e.number
  pub value : value_in (entry_of k es) ≡ e.value

pub shown_as : (es : List Entry) (k : ℕ) (e : Entry) → AreEntries es → entry_of k es ≡ Some e → Shown es k e
shown_as es k e h s = record {
  component = eqb-true _ _ (In-find (λ x. x.component == k) es e s).1;
  positive = (let z : e.number ≡ 0 → ⊥ = not_zero es e h (In-find (λ x. x.component == k) es e s).0 in omega (arith, z));
  number = ap number_in s;
  value = ap value_in s;
}

-- what is shown of a component of which nothing was left
pub shown_of_nothing : (left : ℕ → Option Entry) (es : List Entry) (k : ℕ) → AreEntries es → left k ≡ None → ShowsAt left es k
shown_of_nothing left es k h n = go (entry_of k es) refl
  where
    go : (o : Option Entry) → entry_of k es ≡ o → ShowsAt left es k
    go None q = inl (q ∙ sym n)
    go (Some d) q = inr (let p : d.number ≡ 0 → ⊥ = not_zero es d h (In-find (λ x. x.component == k) es d q).0 in omega (arith, ap number_in n, ap number_in q, p))

-- of a component that the table has, by its update
pub shown_of_left : (table : List (Option Wrote)) (left : ℕ → Option Entry) (es : List Entry) (k : ℕ) (w : Wrote) → HasLeft table left → slice_index_or table k None ≡ Some w → (entry_of k es ≡ Some w.entry) ⊎ (w.entry.number < number_in (entry_of k es)) → ShowsAt left es k
shown_of_left table left es k w h s x = go x
  where
    is : left k ≡ Some w.entry
    is = sym (h k) ∙ ap entry_in s

    go : (entry_of k es ≡ Some w.entry) ⊎ (w.entry.number < number_in (entry_of k es)) → ShowsAt left es k
    go (inl q) = inl (q ∙ sym is)
    go (inr l) = inr (omega (arith, l, ap number_in is))

-- and back
pub left_is_shown : (table : List (Option Wrote)) (left : ℕ → Option Entry) (es : List Entry) (k : ℕ) (w : Wrote) → HasLeft table left → slice_index_or table k None ≡ Some w → ShowsAt left es k → (entry_of k es ≡ Some w.entry) ⊎ (w.entry.number < number_in (entry_of k es))
left_is_shown table left es k w h s x = go x
  where
    is : left k ≡ Some w.entry
    is = sym (h k) ∙ ap entry_in s

    go : ShowsAt left es k → (entry_of k es ≡ Some w.entry) ⊎ (w.entry.number < number_in (entry_of k es))
    go (inl q) = inl (q ∙ is)
    go (inr l) = inr (omega (arith, l, ap number_in is))

-- the table has nothing of the other components
pub nothing_left : (table : List (Option Wrote)) (left : ℕ → Option Entry) (k : ℕ) → HasLeft table left → length table ≤ k → left k ≡ None
nothing_left table left k h past = sym (h k) ∙ ap entry_in (get_or_past table k None past)
