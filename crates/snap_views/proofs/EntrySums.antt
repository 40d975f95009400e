-- The sum of the numbers that a view shows, by its entries.
use Rattle.std.proofs.Common.{◌≡◌, ℕ, zero, suc, ◌+◌, ◌<◌, ◌≤◌, Bool, true, false, cond, List, [], ◌∷◌, Some, refl, sym, ap, ◌∙◌, inl, inr, arith}
use Rattle.std.specs.Prelude.{◌==◌}
use Rattle.std.specs.List.{sum_by, range_with_len}
use Rattle.std.proofs.lemmas.Bool.{eqb-true, eq-eqb, ne_eqb, cases_eq}
use Rattle.std.proofs.lemmas.List.Elements.{All-contains}
use Rattle.std.proofs.lemmas.List.Sums.{sum_by-cons}
use Rattle.snap_core.specs.declared.entry.Entry.{Entry}
use Rattle.snap_core.specs.Entries.{EntryFits, AreEntries, entry_of, number_in}
use Rattle.snap_core.specs.Calls.{Call, entries_of, shown, shown_number}
use Rattle.snap_core.proofs.Lists.{In, Contains-from_In}
use Rattle.snap_theory.specs.Faults.{components}
use Rattle.snap_views.specs.Quick.{shown_sum, entry_sum}
use Rattle.snap_theory.proofs.Entries.{AreSorted, sorted, sorted_tail, above, unlisted}

sum_add : (f g : ℕ → ℕ) (xs : List ℕ) → sum_by (λ x. f x + g x) xs ≡ sum_by f xs + sum_by g xs
sum_add f g [] = refl
sum_add f g (x ∷ xs) = omega (arith, sum_by-cons (λ y. f y + g y) x xs, sum_by-cons f x xs, sum_by-cons g x xs, sum_add f g xs)

-- a number that stands at one place of a range, and 0 at the others
sum_past : (n c len a : ℕ) → c < a → sum_by (λ k. cond (c == k) n 0) (range_with_len a len) ≡ 0
sum_past n c zero a l = refl
sum_past n c (suc len) a l =
    let none : cond (c == a) n 0 ≡ 0 = ap {B = ℕ} (λ b. cond b n 0) (ne_eqb c a (λ e. absurd (omega (arith, l, e)))) in
    omega (arith, none, sum_by-cons (λ k. cond (c == k) n 0) a (range_with_len (a + 1) len), sum_past n c len (a + 1) (omega (arith, l)))

sum_at : (n c len a : ℕ) → a ≤ c → c < a + len → sum_by (λ k. cond (c == k) n 0) (range_with_len a len) ≡ n
sum_at n c zero a l m = absurd (omega (arith, l, m))
sum_at n c (suc len) a l m = elim (cases_eq c a) [
  | inl e ↦
      let here : cond (c == a) n 0 ≡ n = ap {B = ℕ} (λ b. cond b n 0) (eq-eqb c a e) in
      omega (arith, here, sum_by-cons (λ k. cond (c == k) n 0) a (range_with_len (a + 1) len), sum_past n c len (a + 1) (omega (arith, e)))
  | inr other ↦
      let none : cond (c == a) n 0 ≡ 0 = ap {B = ℕ} (λ b. cond b n 0) (ne_eqb c a other) in
      omega (arith, none, sum_by-cons (λ k. cond (c == k) n 0) a (range_with_len (a + 1) len), sum_at n c len (a + 1) (omega (arith, l, other)) (omega (arith, m)))
]

abbrev number_at : List Entry → ℕ → ℕ
number_at es k = number_in (entry_of k es)

number-cons : (e : Entry) (es : List Entry) → AreSorted (e ∷ es) → (k : ℕ) → number_at (e ∷ es) k ≡ cond (e.component == k) e.number 0 + number_at es k
number-cons e es r k = at (e.component == k) refl
  where
    at : (b : Bool) → (e.component == k) ≡ b → number_in (cond b (Some e) (entry_of k es)) ≡ cond b e.number 0 + number_at es k
    at true t =
        let same = eqb-true e.component k t in
        let none : number_at es k ≡ 0 = ap number_in (unlisted k es (λ d i q. let m = above e es r d i in omega (arith, m, same, q))) in
        omega (arith, none)
    at false t = omega arith

-- the sum of entries, by components
by_components : (es : List Entry) → AreSorted es → ((e : Entry) → In e es → e.component < 256) → sum_by (number_at es) components ≡ entry_sum es
by_components [] r b = refl
by_components (e ∷ es) r b =
    (λ i. sum_by (λ k. number-cons e es r k i) components)
    ∙ sum_add (λ k. cond (e.component == k) e.number 0) (number_at es) components
    ∙ ap (λ z. z + sum_by (number_at es) components) (sum_at e.number e.component 256 0 (omega arith) (let m = b e (inl refl) in omega (arith, m)))
    ∙ ap (λ z. e.number + z) (by_components es (sorted_tail e es r) (λ d i. b d (inr i)))
    ∙ sym (sum_by-cons (λ (d : Entry). d.number) e es)

pub sum_is : (r : Call) → AreEntries (entries_of r.operation) → shown_sum r ≡ entry_sum (entries_of r.operation)
unfolding shown_sum shown_number shown
sum_is r f = by_components (entries_of r.operation) (sorted (entries_of r.operation) f) (λ e i. (All-contains EntryFits (entries_of r.operation) e f.fit (Contains-from_In (entries_of r.operation) e i)).0)
