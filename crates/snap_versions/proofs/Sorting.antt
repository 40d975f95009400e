-- What a sort by two numbers gives.
use Rattle.std.proofs.Common.{◌≡◌, ◌⊎◌, ℕ, ◌<◌, ◌≤◌, List, Ordering, false, sym, ap, ◌∙◌, refl, inl, inr, arith}
use Rattle.std.specs.Ordering.{nat_cmp, ordering_then, is_lt}
use Rattle.std.specs.List.{AllPairs}
use Rattle.std.specs.List.Sorted.{IsSortedByKey}
use Rattle.std.specs.Cmp.{IsTotalOrder}
use Rattle.std.proofs.lemmas.Bool.{false≢true}
use Rattle.std.proofs.lemmas.Cmp.{by_ranked, ranked, nat_cmp_total, on_total, then_total}
use Rattle.std.proofs.lemmas.List.Sorted.{ranks_by, sorted_far}
use Rattle.std.proofs.lemmas.Map.Keys.{ge_from_not_lt}

-- pairs of numbers by the first, and then by the second
abbrev pub pair_cmp : ℕ × ℕ → ℕ × ℕ → Ordering
pair_cmp x y = ordering_then (nat_cmp x.0 y.0) (nat_cmp x.1 y.1)

abbrev pub IsNoMore : ℕ × ℕ → ℕ × ℕ → Type 0
IsNoMore a b = (a.0 < b.0) ⊎ ((a.0 ≡ b.0) × (a.1 ≤ b.1))

pairs_total : IsTotalOrder pair_cmp
pairs_total = then_total (on_total (λ (p : ℕ × ℕ). p.0) nat_cmp_total) (on_total (λ (p : ℕ × ℕ). p.1) nat_cmp_total)

no_more : (a b : ℕ × ℕ) → is_lt (pair_cmp b a) ≡ false → IsNoMore a b
no_more a b h = by_ranked (b.0 < a.0) (b.0 ≡ a.0) (a.0 < b.0) (nat_cmp b.0 a.0) (ranked b.0 a.0 (nat_cmp b.0 a.0) refl)
    (λ is less. absurd (false≢true (sym h ∙ ap (λ o. is_lt (ordering_then o (nat_cmp b.1 a.1))) is)))
    (λ is same. inr (sym same, ge_from_not_lt b.1 a.1 (sym (ap (λ o. is_lt (ordering_then o (nat_cmp b.1 a.1))) is) ∙ h)))
    (λ is more. inl more)

pub sorted_pairs : {X : Type 0} (key : X → ℕ × ℕ) (xs : List X) → IsSortedByKey key pair_cmp xs → AllPairs (λ a b. IsNoMore (key a) (key b)) xs
sorted_pairs key xs up i j d l m = no_more _ _ (sorted_far (λ a b. is_lt (pair_cmp (key a) (key b))) (ranks_by pairs_total key) xs up i j d (omega (arith, l)) m)
