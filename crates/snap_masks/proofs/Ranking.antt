-- Ranks of numbers, and masks by them.
use Rattle.std.proofs.Common.{◌≡◌, ℕ, ◌+◌, ◌<◌, ◌≤◌, List, length, get_or, refl, sym, ap, ◌∙◌, inl, inr, arith}
use Rattle.std.specs.Prelude.{nat_lt}
use Rattle.std.specs.List.{Contains}
use Rattle.std.specs.List.Sorted.{IsNonDecreasing, IsStrictlyIncreasing}
use Rattle.std.proofs.lemmas.Bool.{cases_lt, lt-ltb, le-ltb}
use Rattle.std.proofs.lemmas.List.{get_or_default}
use Rattle.std.proofs.lemmas.List.Elements.{Contains-get_or}
use Rattle.std.proofs.lemmas.List.Kept.{AllPairs-from_increasing}
use Rattle.snap_masks.specs.Numbers.{IsOrderedAs}
use Rattle.snap_masks.specs.Masks.{mask_by}
use Rattle.snap_masks.specs.Ranks.{IsRank, AreDistinct, AreRanks}
use Rattle.snap_masks.proofs.Bits.{mask_places, mask_below_same}

pub no_falls : (distinct : List ℕ) → IsStrictlyIncreasing distinct → IsNonDecreasing distinct
no_falls distinct order i j d l m = elim (cases_lt i j) [
  | inl before ↦ let less = AllPairs-from_increasing distinct order i j d before m in omega (arith, less)
  | inr behind ↦
      let same : i ≡ j = omega (arith, l, behind) in
      omega (arith, ap (λ k. get_or distinct k d) same)
]

-- where the number at its rank is x, one more is below x + 1
pub rank_of_equal : (distinct : List ℕ) (x rank : ℕ) → IsStrictlyIncreasing distinct → IsRank distinct x rank → rank < length distinct → get_or distinct rank 0 ≡ x → IsRank distinct (x + 1) (rank + 1)
rank_of_equal distinct x rank order r within equal = record {
  within = omega (arith, within);
  before = λ i l. elim (cases_lt i rank) [
    | inl before ↦ omega (arith, r.before i before)
    | inr behind ↦
        let same : i ≡ rank = omega (arith, l, behind) in
        omega (arith, equal, ap (λ k. get_or distinct k 0) same)
  ];
  behind = λ i l m. omega (arith, equal, AllPairs-from_increasing distinct order rank i 0 (omega (arith, l)) m);
}

-- where no number is x, as many are below x + 1
pub rank_of_other : (distinct : List ℕ) (x rank : ℕ) → IsStrictlyIncreasing distinct → IsRank distinct x rank → (rank < length distinct → get_or distinct rank 0 ≡ x → Prim.⊥) → IsRank distinct (x + 1) rank
rank_of_other distinct x rank order r other = record {
  within = r.within;
  before = λ i l. omega (arith, r.before i l);
  behind = λ i l m.
      let here = r.behind rank (omega arith) (omega (arith, l, m)) in
      let up = no_falls distinct order rank i 0 l m in
      omega (arith, here, up, other (omega (arith, l, m)));
}

-- the rank of a number that is among the distinct ones
pub rank_small : (distinct : List ℕ) (n rank : ℕ) → Contains distinct n → IsRank distinct n rank → rank < length distinct
rank_small distinct n rank at r = elim (cases_lt at.0 rank) [
  | inl before ↦ absurd (omega (arith, sym (get_or_default distinct at.0 n 0 at.1) ∙ at.2, r.before at.0 before))
  | inr behind ↦ omega (arith, behind, at.1)
]

-- a number among the distinct ones whose rank is not below that of x is at least x
at_least : (distinct : List ℕ) (n x rank_n rank_x : ℕ) → Contains distinct n → IsRank distinct n rank_n → IsRank distinct x rank_x → rank_x ≤ rank_n → x ≤ n
at_least distinct n x rank_n rank_x at r s l =
    let k = at.0 in
    let here : get_or distinct k 0 ≡ n = sym (get_or_default distinct k n 0 at.1) ∙ at.2 in
    elim (cases_lt k rank_n) [
      | inl before ↦ absurd (omega (arith, here, r.before k before))
      | inr behind ↦ omega (arith, here, s.behind k (omega (arith, l, behind)) at.1)
    ]

-- ranks compare as the numbers do
same_order : (numbers distinct ranks : List ℕ) (a x rank : ℕ) → AreDistinct numbers distinct → AreRanks numbers distinct ranks → IsRank distinct x rank → a < length numbers → nat_lt (get_or ranks a 0) rank ≡ nat_lt (get_or numbers a 0) x
same_order numbers distinct ranks a x rank all r s l = elim (cases_lt (get_or ranks a 0) rank) [
  | inl below ↦
      let under = s.before (get_or ranks a 0) below in
      let least = (r.each a l).behind (get_or ranks a 0) (omega arith) (omega (arith, below, s.within)) in
      lt-ltb _ _ below ∙ sym (lt-ltb (get_or numbers a 0) x (omega (arith, under, least)))
  | inr above ↦
      let member = all.each (get_or numbers a 0) (Contains-get_or numbers a 0 l) in
      le-ltb _ _ above ∙ sym (le-ltb (get_or numbers a 0) x (at_least distinct (get_or numbers a 0) x (get_or ranks a 0) rank member (r.each a l) s above))
]

pub ordered : (numbers distinct ranks : List ℕ) → AreDistinct numbers distinct → AreRanks numbers distinct ranks → IsOrderedAs numbers ranks
ordered numbers distinct ranks all r = record {
  count = r.count;
  order = λ a b l m. same_order numbers distinct ranks a (get_or numbers b 0) (get_or ranks b 0) all r (r.each b m) l;
}

pub ranked_mask : (numbers distinct ranks : List ℕ) (mask x rank : ℕ) → AreDistinct numbers distinct → AreRanks numbers distinct ranks → IsRank distinct x rank → mask ≡ mask_by (λ n. nat_lt n rank) ranks → mask ≡ mask_by (λ n. nat_lt n x) numbers
ranked_mask numbers distinct ranks mask x rank all r s e =
    e ∙ mask_places (λ n. nat_lt n rank) ranks (length numbers) r.count
    ∙ mask_below_same (λ a. nat_lt (get_or ranks a 0) rank) (λ a. nat_lt (get_or numbers a 0) x) (length numbers) (λ a l. same_order numbers distinct ranks a x rank all r s l)
    ∙ sym (mask_places (λ n. nat_lt n x) numbers (length numbers) refl)
