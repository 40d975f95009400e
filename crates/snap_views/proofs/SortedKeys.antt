-- Keys of two numbers, sorted by the first and then by the second.
use Rattle.std.proofs.Common.{◌≡◌, ◌≢◌, ℕ, ◌+◌, ◌*◌, ◌<◌, ◌≤◌, List, map, length, get_or, eqb, sym, ap, ◌∙◌, inl, inr, arith}
use Rattle.std.specs.List.{All, AllPairs, IsDistinct}
use Rattle.std.specs.List.Sorted.{IsNonDecreasingBy, IsPermutation}
use Rattle.std.proofs.Math.Nat.{mul-le-mul_right}
use Rattle.std.proofs.lemmas.Bool.{cases_eq, cases_order, eqb-false, eq-eqb, ne_eqb}
use Rattle.std.proofs.lemmas.List.{get_or-map, length-map}
use Rattle.std.proofs.lemmas.List.Sorted.{IsPermutation-map}
use Rattle.std.proofs.lemmas.Map.Keys.{IsDistinct-IsPermutation, apart_from_distinct}
use Rattle.snap_theory.specs.KeyOrder.{KeyLess, as_one}

-- the second numbers of keys
abbrev pub seconds : List (ℕ × ℕ) → List ℕ
seconds keys = map (λ k. k.1) keys

-- of two keys with different second numbers, both below a unit, the one that is no greater as one number is less
less_as_one : (unit : ℕ) (a b : ℕ × ℕ) → b.1 < unit → as_one unit a ≤ as_one unit b → a.1 ≢ b.1 → KeyLess a b
less_as_one unit a b small l apart = elim (cases_order a.0 b.0) [
  | inl same ↦ inr (same, by_second same)
  | inr (inl less) ↦ inl less
  | inr (inr more) ↦ let step : (b.0 + 1) * unit ≤ a.0 * unit = mul-le-mul_right unit (omega (arith, more)) in absurd (omega (arith, l, small, step))
]
  where
    by_second : a.0 ≡ b.0 → a.1 < b.1
    by_second same = elim (cases_order a.1 b.1) [
      | inl e ↦ absurd (apart e)
      | inr (inl less) ↦ less
      | inr (inr more) ↦ let as_many = ap (λ n. n * unit) same in absurd (omega (arith, l, as_many, more))
    ]

eqb_flips : (x y : ℕ) → eqb x y ≡ eqb y x
eqb_flips x y = elim (cases_eq x y) [
  | inl e ↦ eq-eqb x y e ∙ sym (eq-eqb y x (sym e))
  | inr n ↦ ne_eqb x y n ∙ sym (ne_eqb y x (λ e. n (sym e)))
]

seconds_apart : (given keys : List (ℕ × ℕ)) → IsPermutation given keys → IsDistinct eqb (seconds given) → (i j : ℕ) (d : ℕ × ℕ) → i < j → j < length keys → (get_or keys i d).1 ≢ (get_or keys j d).1
seconds_apart given keys p distinct i j d l m e =
    let apart = IsDistinct-IsPermutation eqb eqb_flips (seconds given) (seconds keys) (IsPermutation-map (λ (k : ℕ × ℕ). k.1) given keys p) distinct in
    let size = length-map keys (λ (k : ℕ × ℕ). k.1) in
    let at = apart_from_distinct eqb (seconds keys) i j d.1 apart l (omega (arith, m, size)) in
    eqb-false _ _ at (get_or-map (λ (k : ℕ × ℕ). k.1) keys i d d.1 (omega (arith, l, m)) ∙ e ∙ sym (get_or-map (λ (k : ℕ × ℕ). k.1) keys j d d.1 m))

-- keys of which no two have the same second number rise where they do not fall as one number
pub keys_rise : (unit : ℕ) (given keys : List (ℕ × ℕ)) → IsPermutation given keys → IsDistinct eqb (seconds given) → All (λ (k : ℕ × ℕ). k.1 < unit) keys → IsNonDecreasingBy (as_one unit) keys → AllPairs KeyLess keys
keys_rise unit given keys p distinct small up i j d l m = less_as_one unit (get_or keys i d) (get_or keys j d) (small j d m) (up i j d (omega (arith, l)) m) (seconds_apart given keys p distinct i j d l m)
