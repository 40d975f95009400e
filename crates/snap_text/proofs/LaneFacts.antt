-- How many bytes two texts have alike at their fronts, by the lanes of a comparison.
use Rattle.std.proofs.Common.{◌≡◌, ◌≢◌, ◌≤◌, ◌∙◌, ℕ, zero, suc, Bool, not, List, [], ◌∷◌, eqb, length, length-take-le, map, take, refl, sym, ap, arith}
use Rattle.std.specs.List.{prefix_len}
use Rattle.std.proofs.lemmas.Bool.Decides.{nat_tests}
use Rattle.std.proofs.lemmas.List.{map-id, take-take}
use Rattle.std.proofs.lemmas.List.Sums.{prefix_len-le-length}
use Rattle.std.proofs.lemmas.Simd.{leading_from_mask_l, length-zip2, trailing_mask_l}
use lib.Count.{count_trailing_zeros}
use lib.Lanes.{mask_l, zip2}

-- whether two lanes differ
abbrev pub differ : ℕ → ℕ → Bool
differ x y = not (eqb x y)

-- before the first lane that differs both are the same
alike : (xs ys : List ℕ) (k : ℕ) → length xs ≡ length ys → k ≤ prefix_len (λ b. not b) (zip2 differ xs ys) → take k xs ≡ take k ys
alike xs ys zero e l = refl
alike [] [] (suc k) e l = refl
alike [] (y ∷ ys) (suc k) e l = absurd (omega (arith, e))
alike (x ∷ xs) [] (suc k) e l = absurd (omega (arith, e))
alike (x ∷ xs) (y ∷ ys) (suc k) e l = grind (arith, nat_tests, alike xs ys k)

-- the first n bytes of two texts, and the mask of the lanes in which they differ
module _ (a b : List ℕ) (n : ℕ) (first : n ≤ length a) (second : n ≤ length b) (short : n ≤ 64) (m : ℕ) (is : m ≡ mask_l (zip2 differ (take n a) (take n b))) where
  abbrev lanes : List Bool
  lanes = zip2 differ (take n a) (take n b)

  same_length : length (take n a) ≡ length (take n b)
  same_length = length-take-le n a first ∙ sym (length-take-le n b second)

  long : length lanes ≡ n
  long = length-zip2 differ (take n a) (take n b) same_length ∙ length-take-le n a first

  same_to : (k : ℕ) → k ≤ n → k ≤ prefix_len (λ b. not b) lanes → take k a ≡ take k b
  same_to k within l =
      let cut : (xs : List ℕ) → take k (take n xs) ≡ take k xs = λ xs. take-take k n xs within in
      sym (cut a) ∙ alike (take n a) (take n b) k same_length l ∙ cut b

  is_mapped : m ≡ mask_l (map (λ (b : Bool). b) lanes)
  is_mapped = is ∙ ap mask_l (sym (map-id lanes))

  -- where no bit of the mask is set
  pub all_same : m ≡ 0 → take n a ≡ take n b
  all_same none = same_to n (omega arith) (omega (arith, long, leading_from_mask_l (λ (b : Bool). b) lanes (sym is_mapped ∙ none)))

  -- and else before its lowest bit
  pub same_before : m ≢ 0 → (count_trailing_zeros 64 m ≤ n) × (take (count_trailing_zeros 64 m) a ≡ take (count_trailing_zeros 64 m) b)
  same_before some =
      let k = count_trailing_zeros 64 m in
      let lowest : k ≡ prefix_len (λ b. not b) lanes = ap (count_trailing_zeros 64) is_mapped ∙ trailing_mask_l (λ (b : Bool). b) 64 lanes (omega (arith, long, short)) (omega (arith, is_mapped, some)) in
      let within : k ≤ n = omega (arith, lowest, long, prefix_len-le-length (λ b. not b) lanes) in
      (within, same_to k within (omega (arith, lowest)))
