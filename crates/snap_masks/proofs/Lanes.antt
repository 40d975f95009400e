-- Masks by lanes of 64 bits.
use Rattle.std.proofs.Common.{◌≡◌, ℕ, zero, suc, ◌+◌, ◌*◌, ◌-◌, ◌/◌, ◌%◌, ◌<◌, ◌≤◌, ◌^◌, List, [], ◌∷◌, length, get_or, set, length-set, get_or-set_same, get_or-set_other, refl, sym, ap, ◌∙◌, subst, inl, inr, w64, arith}
use Rattle.std.specs.Prelude.{count_ones, bit_or, bit_and, bit_xor, max, min, sum_by}
use Rattle.std.specs.Int.{bit_at, trailing_zeros}
use Rattle.std.specs.Int.Bits.{block_half, and_lt}
use Rattle.std.specs.Simd.Lanes.{zip2, Each1, fold_l}
use Rattle.std.proofs.lemmas.Nat.Bits.{same_from_bits, bit_at-zero, bit_at_cat_low, bit_at_cat_high, bit_at_or, bit_at_and, bit_at_xor, bit_at-pow_same, bit_at-pow_other, bit_at-trailing_zeros}
use Rattle.std.proofs.lemmas.List.Sums.{sum_by-cons}
use Rattle.std.proofs.lemmas.Nat.{one_shl}
use Rattle.std.proofs.lemmas.Simd.{Each1-get_or, Each1-from_get_or}
use Rattle.std.proofs.Math.Pow.{pow-lt}
use Rattle.std.proofs.lemmas.Nat.{or_lt, xor_lt}
use lib.Count.{ones_step, ones-le}
use Rattle.std.proofs.lemmas.Bool.{cases_lt, cases_eq}
use Rattle.snap_masks.specs.Masks.{number_of_lanes, AreLanes}

-- the first lane stands lowest
joined : (x : ℕ) (xs : List ℕ) → number_of_lanes (x ∷ xs) ≡ number_of_lanes xs * 2 ^ 64 + x
joined x xs = grind arith

-- the bit of a place
pub bit_lane : (lanes : List ℕ) (i : ℕ) → Each1 (λ lane. lane < 2 ^ 64) lanes → bit_at (number_of_lanes lanes) i ≡ bit_at (get_or lanes (i / 64) 0) (i % 64)
bit_lane [] i h = bit_at-zero i ∙ sym (bit_at-zero (i % 64))
bit_lane (x ∷ xs) i h = elim (cases_lt i 64) [
  | inl l ↦
      let lane : i / 64 ≡ 0 = omega (arith, l) in
      let place : i % 64 ≡ i = omega (arith, l) in
      ap (λ n. bit_at n i) (joined x xs) ∙ bit_at_cat_low (number_of_lanes xs) 64 x i l ∙ sym (ap (λ k. bit_at (get_or (x ∷ xs) k 0) (i % 64)) lane ∙ ap (bit_at x) place)
  | inr l ↦
      let lane : i / 64 ≡ suc ((i - 64) / 64) = omega (arith, l) in
      let place : i % 64 ≡ (i - 64) % 64 = omega (arith, l) in
      ap (λ n. bit_at n i) (joined x xs) ∙ bit_at_cat_high (number_of_lanes xs) 64 x i h.0 l ∙ bit_lane xs (i - 64) h.1
      ∙ sym (ap (λ k. bit_at (get_or (x ∷ xs) k 0) (i % 64)) lane ∙ ap (bit_at (get_or xs ((i - 64) / 64) 0)) place)
]

-- an operation on bits, lane by lane

pub record IsBitwise (f : ℕ → ℕ → ℕ) (g : ℕ → ℕ → ℕ) : Type 0 where
  pub bits : (a b i : ℕ) → bit_at (f a b) i ≡ g (bit_at a i) (bit_at b i)
  pub small : (a b : ℕ) → a < 2 ^ 64 → b < 2 ^ 64 → f a b < 2 ^ 64
  pub nothing : f 0 0 ≡ 0

module _ (f g : ℕ → ℕ → ℕ) (op : IsBitwise f g) where
  pub zip_small : (xs ys : List ℕ) → Each1 (λ lane. lane < 2 ^ 64) xs → Each1 (λ lane. lane < 2 ^ 64) ys → Each1 (λ lane. lane < 2 ^ 64) (zip2 f xs ys)
  zip_small [] ys h k = h
  zip_small (x ∷ xs) [] h k = k
  zip_small (x ∷ xs) (y ∷ ys) h k = (op.small x y h.0 k.0, zip_small xs ys h.1 k.1)

  pub zip_number : (xs ys : List ℕ) → length xs ≡ length ys → Each1 (λ lane. lane < 2 ^ 64) xs → Each1 (λ lane. lane < 2 ^ 64) ys → number_of_lanes (zip2 f xs ys) ≡ f (number_of_lanes xs) (number_of_lanes ys)
  zip_number [] [] e h k = sym op.nothing
  zip_number [] (y ∷ ys) e h k = absurd (omega (arith, e))
  zip_number (x ∷ xs) [] e h k = absurd (omega (arith, e))
  zip_number (x ∷ xs) (y ∷ ys) e h k =
      same_from_bits _ _ (λ i. ap (λ n. bit_at n i) (joined (f x y) (zip2 f xs ys) ∙ ap (λ n. n * 2 ^ 64 + f x y) (zip_number xs ys (omega (arith, e)) h.1 k.1)) ∙ elim (cases_lt i 64) [
        | inl l ↦
            bit_at_cat_low (f (number_of_lanes xs) (number_of_lanes ys)) 64 (f x y) i l ∙ op.bits x y i
            ∙ sym (op.bits (number_of_lanes (x ∷ xs)) (number_of_lanes (y ∷ ys)) i ∙ (λ t. g (low x xs i l t) (low y ys i l t)))
        | inr l ↦
            bit_at_cat_high (f (number_of_lanes xs) (number_of_lanes ys)) 64 (f x y) i (op.small x y h.0 k.0) l ∙ op.bits (number_of_lanes xs) (number_of_lanes ys) (i - 64)
            ∙ sym (op.bits (number_of_lanes (x ∷ xs)) (number_of_lanes (y ∷ ys)) i ∙ (λ t. g (high x xs i l h.0 t) (high y ys i l k.0 t)))
      ])
    where
      low : (x : ℕ) (xs : List ℕ) (i : ℕ) → i < 64 → bit_at (number_of_lanes (x ∷ xs)) i ≡ bit_at x i
      low x xs i l = ap (λ n. bit_at n i) (joined x xs) ∙ bit_at_cat_low (number_of_lanes xs) 64 x i l

      high : (x : ℕ) (xs : List ℕ) (i : ℕ) → 64 ≤ i → x < 2 ^ 64 → bit_at (number_of_lanes (x ∷ xs)) i ≡ bit_at (number_of_lanes xs) (i - 64)
      high x xs i l h = ap (λ n. bit_at n i) (joined x xs) ∙ bit_at_cat_high (number_of_lanes xs) 64 x i h l

-- one more bit is set
module _ (lanes : List ℕ) (row new : ℕ) (lanes_are : AreLanes lanes) (few : row < 512) (e : new ≡ bit_or (get_or lanes (row / 64) 0) (1 * 2 ^ (row % 64) % 2 ^ 64)) where
  place : row / 64 < length lanes
  place = omega (arith, few, lanes_are.count)

  new_is : new ≡ bit_or (get_or lanes (row / 64) 0) (2 ^ (row % 64))
  new_is = e ∙ ap (bit_or (get_or lanes (row / 64) 0)) (one_shl (row % 64) 64 (omega arith))

  new_small : new < 2 ^ 64
  new_small = subst (λ n. n < 2 ^ 64) (sym new_is) (or_lt 64 (get_or lanes (row / 64) 0) (2 ^ (row % 64)) (Each1-get_or (λ lane. lane < 2 ^ 64) lanes (row / 64) 0 place lanes_are.small) (pow-lt {j = 64} (omega arith)))

  pub set_lanes : AreLanes (set lanes (row / 64) new)
  set_lanes = record {
    count = length-set _ _ _ ∙ lanes_are.count;
    small = Each1-from_get_or (λ lane. lane < 2 ^ 64) (set lanes (row / 64) new) 0 (λ i l. elim (cases_eq i (row / 64)) [
      | inl same ↦ subst (λ n. n < 2 ^ 64) (sym (ap (λ k. get_or (set lanes (row / 64) new) k 0) same ∙ get_or-set_same lanes (row / 64) new 0 place)) new_small
      | inr other ↦ subst (λ n. n < 2 ^ 64) (sym (get_or-set_other lanes (row / 64) i new 0 other)) (Each1-get_or (λ lane. lane < 2 ^ 64) lanes i 0 (omega (arith, l, length-set lanes (row / 64) new)) lanes_are.small)
    ]);
  }

  pub set_number : number_of_lanes (set lanes (row / 64) new) ≡ bit_or (number_of_lanes lanes) (2 ^ row)
  set_number = same_from_bits _ _ (λ i. bit_lane (set lanes (row / 64) new) i set_lanes.small ∙ elim (cases_eq (i / 64) (row / 64)) [
    | inl same ↦
        ap (λ k. bit_at (get_or (set lanes (row / 64) new) k 0) (i % 64)) same ∙ ap (λ n. bit_at n (i % 64)) (get_or-set_same lanes (row / 64) new 0 place ∙ new_is)
        ∙ bit_at_or (get_or lanes (row / 64) 0) (2 ^ (row % 64)) (i % 64) ∙ (λ t. max (old i same t) (powers i same t)) ∙ sym (bit_at_or (number_of_lanes lanes) (2 ^ row) i)
    | inr other ↦
        ap (λ n. bit_at n (i % 64)) (get_or-set_other lanes (row / 64) (i / 64) new 0 other) ∙ sym (bit_lane lanes i lanes_are.small)
        ∙ omega (arith, bit_at_or (number_of_lanes lanes) (2 ^ row) i, bit_at-pow_other row i (λ q. other (ap (λ n. n / 64) q)))
  ])
    where
      old : (i : ℕ) → i / 64 ≡ row / 64 → bit_at (get_or lanes (row / 64) 0) (i % 64) ≡ bit_at (number_of_lanes lanes) i
      old i same = sym (bit_lane lanes i lanes_are.small ∙ ap (λ k. bit_at (get_or lanes k 0) (i % 64)) same)

      powers : (i : ℕ) → i / 64 ≡ row / 64 → bit_at (2 ^ (row % 64)) (i % 64) ≡ bit_at (2 ^ row) i
      powers i same = elim (cases_eq i row) [
        | inl here ↦ ap (λ k. bit_at (2 ^ (row % 64)) (k % 64)) here ∙ bit_at-pow_same (row % 64) ∙ sym (ap (bit_at (2 ^ row)) here ∙ bit_at-pow_same row)
        | inr there ↦ bit_at-pow_other (row % 64) (i % 64) (λ q. there (omega (arith, q, same))) ∙ sym (bit_at-pow_other row i there)
      ]

-- the lowest bit

pub first_lane : (lanes : List ℕ) (lane : ℕ) → AreLanes lanes → lane < 8 → 0 < get_or lanes lane 0 → ((k : ℕ) → k < lane → get_or lanes k 0 ≡ 0) →
    (64 * lane + trailing_zeros w64 (get_or lanes lane 0) < 512) × (bit_at (number_of_lanes lanes) (64 * lane + trailing_zeros w64 (get_or lanes lane 0)) ≡ 1) × ((i : ℕ) → i < 64 * lane + trailing_zeros w64 (get_or lanes lane 0) → bit_at (number_of_lanes lanes) i ≡ 0)
first_lane lanes lane h l some none =
    let n : ℕ = get_or lanes lane 0 in
    let low = bit_at-trailing_zeros w64 n some (Each1-get_or (λ x. x < 2 ^ 64) lanes lane 0 (omega (arith, l, h.count)) h.small) in
    let at : (64 * lane + trailing_zeros w64 n) / 64 ≡ lane = omega (arith, low.0) in
    let bit : (64 * lane + trailing_zeros w64 n) % 64 ≡ trailing_zeros w64 n = omega (arith, low.0) in (
      omega (arith, l, low.0),
      bit_lane lanes (64 * lane + trailing_zeros w64 n) h.small ∙ (λ t. bit_at (get_or lanes (at t) 0) (bit t)) ∙ low.1,
      λ i m. bit_lane lanes i h.small ∙ elim (cases_lt (i / 64) lane) [
        | inl below ↦ ap (λ n. bit_at n (i % 64)) (none (i / 64) below) ∙ bit_at-zero (i % 64)
        | inr same ↦
            let here : i / 64 ≡ lane = omega (arith, same, m, low.0) in
            ap (λ k. bit_at (get_or lanes k 0) (i % 64)) here ∙ low.2 (i % 64) (omega (arith, m, here))
      ],
    )

pub no_lane : (lanes : List ℕ) → AreLanes lanes → ((k : ℕ) → k < 8 → get_or lanes k 0 ≡ 0) → number_of_lanes lanes ≡ 0
no_lane lanes h none = zero lanes (λ k l. none k (omega (arith, l, h.count)))
  where
    zero : (lanes : List ℕ) → ((k : ℕ) → k < length lanes → get_or lanes k 0 ≡ 0) → number_of_lanes lanes ≡ 0
    zero [] none = refl
    zero (x ∷ xs) none = omega (arith, none 0 (omega arith), zero xs (λ k l. none (suc k) (omega (arith, l))))

-- no bit is set where none is in any lane

pub or_none : (a b : ℕ) → bit_or a b ≡ 0 → (a ≡ 0) × (b ≡ 0)
or_none a b e =
    (same_from_bits a 0 (λ i. omega (arith, bit_at_or a b i, ap (λ n. bit_at n i) e, bit_at-zero i)), same_from_bits b 0 (λ i. omega (arith, bit_at_or a b i, ap (λ n. bit_at n i) e, bit_at-zero i)))

pub fold_none : (lanes : List ℕ) (a : ℕ) → fold_l bit_or a lanes ≡ 0 → (a ≡ 0) × (number_of_lanes lanes ≡ 0)
fold_none [] a e = (e, refl)
fold_none (x ∷ xs) a e =
    let rest = fold_none xs (bit_or a x) e in
    let here = or_none a x rest.0 in
    (here.0, omega (arith, here.1, rest.1))

-- how many bits are set

ones_cat : (k a b : ℕ) → b < 2 ^ k → count_ones (a * 2 ^ k + b) ≡ count_ones a + count_ones b
ones_cat zero a b l =
    let none : b ≡ 0 = omega (arith, l) in
    let same : a * 2 ^ 0 + b ≡ a = grind (arith, none) in
    ap count_ones same ∙ omega (arith, ap count_ones none, ones-le 0 0 (omega arith))
ones_cat (suc k) a b l =
    ones_step (a * 2 ^ suc k + b) ∙ (λ i. lowest i + count_ones (block_half a k b i)) ∙ omega (arith, ones_cat k a (b / 2) half, ones_step b)
  where
    twice : 2 ^ suc k ≡ 2 * 2 ^ k
    twice = grind arith

    double : a * 2 ^ suc k ≡ 2 * (a * 2 ^ k)
    double = ap (λ n. a * n) twice ∙ grind arith

    lowest : (a * 2 ^ suc k + b) % 2 ≡ b % 2
    lowest = omega (arith, double)

    half : b / 2 < 2 ^ k
    half = omega (arith, l, twice)

pub ones_lanes : (lanes : List ℕ) → Each1 (λ lane. lane < 2 ^ 64) lanes → count_ones (number_of_lanes lanes) ≡ sum_by count_ones lanes
ones_lanes [] h = omega (arith, ones-le 0 0 (omega arith))
ones_lanes (x ∷ xs) h = ap count_ones (joined x xs) ∙ omega (arith, ones_cat 64 (number_of_lanes xs) x h.0, ones_lanes xs h.1, sum_by-cons count_ones x xs)

pub or_bitwise : IsBitwise bit_or max
or_bitwise = record { bits = bit_at_or; small = or_lt 64; nothing = refl }

pub and_bitwise : IsBitwise bit_and min
and_bitwise = record { bits = bit_at_and; small = and_lt 64; nothing = refl }

pub xor_bitwise : IsBitwise bit_xor (λ a b. (a + b) % 2)
xor_bitwise = record { bits = bit_at_xor; small = xor_lt 64; nothing = refl }

-- a sum of the counts of few lanes is small
few_ones : (k n : ℕ) → n < 2 ^ k → count_ones n ≤ k
few_ones zero n h =
    let none : n ≡ 0 = omega (arith, h) in
    omega (arith, ap count_ones none, ones-le 0 0 (omega arith))
few_ones (suc k) n h =
    let twice : 2 ^ suc k ≡ 2 * 2 ^ k = grind arith in
    omega (arith, ones_step n, few_ones k (n / 2) (omega (arith, h, twice)))

pub few_sum : (lanes : List ℕ) → Each1 (λ lane. lane < 2 ^ 64) lanes → sum_by count_ones lanes ≤ 64 * length lanes
few_sum [] h = omega arith
few_sum (x ∷ xs) h = omega (arith, few_ones 64 x h.0, few_sum xs h.1, sum_by-cons count_ones x xs)
