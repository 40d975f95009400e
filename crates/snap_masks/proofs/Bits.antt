-- Masks by their bits.
use Rattle.std.proofs.Common.{◌≡◌, ℕ, zero, suc, ◌+◌, ◌*◌, ◌%◌, ◌<◌, ◌≤◌, Bool, true, false, not, cond, ◌&&◌, ◌||◌, List, [], ◌∷◌, map, take, length, get_or, refl, sym, ap, ◌∙◌, subst, inl, inr, add-one, arith}
use Rattle.std.specs.Prelude.{nat_lt, ◌==◌, ◌^◌, bit_or, bit_and, bit_xor, not, max, min, count_by, count_ones}
use Rattle.std.specs.List.{range_with_len}
use Rattle.std.specs.Int.{bit_at}
use Rattle.std.proofs.lemmas.Nat.Bits.{same_from_bits, bit_at_above, bit_at_or, bit_at_and, bit_at_xor, bit_at-lt, bit_at-pow_same, bit_at-pow_other, and_pow}
use Rattle.std.proofs.lemmas.Nat.{or_disjoint}
use Rattle.std.proofs.lemmas.Simd.{bit_mask_l, mask_l-lt, ones-mask_l}
use Rattle.std.proofs.Math.Pow.{pow_mono}
use Rattle.std.proofs.lemmas.Grind.{pow_more}
use Rattle.std.proofs.lemmas.Bool.{cases_lt, cases_order, lt-ltb, le-ltb, eq-eqb, ne_eqb}
use Rattle.std.proofs.lemmas.List.{length-map, length-take}
use Rattle.std.proofs.lemmas.List.FromFn.{length-range_with_len, get_or-range_with_len}
use Rattle.snap_masks.specs.Masks.{mask_by, mask_below}

-- the bit of a place
pub bit_by : (p : ℕ → Bool) (xs : List ℕ) (i : ℕ) → i < length xs → bit_at (mask_by p xs) i ≡ cond (p (get_or xs i 0)) 1 0
bit_by p xs i l = bit_mask_l (map p xs) i ∙ ap (λ b. cond b 1 0) (at xs i l)
  where
    at : (xs : List ℕ) (i : ℕ) → i < length xs → get_or (map p xs) i false ≡ p (get_or xs i 0)
    at [] i l = absurd (omega arith)
    at (x ∷ xs) zero l = refl
    at (x ∷ xs) (suc i) l = at xs i (omega (arith, l))

pub bit_past : (p : ℕ → Bool) (xs : List ℕ) (i : ℕ) → length xs ≤ i → bit_at (mask_by p xs) i ≡ 0
bit_past p xs i l = bit_at_above (mask_by p xs) (length xs) i (subst (λ n. mask_by p xs < 2 ^ n) (length-map xs p) (mask_l-lt (map p xs))) l

pub bit_below : (p : ℕ → Bool) (n i : ℕ) → i < n → bit_at (mask_below p n) i ≡ cond (p i) 1 0
bit_below p n i l = bit_by p (range_with_len 0 n) i (omega (arith, l, length-range_with_len 0 n)) ∙ ap (λ k. cond (p k) 1 0) (get_or-range_with_len 0 n i 0 l ∙ omega arith)

pub bit_not_below : (p : ℕ → Bool) (n i : ℕ) → n ≤ i → bit_at (mask_below p n) i ≡ 0
bit_not_below p n i l = bit_past p (range_with_len 0 n) i (omega (arith, l, length-range_with_len 0 n))

-- a mask with these bits
pub mask_from_bits : (p : ℕ → Bool) (n m : ℕ) → ((i : ℕ) → i < n → bit_at m i ≡ cond (p i) 1 0) → ((i : ℕ) → n ≤ i → bit_at m i ≡ 0) → m ≡ mask_below p n
mask_from_bits p n m h g = same_from_bits m (mask_below p n) (λ i. elim (cases_lt i n) [
  | inl l ↦ h i l ∙ sym (bit_below p n i l)
  | inr l ↦ g i l ∙ sym (bit_not_below p n i l)
])

-- a mask of numbers with these bits
pub mask_by_bits : (p : ℕ → Bool) (xs : List ℕ) (m : ℕ) → ((i : ℕ) → i < length xs → bit_at m i ≡ cond (p (get_or xs i 0)) 1 0) → ((i : ℕ) → length xs ≤ i → bit_at m i ≡ 0) → m ≡ mask_by p xs
mask_by_bits p xs m h g = same_from_bits m (mask_by p xs) (λ i. elim (cases_lt i (length xs)) [
  | inl l ↦ h i l ∙ sym (bit_by p xs i l)
  | inr l ↦ g i l ∙ sym (bit_past p xs i l)
])

-- masks of places by tests that agree
pub mask_below_same : (p q : ℕ → Bool) (n : ℕ) → ((a : ℕ) → a < n → p a ≡ q a) → mask_below p n ≡ mask_below q n
mask_below_same p q n h = mask_from_bits q n (mask_below p n) (λ i l. bit_below p n i l ∙ ap {B = ℕ} (λ b. cond b 1 0) (h i l)) (λ i l. bit_not_below p n i l)

-- the mask of the places of numbers
pub mask_places : (p : ℕ → Bool) (xs : List ℕ) (n : ℕ) → length xs ≡ n → mask_by p xs ≡ mask_below (λ a. p (get_or xs a 0)) n
mask_places p xs n e = mask_from_bits (λ a. p (get_or xs a 0)) n (mask_by p xs) (λ i l. bit_by p xs i (omega (arith, l, e))) (λ i l. bit_past p xs i (omega (arith, l, e)))

-- one more bit, above the others
pub or_pow : (m i : ℕ) → m < 2 ^ i → bit_or m (2 ^ i) ≡ m + 2 ^ i
or_pow m i h = or_disjoint m (2 ^ i) (and_pow m i ∙ ap (λ b. b * 2 ^ i) (bit_at_above m i i h (omega arith)) ∙ omega arith)

-- a mask of few numbers is small
pub mask_lt : (p : ℕ → Bool) (xs : List ℕ) (n : ℕ) → length xs ≤ n → mask_by p xs < 2 ^ n
mask_lt p xs n l =
    let m = subst (λ k. mask_by p xs < 2 ^ k) (length-map xs p) (mask_l-lt (map p xs)) in
    omega (arith, m, pow_mono l)

-- masks of tests that agree
pub mask_same : (p q : ℕ → Bool) (xs : List ℕ) → ((i : ℕ) → i < length xs → p (get_or xs i 0) ≡ q (get_or xs i 0)) → mask_by p xs ≡ mask_by q xs
mask_same p q [] h = refl
mask_same p q (x ∷ xs) h = ap (λ b. cond b 1 0 + 2 * mask_by p xs) (h 0 (omega arith)) ∙ ap (λ m. cond (q x) 1 0 + 2 * m) (mask_same p q xs (λ i l. h (suc i) (omega (arith, l))))

pub mask_none : (p : ℕ → Bool) (xs : List ℕ) → ((i : ℕ) → i < length xs → p (get_or xs i 0) ≡ false) → mask_by p xs ≡ 0
mask_none p [] h = refl
mask_none p (x ∷ xs) h =
    let first : cond (p x) 1 0 ≡ 0 = ap {B = ℕ} (λ b. cond b 1 0) (h 0 (omega arith)) in
    omega (arith, first, mask_none p xs (λ i l. h (suc i) (omega (arith, l))))

-- the mask of the others
pub mask_others : (p : ℕ → Bool) (n all m : ℕ) → all ≡ mask_below (λ a. true) n → m ≡ mask_below (λ a. not (p a)) n → bit_xor all m ≡ mask_below p n
mask_others p n all m e h = mask_from_bits p n (bit_xor all m)
    (λ i l. bit_at_xor all m i ∙ here (p i) (bit_at all i) (bit_at m i) (ap (λ z. bit_at z i) e ∙ bit_below (λ a. true) n i l) (ap (λ z. bit_at z i) h ∙ bit_below (λ a. not (p a)) n i l))
    (λ i l. omega (arith, bit_at_xor all m i, ap (λ z. bit_at z i) e, bit_not_below (λ a. true) n i l, ap (λ z. bit_at z i) h, bit_not_below (λ a. not (p a)) n i l))
  where
    here : (b : Bool) (x y : ℕ) → x ≡ 1 → y ≡ cond (not b) 1 0 → (x + y) % 2 ≡ cond b 1 0
    here true x y f g = omega (arith, f, g)
    here false x y f g = omega (arith, f, g)

-- the mask of all places

pub all_set : (n : ℕ) → bit_or (mask_below (λ a. true) n) (2 ^ n) ≡ mask_below (λ a. true) (n + 1)
all_set n = mask_from_bits (λ a. true) (n + 1) (bit_or (mask_below (λ a. true) n) (2 ^ n))
    (λ i l. bit_at_or (mask_below (λ a. true) n) (2 ^ n) i ∙ elim (cases_lt i n) [
      | inl below ↦ omega (arith, bit_below (λ a. true) n i below, bit_at-lt (2 ^ n) i)
      | inr same ↦
          let here : i ≡ n = omega (arith, l, same) in
          omega (arith, ap (bit_at (2 ^ n)) here, bit_at-pow_same n, bit_at-lt (mask_below (λ a. true) n) i)
    ])
    (λ i l. omega (arith, bit_at_or (mask_below (λ a. true) n) (2 ^ n) i, bit_not_below (λ a. true) n i (omega (arith, l)), bit_at-pow_other n i (λ e. omega (arith, l, e))))

-- the mask's count
pub ones_below : (p : ℕ → Bool) (n : ℕ) → count_ones (mask_below p n) ≡ count_by p (range_with_len 0 n)
ones_below p n = ones-mask_l p (range_with_len 0 n)

-- one more number

pow_suc : (i : ℕ) → 2 ^ suc i ≡ 2 ^ i * 2
pow_suc i = ap (λ n. 2 ^ n) (sym (add-one i)) ∙ pow_more 2 i

mask_next : (p : ℕ → Bool) (xs : List ℕ) (i : ℕ) → i < length xs → mask_by p (take (suc i) xs) ≡ mask_by p (take i xs) + cond (p (get_or xs i 0)) (2 ^ i) 0
mask_next p [] i l = absurd (omega (arith, l))
mask_next p (x ∷ xs) zero l = at (p x)
  where
    at : (b : Bool) → cond b 1 0 + 2 * 0 ≡ 0 + cond b (2 ^ 0) 0
    at true = refl
    at false = refl
mask_next p (x ∷ xs) (suc i) l = omega (arith, mask_next p xs i (omega (arith, l)), double (p (get_or xs i 0)))
  where
    double : (b : Bool) → cond b (2 ^ suc i) 0 ≡ 2 * cond b (2 ^ i) 0
    double true = omega (arith, pow_suc i)
    double false = refl

pub mask_more_yes : (p : ℕ → Bool) (xs : List ℕ) (i : ℕ) → i < length xs → p (get_or xs i 0) ≡ true → mask_by p (take (i + 1) xs) ≡ mask_by p (take i xs) + 2 ^ i
mask_more_yes p xs i l h = ap (λ n. mask_by p (take n xs)) (add-one i) ∙ mask_next p xs i l ∙ ap (λ b. mask_by p (take i xs) + cond b (2 ^ i) 0) h

pub mask_more_no : (p : ℕ → Bool) (xs : List ℕ) (i : ℕ) → i < length xs → p (get_or xs i 0) ≡ false → mask_by p (take (i + 1) xs) ≡ mask_by p (take i xs)
mask_more_no p xs i l h = ap (λ n. mask_by p (take n xs)) (add-one i) ∙ mask_next p xs i l ∙ ap (λ b. mask_by p (take i xs) + cond b (2 ^ i) 0) h ∙ omega arith

-- the same by the bit that is set
pub mask_set : (p : ℕ → Bool) (xs : List ℕ) (i m : ℕ) → i < length xs → p (get_or xs i 0) ≡ true → m ≡ mask_by p (take i xs) → bit_or m (2 ^ i) ≡ mask_by p (take (i + 1) xs)
mask_set p xs i m l h e = or_pow m i (subst (λ z. z < 2 ^ i) (sym e) (mask_lt p (take i xs) i (omega (arith, length-take i xs)))) ∙ ap (λ z. z + 2 ^ i) e ∙ sym (mask_more_yes p xs i l h)

-- the numbers below one more
pub up_or : (xs : List ℕ) (x : ℕ) → bit_or (mask_by (λ n. n == x) xs) (mask_by (λ n. nat_lt n x) xs) ≡ mask_by (λ n. nat_lt n (x + 1)) xs
up_or xs x = mask_by_bits (λ n. nat_lt n (x + 1)) xs (bit_or (mask_by (λ n. n == x) xs) (mask_by (λ n. nat_lt n x) xs))
    (λ i l. bit_at_or (mask_by (λ n. n == x) xs) (mask_by (λ n. nat_lt n x) xs) i ∙ omega (arith, bit_by (λ n. n == x) xs i l, bit_by (λ n. nat_lt n x) xs i l, here (get_or xs i 0)))
    (λ i l. omega (arith, bit_at_or (mask_by (λ n. n == x) xs) (mask_by (λ n. nat_lt n x) xs) i, bit_past (λ n. n == x) xs i l, bit_past (λ n. nat_lt n x) xs i l))
  where
    here : (y : ℕ) → max (cond (y == x) 1 0) (cond (nat_lt y x) 1 0) ≡ cond (nat_lt y (x + 1)) 1 0
    here y = elim (cases_order y x) [
      | inl same ↦ three _ _ _ (lt-ltb y (x + 1) (omega (arith, same))) (le-ltb y x (omega (arith, same))) (eq-eqb y x same)
      | inr (inl less) ↦ two _ _ _ (lt-ltb y (x + 1) (omega (arith, less))) (lt-ltb y x less) (ne_eqb y x (λ e. omega (arith, less, e)))
      | inr (inr more) ↦ none _ _ _ (le-ltb y (x + 1) (omega (arith, more))) (le-ltb y x (omega (arith, more))) (ne_eqb y x (λ e. omega (arith, more, e)))
    ]
      where
        three : (a b c : Bool) → a ≡ true → b ≡ false → c ≡ true → max (cond c 1 0) (cond b 1 0) ≡ cond a 1 0
        three a b c p q r = rw (p, q, r) refl

        two : (a b c : Bool) → a ≡ true → b ≡ true → c ≡ false → max (cond c 1 0) (cond b 1 0) ≡ cond a 1 0
        two a b c p q r = rw (p, q, r) refl

        none : (a b c : Bool) → a ≡ false → b ≡ false → c ≡ false → max (cond c 1 0) (cond b 1 0) ≡ cond a 1 0
        none a b c p q r = rw (p, q, r) refl

-- masks of rows that pass two tests, or one of them

pub mask_or : (n : ℕ) (p q r : ℕ → Bool) → ((a : ℕ) → r a ≡ (p a || q a)) → bit_or (mask_below p n) (mask_below q n) ≡ mask_below r n
mask_or n p q r h = mask_from_bits r n (bit_or (mask_below p n) (mask_below q n))
    (λ a l. bit_at_or (mask_below p n) (mask_below q n) a ∙ both (p a) (q a) (bit_at (mask_below p n) a) (bit_at (mask_below q n) a) (bit_below p n a l) (bit_below q n a l) ∙ sym (ap {B = ℕ} (λ z. cond z 1 0) (h a)))
    (λ a l. omega (arith, bit_at_or (mask_below p n) (mask_below q n) a, bit_not_below p n a l, bit_not_below q n a l))
  where
    both : (p q : Bool) (x y : ℕ) → x ≡ cond p 1 0 → y ≡ cond q 1 0 → max x y ≡ cond (p || q) 1 0
    both true true x y a b = omega (arith, a, b)
    both true false x y a b = omega (arith, a, b)
    both false true x y a b = omega (arith, a, b)
    both false false x y a b = omega (arith, a, b)

pub mask_and : (n : ℕ) (p q r : ℕ → Bool) → ((a : ℕ) → r a ≡ (p a && q a)) → bit_and (mask_below p n) (mask_below q n) ≡ mask_below r n
mask_and n p q r h = mask_from_bits r n (bit_and (mask_below p n) (mask_below q n))
    (λ a l. bit_at_and (mask_below p n) (mask_below q n) a ∙ both (p a) (q a) (bit_at (mask_below p n) a) (bit_at (mask_below q n) a) (bit_below p n a l) (bit_below q n a l) ∙ sym (ap {B = ℕ} (λ z. cond z 1 0) (h a)))
    (λ a l. omega (arith, bit_at_and (mask_below p n) (mask_below q n) a, bit_not_below p n a l))
  where
    both : (p q : Bool) (x y : ℕ) → x ≡ cond p 1 0 → y ≡ cond q 1 0 → min x y ≡ cond (p && q) 1 0
    both true true x y a b = omega (arith, a, b)
    both true false x y a b = omega (arith, a, b)
    both false true x y a b = omega (arith, a, b)
    both false false x y a b = omega (arith, a, b)
