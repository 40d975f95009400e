-- The least number that passes a test.
use Rattle.std.proofs.Common.{◌≡◌, ℕ, zero, suc, ◌+◌, ◌<◌, ◌≤◌, Bool, true, false, cond, Some, None, refl, ap, ◌∙◌, inl, inr, arith}
use Rattle.std.specs.Prelude.{find, nat_lt}
use Rattle.std.specs.List.{range_with_len}
use Rattle.std.proofs.lemmas.Bool.{cases_eq, lt-ltb, le-ltb}
use Rattle.snap_conditions.specs.Rows.{first_less}

find_least : (p : ℕ → Bool) (n a k : ℕ) → a ≤ k → k < a + n → p k ≡ true → ((j : ℕ) → a ≤ j → j < k → p j ≡ false) → find p (range_with_len a n) ≡ Some k
find_least p zero a k l m h f = absurd (omega arith)
find_least p (suc n) a k l m h f = elim (cases_eq a k) [
  | inl same ↦ let t : p a ≡ true = ap p same ∙ h in ap (λ b. cond b (Some a) (find p (range_with_len (a + 1) n))) t ∙ ap Some same
  | inr other ↦
      let t : p a ≡ false = f a (omega arith) (omega (arith, other)) in
      ap (λ b. cond b (Some a) (find p (range_with_len (a + 1) n))) t ∙ find_least p n (a + 1) k (omega (arith, other)) (omega arith) h (λ j x y. f j (omega arith) y)
]

find_nothing : (p : ℕ → Bool) (n a : ℕ) → ((j : ℕ) → a ≤ j → j < a + n → p j ≡ false) → find p (range_with_len a n) ≡ None
find_nothing p zero a f = refl
find_nothing p (suc n) a f = ap (λ b. cond b (Some a) (find p (range_with_len (a + 1) n))) (f a (omega arith) (omega arith)) ∙ find_nothing p n (a + 1) (λ j x y. f j (omega arith) (omega arith))

pub find_same : (p q : ℕ → Bool) (n a : ℕ) → ((j : ℕ) → a ≤ j → j < a + n → p j ≡ q j) → find p (range_with_len a n) ≡ find q (range_with_len a n)
find_same p q zero a f = refl
find_same p q (suc n) a f =
    ap (λ b. cond b (Some a) (find p (range_with_len (a + 1) n))) (f a (omega arith) (omega arith))
    ∙ ap (cond (q a) (Some a)) (find_same p q n (a + 1) (λ j x y. f j (omega arith) (omega arith)))

pub first_less_at : (f g : ℕ → ℕ) (k : ℕ) → k < 256 → f k < g k → ((j : ℕ) → j < k → g j ≤ f j) → first_less f g ≡ Some k
unfolding first_less
first_less_at f g k l less h = find_least (λ k. nat_lt (f k) (g k)) 256 0 k (omega arith) l (lt-ltb (f k) (g k) less) (λ j m n. le-ltb (f j) (g j) (h j n))

pub no_first_less : (f g : ℕ → ℕ) → ((j : ℕ) → j < 256 → g j ≤ f j) → first_less f g ≡ None
unfolding first_less
no_first_less f g h = find_nothing (λ k. nat_lt (f k) (g k)) 256 0 (λ j m n. le-ltb (f j) (g j) (h j n))
