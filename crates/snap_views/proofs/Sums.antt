-- Sums of the first numbers of a row.
use Rattle.std.proofs.Common.{◌≡◌, ℕ, zero, suc, ◌+◌, ◌*◌, ◌<◌, ◌≤◌, refl, ap, inl, inr, arith, add-one}
use Rattle.std.proofs.lemmas.Bool.{cases_lt, cases_eq}
use Rattle.snap_views.specs.Rows.{sum_below}

pub sum_none : (f : ℕ → ℕ) → sum_below f 0 ≡ 0
unfolding sum_below
sum_none f = refl

pub sum_more : (f : ℕ → ℕ) (n : ℕ) → sum_below f (n + 1) ≡ sum_below f n + f n
unfolding sum_below
sum_more f n = ap (sum_below f) (add-one n)

-- numbers 0 do not count
pub sum_skip : (f : ℕ → ℕ) (a n b : ℕ) → b ≡ a + n → ((j : ℕ) → a ≤ j → j < b → f j ≡ 0) → sum_below f b ≡ sum_below f a
sum_skip f a zero b e h = let same : b ≡ a = omega arith in ap (sum_below f) same
sum_skip f a (suc n) b e h =
    let same : b ≡ a + n + 1 = omega arith in
    omega (arith, ap (sum_below f) same, sum_more f (a + n), h (a + n) (omega arith) (omega arith), sum_skip f a n (a + n) refl (λ j l m. h j l (omega (arith, m))))

pub sum_le : (f g : ℕ → ℕ) → ((j : ℕ) → f j ≤ g j) → (n : ℕ) → sum_below f n ≤ sum_below g n
unfolding sum_below
sum_le f g h zero = omega arith
sum_le f g h (suc n) = omega (arith, h n, sum_le f g h n)

pub sum_less : (f g : ℕ → ℕ) → ((j : ℕ) → f j ≤ g j) → (n j : ℕ) → j < n → f j < g j → sum_below f n < sum_below g n
unfolding sum_below
sum_less f g h zero j l m = absurd (omega arith)
sum_less f g h (suc n) j l m = elim (cases_eq j n) [
  | inl same ↦ omega (arith, ap f same, ap g same, m, sum_le f g h n)
  | inr other ↦ omega (arith, h n, sum_less f g h n j (omega (arith, l, other)) m)
]

-- a smaller sum has a smaller number
pub sum_some : (f g : ℕ → ℕ) (n : ℕ) → sum_below f n < sum_below g n → (j : ℕ) × (j < n) × (f j < g j)
unfolding sum_below
sum_some f g zero l = absurd (omega arith)
sum_some f g (suc n) l = elim (cases_lt (f n) (g n)) [
  | inl less ↦ (n, omega arith, less)
  | inr more ↦ let r = sum_some f g n (omega (arith, l, more)) in (r.0, omega (arith, r.1), r.2)
]

pub sum_small : (f : ℕ → ℕ) → ((j : ℕ) → f j < 4294967296) → (n : ℕ) → sum_below f n ≤ n * 4294967295
unfolding sum_below
sum_small f h zero = omega arith
sum_small f h (suc n) = omega (arith, h n, sum_small f h n)
