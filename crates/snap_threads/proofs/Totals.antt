-- Sums over lists, of which one element has all.
use Rattle.std.proofs.Common.{◌≡◌, ℕ, zero, suc, ◌+◌, ◌-◌, ◌<◌, ◌≤◌, ◌==◌, ◌≢◌, nat_lt, cond, true, false, length, inl, inr, subst, List, [], ◌∷◌, ◌++◌, sym, refl, ap, arith, eq-eqb}
use mathlib.Core.Option.{some, some-injective, some-ne-none}
use lib.ListN.{get_elem?}
use Rattle.std.proofs.lemmas.Bool.Decides.{nat_tests}
use Rattle.std.proofs.lemmas.Bool.{cases_eq, ne_eqb}
use Rattle.snap_core.specs.Sums.{once_below, one_if, times, total}
use Rattle.snap_core.proofs.Sums.{total-append, total-at}
use Rattle.snap_threads.specs.inside.Draws.{past}

module _ {A : Type 0} where
  -- where all that g counts is in one element, so is all that f counts
  pub alone : (f g : A → ℕ) (l : List A) (i : ℕ) (v : A) → ((w : A) → g w ≡ 0 → f w ≡ 0) → get_elem? l i ≡ some v → total g l ≡ g v → total f l ≡ f v
  alone f g [] i v none e all = absurd (some-ne-none v (sym e))
  alone f g (x ∷ xs) zero v none e all =
      let is : g x ≡ g v = ap g (some-injective x v e) in let is' : f x ≡ f v = ap f (some-injective x v e) in
      let r = nothing xs (omega arith) in omega arith
    where
      nothing : (l : List A) → total g l ≡ 0 → total f l ≡ 0
      nothing [] z = refl
      nothing (y ∷ ys) z = let a = none y (omega arith) in let b = nothing ys (omega arith) in omega arith
  alone f g (x ∷ xs) (suc i) v none e all =
      let at = total-at g xs i v e in let a = none x (omega arith) in let r = alone f g xs i v none e (omega arith) in omega arith

pub past-push : (p n : ℕ) (xs : List ℕ) → past p (xs ++ n ∷ []) ≡ past p xs + one_if (nat_lt p (suc n))
past-push p n xs = let t = total-append (λ y. one_if (nat_lt p (suc y))) xs (n ∷ []) in omega arith

pub times-push : (x n : ℕ) (xs : List ℕ) → times x (xs ++ n ∷ []) ≡ times x xs + one_if (n == x)
times-push x n xs = let t = total-append (λ y. one_if (y == x)) xs (n ∷ []) in omega arith

pub once_more : (x n : ℕ) → once_below x (n + 1) ≡ once_below x n + one_if (n == x)
once_more x n = grind (arith, nat_tests)

pub above_more : (p n : ℕ) → n + 1 - p ≡ n - p + one_if (nat_lt p (suc n))
above_more p n = grind (arith, nat_tests)

pub at_most_one : (p n : ℕ) → one_if (nat_lt p (suc n)) ≤ 1
at_most_one p n = grind (arith, nat_tests)

pub none_low : (p n : ℕ) → n < p → one_if (nat_lt p (suc n)) ≡ 0
none_low p n low = grind (arith, nat_tests)

pub one_high : (p n : ℕ) → p ≤ n → one_if (nat_lt p (suc n)) ≡ 1
one_high p n high = grind (arith, nat_tests)

pub once_low : (x n : ℕ) → x < n → once_below x n ≡ 1
once_low x n low = grind (arith, nat_tests)

at_most_once : (x n : ℕ) → once_below x n ≤ 1
at_most_once x n = grind (arith, nat_tests)

same_below : (x n : ℕ) → x ≢ n → once_below x (suc n) ≡ once_below x n
same_below x n ne = grind (arith, nat_tests)

pub never_below : (x : ℕ) → once_below x 0 ≡ 0
never_below x = grind (arith, nat_tests)

-- so many numbers below n as there are, each at most once
without : ℕ → List ℕ → List ℕ
without n [] = []
without n (y ∷ ys) = cond (y == n) (without n ys) (y ∷ without n ys)

length-without : (n : ℕ) (xs : List ℕ) → length xs ≡ times n xs + length (without n xs)
unfolding without
length-without n [] = refl
length-without n (y ∷ ys) = elim (cases_eq y n) [
  | inl e ↦ let t : (y == n) ≡ true = eq-eqb y n e in let r = length-without n ys in let a = ap one_if t in let b = ap (λ z. length (cond z (without n ys) (y ∷ without n ys))) t in omega arith
  | inr ne ↦ let t : (y == n) ≡ false = ne_eqb y n ne in let r = length-without n ys in let a = ap one_if t in let b = ap (λ z. length (cond z (without n ys) (y ∷ without n ys))) t in omega arith
]

times-without : (n x : ℕ) (xs : List ℕ) → times x (without n xs) ≤ times x xs
unfolding without
times-without n x [] = omega arith
times-without n x (y ∷ ys) = elim (cases_eq y n) [
  | inl e ↦ let t : (y == n) ≡ true = eq-eqb y n e in let r = times-without n x ys in let b = ap (λ z. times x (cond z (without n ys) (y ∷ without n ys))) t in omega arith
  | inr ne ↦ let t : (y == n) ≡ false = ne_eqb y n ne in let r = times-without n x ys in let b = ap (λ z. times x (cond z (without n ys) (y ∷ without n ys))) t in omega arith
]

none-without : (n : ℕ) (xs : List ℕ) → times n (without n xs) ≡ 0
unfolding without
none-without n [] = refl
none-without n (y ∷ ys) = elim (cases_eq y n) [
  | inl e ↦ let t : (y == n) ≡ true = eq-eqb y n e in let r = none-without n ys in let b = ap (λ z. times n (cond z (without n ys) (y ∷ without n ys))) t in omega arith
  | inr ne ↦ let t : (y == n) ≡ false = ne_eqb y n ne in let r = none-without n ys in let a = ap one_if t in let b = ap (λ z. times n (cond z (without n ys) (y ∷ without n ys))) t in omega arith
]

-- numbers below n, each at most once, are at most n
pub few : (n : ℕ) (xs : List ℕ) → ((x : ℕ) → times x xs ≤ once_below x n) → length xs ≤ n
few zero [] h = omega arith
few zero (x ∷ xs) h = absurd (let a = h x in let b = ap one_if (eq-eqb x x refl) in let c = never_below x in omega arith)
few (suc n) xs h =
    let l = length-without n xs in
    let one = h n in
    let most = at_most_once n (suc n) in
    let r = few n (without n xs) (λ x. elim (cases_eq x n) [
      | inl e ↦ subst (λ y. times y (without n xs) ≤ once_below y n) (sym e) (let z = none-without n xs in omega arith)
      | inr ne ↦ let a = h x in let b = times-without n x xs in let c = same_below x n ne in omega arith
    ]) in omega arith
