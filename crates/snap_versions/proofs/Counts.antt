-- Counts and tests over lists.
use Rattle.std.proofs.Common.{◌≡◌, ◌≤◌, ℕ, zero, suc, Bool, true, false, cond, ◌||◌, List, [], ◌∷◌, length, count_by, refl, sym, ap, ◌∙◌, arith, inl, inr}
use Rattle.std.specs.Prelude.{nat_lt}
use Rattle.std.specs.List.{list_any}
use Rattle.std.specs.List.Sorted.{IsPartitionPoint, IsPermutation}
use Rattle.std.proofs.lemmas.Bool.{lt-ltb}
use Rattle.std.proofs.lemmas.List.Sorted.{sum_by-IsPermutation}
use Rattle.snap_core.proofs.Lists.{In, count-cons}

pub count_same : {X : Type 0} (p q : X → Bool) (xs : List X) → ((x : X) → In x xs → p x ≡ q x) → count_by p xs ≡ count_by q xs
count_same p q [] h = refl
count_same p q (x ∷ xs) h =
    let one : cond (p x) 1 0 ≡ cond (q x) 1 0 = ap {B = ℕ} (λ b. cond b 1 0) (h x (inl refl)) in
    omega (arith, count-cons p x xs, count-cons q x xs, one, count_same p q xs (λ y i. h y (inr i)))

pub any_same : {X : Type 0} (p q : X → Bool) (xs : List X) → ((x : X) → In x xs → p x ≡ q x) → list_any p xs ≡ list_any q xs
any_same p q [] h = refl
any_same p q (x ∷ xs) h = ap (λ b. b || list_any p xs) (h x (inl refl)) ∙ ap (λ b. q x || b) (any_same p q xs (λ y i. h y (inr i)))

pub count_moved : {X : Type 0} (p : X → Bool) (xs ys : List X) → IsPermutation xs ys → count_by p ys ≡ count_by p xs
count_moved p xs ys h = sum_by-IsPermutation (λ x. cond (p x) 1 0) xs ys h

-- what a search for the end of a front counts
pub point_count : {X : Type 0} (p : X → Bool) (xs : List X) (i : ℕ) → i ≤ length xs → IsPartitionPoint (λ y. p y ≡ true) (λ y. p y ≡ false) xs i → i ≡ count_by p xs
point_count p [] i l h = omega arith
point_count p (x ∷ xs) zero l h =
    let one : cond (p x) 1 0 ≡ 0 = ap {B = ℕ} (λ b. cond b 1 0) (h.1 0 x (omega arith) (omega arith)) in
    omega (arith, count-cons p x xs, one, point_count p xs zero (omega arith) (λ k d a b. absurd (omega (arith, b)), λ k d a b. h.1 (suc k) d (omega arith) (omega (arith, b))))
point_count p (x ∷ xs) (suc i) l h =
    let one : cond (p x) 1 0 ≡ 1 = ap {B = ℕ} (λ b. cond b 1 0) (h.0 0 x (omega arith) (omega arith)) in
    omega (arith, count-cons p x xs, one, point_count p xs i (omega (arith, l)) (λ k d a b. h.0 (suc k) d (omega arith) (omega (arith, b)), λ k d a b. h.1 (suc k) d (omega (arith, a)) (omega (arith, b))))

-- some element passes a test if their count is positive
pub any_count : {X : Type 0} (p : X → Bool) (xs : List X) → list_any p xs ≡ nat_lt 0 (count_by p xs)
any_count p [] = refl
any_count p (x ∷ xs) = go (p x) refl (any_count p xs)
  where
    go : (b : Bool) → p x ≡ b → list_any p xs ≡ nat_lt 0 (count_by p xs) → (p x || list_any p xs) ≡ nat_lt 0 (count_by p (x ∷ xs))
    go true e rest =
        let one : cond (p x) 1 0 ≡ 1 = ap {B = ℕ} (λ b. cond b 1 0) e in
        ap (λ b. b || list_any p xs) e ∙ sym (lt-ltb 0 (count_by p (x ∷ xs)) (omega (arith, count-cons p x xs, one)))
    go false e rest =
        let none : cond (p x) 1 0 ≡ 0 = ap {B = ℕ} (λ b. cond b 1 0) e in
        let same : count_by p xs ≡ count_by p (x ∷ xs) = omega (arith, count-cons p x xs, none) in
        ap (λ b. b || list_any p xs) e ∙ rest ∙ ap (λ n. nat_lt 0 n) same

pub count_all : {X : Type 0} (xs : List X) → length xs ≡ count_by (λ x. true) xs
count_all [] = refl
count_all (x ∷ xs) = omega (arith, count-cons (λ y. true) x xs, count_all xs)
