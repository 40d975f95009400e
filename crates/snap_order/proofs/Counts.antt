-- Counts of a list, and the place where a test stops to hold.
use Rattle.std.proofs.Common.{◌≡◌, ℕ, zero, suc, ◌≤◌, Bool, true, false, cond, List, [], ◌∷◌, length, map, refl, sym, ap, ◌∙◌, arith, not, ◌||◌}
use Rattle.std.specs.Prelude.{count_by, nat_lt}
use Rattle.std.specs.List.{list_any}
use Rattle.std.specs.List.Sorted.{IsPartitionPoint}
use Rattle.std.proofs.lemmas.Bool.{lt-ltb, le-ltb, ltb-true, ltb-false}
use Rattle.std.proofs.lemmas.List.Sums.{count_by-le-length}
use Rattle.snap_core.proofs.Lists.{In, count-cons, count_le}

-- the place where a test stops to hold is the count of what passes it
pub point_counts : {X : Type 0} (p : X → Bool) (xs : List X) (i : ℕ) → i ≤ length xs → IsPartitionPoint (λ x. p x ≡ true) (λ x. p x ≡ false) xs i → i ≡ count_by p xs
point_counts p [] i l h = omega arith
point_counts p (x ∷ xs) zero l h =
    let first : cond (p x) 1 0 ≡ 0 = ap {B = ℕ} (λ b. cond b 1 0) (h.1 zero x (omega arith) (omega arith)) in
    let rest = point_counts p xs zero (omega arith) (λ k d a b. absurd (omega arith), λ k d a b. h.1 (suc k) d (omega arith) (omega arith)) in
    omega (arith, first, rest, count-cons p x xs)
point_counts p (x ∷ xs) (suc i) l h =
    let first : cond (p x) 1 0 ≡ 1 = ap {B = ℕ} (λ b. cond b 1 0) (h.0 zero x (omega arith) (omega arith)) in
    let rest = point_counts p xs i (omega arith) (λ k d a b. h.0 (suc k) d (omega arith) (omega arith), λ k d a b. h.1 (suc k) d (omega arith) (omega arith)) in
    omega (arith, first, rest, count-cons p x xs)

pub count-map : {X Y : Type 0} (p : Y → Bool) (f : X → Y) (xs : List X) → count_by p (map f xs) ≡ count_by (λ x. p (f x)) xs
count-map p f [] = refl
count-map p f (x ∷ xs) = omega (arith, count-cons p (f x) (map f xs), count-cons (λ y. p (f y)) x xs, count-map p f xs)

-- tests that agree on a list count the same of it
pub count_same : {X : Type 0} (p q : X → Bool) (xs : List X) → ((x : X) → In x xs → p x ≡ q x) → count_by p xs ≡ count_by q xs
count_same p q xs h = omega (arith, count_le p q xs (λ x i t. sym (h x i) ∙ t), count_le q p xs (λ x i t. h x i ∙ t))

lt-suc : (a b : ℕ) → nat_lt (suc a) (suc b) ≡ nat_lt a b
lt-suc a b = at (nat_lt a b) refl
  where
    at : (t : Bool) → nat_lt a b ≡ t → nat_lt (suc a) (suc b) ≡ nat_lt a b
    at true t = let l = ltb-true a b t in lt-ltb (suc a) (suc b) (omega (arith, l)) ∙ sym t
    at false t = let l = ltb-false a b t in le-ltb (suc a) (suc b) (omega (arith, l)) ∙ sym t

-- some element fails a test exactly where the count of those that pass it is below the length
pub any_by_count : {X : Type 0} (p : X → Bool) (xs : List X) → list_any (λ x. not (p x)) xs ≡ nat_lt (count_by p xs) (length xs)
any_by_count p [] = refl
any_by_count p (x ∷ xs) = at (p x) refl (any_by_count p xs)
  where
    at : (b : Bool) → p x ≡ b → list_any (λ y. not (p y)) xs ≡ nat_lt (count_by p xs) (length xs) → (not (p x) || list_any (λ y. not (p y)) xs) ≡ nat_lt (count_by p (x ∷ xs)) (suc (length xs))
    at true e rest =
        let one : count_by p (x ∷ xs) ≡ suc (count_by p xs) = (let first : cond (p x) 1 0 ≡ 1 = ap {B = ℕ} (λ b. cond b 1 0) e in omega (arith, first, count-cons p x xs)) in
        ap (λ b. not b || list_any (λ y. not (p y)) xs) e ∙ rest ∙ sym (ap (λ n. nat_lt n (suc (length xs))) one ∙ lt-suc (count_by p xs) (length xs))
    at false e rest =
        let less : count_by p (x ∷ xs) ≤ length xs = (let first : cond (p x) 1 0 ≡ 0 = ap {B = ℕ} (λ b. cond b 1 0) e in omega (arith, first, count-cons p x xs, count_by-le-length p xs)) in
        ap (λ b. not b || list_any (λ y. not (p y)) xs) e ∙ sym (lt-ltb _ _ (omega (arith, less)))
