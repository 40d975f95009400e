-- Counts of two lists whose elements are matched.
use Rattle.std.proofs.Common.{◌≡◌, ◌≢◌, ℕ, ◌+◌, ◌≤◌, Bool, true, false, cond, List, [], ◌∷◌, ◌++◌, map, refl, ap, subst, inl, inr, arith}
use Rattle.std.specs.List.{count_by}
use Rattle.std.proofs.lemmas.List.Sums.{sum_by-append}
use Rattle.snap_core.proofs.Lists.{In, In-append_cases, In-append_left, In-append_right, around, Pairs, count-cons}

pub count-map : {X Y : Type 0} (p : Y → Bool) (f : X → Y) (xs : List X) → count_by p (map f xs) ≡ count_by (λ x. p (f x)) xs
count-map p f [] = refl
count-map p f (x ∷ xs) = omega (arith, count-cons p (f x) (map f xs), count-cons (λ z. p (f z)) x xs, count-map p f xs)

-- one less, without an element that passes
count_without : {X : Type 0} (p : X → Bool) (xs : List X) (x : X) (ys : List X) → p x ≡ true → count_by p (xs ++ x ∷ ys) ≡ 1 + count_by p (xs ++ ys)
count_without p xs x ys t =
    let one : cond (p x) 1 0 ≡ 1 = ap {B = ℕ} (λ b. cond b 1 0) t in
    omega (arith, sum_by-append (λ z. cond (p z) 1 0) xs (x ∷ ys), sum_by-append (λ z. cond (p z) 1 0) xs ys, count-cons p x ys, one)

-- another element stays
In-without : {X : Type 0} (xs : List X) (x : X) (ys : List X) (y : X) → In y (xs ++ x ∷ ys) → (x ≡ y → ⊥) → In y (xs ++ ys)
In-without xs x ys y i other = elim (In-append_cases y xs (x ∷ ys) i) [
  | inl j ↦ In-append_left y xs ys j
  | inr (inl same) ↦ absurd (other same)
  | inr (inr j) ↦ In-append_right y xs ys j
]

-- a passing element, matched
pub record Match {X Y : Type 0} (R : X → Y → Type 0) (q : Y → Bool) (x : X) (ys : List Y) : Type 0 where
  pub it : Y
  pub there : In it ys
  pub passes : q it ≡ true
  pub matches : R x it

-- if each passing element has a match, and no two have the same, there are no more of them than of matches
pub count_matched : {X Y : Type 0} (R : X → Y → Type 0) (p : X → Bool) (q : Y → Bool) (xs : List X) (ys : List Y) → Pairs (λ a b. a ≢ b) xs →
    ((x : X) → In x xs → p x ≡ true → Match R q x ys) → ((a b : X) (y : Y) → In a xs → In b xs → R a y → R b y → a ≡ b) → count_by p xs ≤ count_by q ys
count_matched R p q [] ys apart m one = omega arith
count_matched {X} {Y} R p q (x ∷ xs) ys apart m one = go (p x) refl (count_matched R p q xs)
  where
    go : (b : Bool) → p x ≡ b → ((ys : List Y) → Pairs (λ a b. a ≢ b) xs → ((z : X) → In z xs → p z ≡ true → Match R q z ys) → ((a b : X) (y : Y) → In a xs → In b xs → R a y → R b y → a ≡ b) → count_by p xs ≤ count_by q ys) → count_by p (x ∷ xs) ≤ count_by q ys
    go false t rest =
        let none : cond (p x) 1 0 ≡ 0 = ap {B = ℕ} (λ b. cond b 1 0) t in
        omega (arith, count-cons p x xs, none, rest ys apart.1 (λ z i. m z (inr i)) (λ a b y i j. one a b y (inr i) (inr j)))
    go true t rest =
        let own = m x (inl refl) t in
        let a = around own.it ys own.there in
        let less = rest (a.before ++ a.after) apart.1 (λ z i s. let w = m z (inr i) s in record {
          it = w.it;
          there = In-without a.before own.it a.after w.it (subst (In w.it) a.same w.there) (λ same. apart.0 z i (one x z w.it (inl refl) (inr i) (subst (R x) same own.matches) w.matches));
          passes = w.passes;
          matches = w.matches;
        }) (λ b c y i j. one b c y (inr i) (inr j)) in
        let some : cond (p x) 1 0 ≡ 1 = ap {B = ℕ} (λ b. cond b 1 0) t in
        omega (arith, count-cons p x xs, some, less, ap (count_by q) a.same, count_without q a.before own.it a.after own.passes)
