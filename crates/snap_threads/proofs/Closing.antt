-- What the claims that were joined had drawn.
use Rattle.std.proofs.Common.{◌≡◌, ℕ, zero, suc, ◌+◌, ◌<◌, ◌≤◌, List, [], ◌∷◌, ◌++◌, length, get_or, All, refl, ap, arith}
use Rattle.snap_core.specs.Sums.{total}
use Rattle.snap_core.proofs.Sums.{total-append}

module _ {A : Type 0} where
  pub all_front : (P : A → Type 0) (xs : List A) (x : A) → All P (xs ++ x ∷ []) → All P xs
  all_front P [] x h k d lt = absurd (omega arith)
  all_front P (y ∷ ys) x h zero d lt = h zero d (omega arith)
  all_front P (y ∷ ys) x h (suc k) d lt = all_front P ys x (λ j e l. h (suc j) e (omega arith)) k d (omega arith)

  pub all_last : (P : A → Type 0) (xs : List A) (x : A) → All P (xs ++ x ∷ []) → P x
  all_last P [] x h = h zero x (omega arith)
  all_last P (y ∷ ys) x h = all_last P ys x (λ j e l. h (suc j) e (omega arith))

  pub total-any : (f : A → ℕ) (xs : List A) (k : ℕ) (d : A) → k < length xs → f (get_or xs k d) ≤ total f xs
  total-any f [] k d lt = absurd (omega arith)
  total-any f (x ∷ xs) zero d lt = omega arith
  total-any f (x ∷ xs) (suc k) d lt = let r = total-any f xs k d (omega arith) in omega arith

pub empty_sum : {B : Type 0} (F : B → ℕ) (xs : List B) → length xs ≡ 0 → total F xs ≡ 0
empty_sum F [] e = refl
empty_sum F (x ∷ xs) e = absurd (omega arith)

pub one_sum : {B : Type 0} (f : List ℕ → ℕ) (F : B → ℕ) (hand : List (List ℕ)) (x : List ℕ) (b : B) (bs all : List B) → hand ≡ x ∷ [] → F b ≡ f x → all ≡ bs ++ b ∷ []
    → total f hand + total F bs ≡ total F all
one_sum f F hand x b bs all is same whole =
    let a = ap (total f) is in let e = ap (total F) whole in let t = total-append F bs (b ∷ []) in omega arith

pub more_sum : {B : Type 0} (f : List ℕ → ℕ) (F : B → ℕ) (before hand after : List (List ℕ)) (x : List ℕ) (b : B) (bs old : List B) (n : ℕ) → after ≡ before ++ hand → hand ≡ x ∷ [] → F b ≡ f x → old ≡ bs ++ b ∷ []
    → total f before + total F old ≡ n → total f after + total F bs ≡ n
more_sum f F before hand after x b bs old n whole is same items sum =
    let a = ap (total f) is in let e = ap (total f) whole in let t = total-append f before hand in let o = ap (total F) items in let u = total-append F bs (b ∷ []) in omega arith
