-- Lists: what stands in them, sums over them, and what is rising.
use Rattle.std.proofs.Common.{◌≡◌, ℕ, zero, suc, ◌+◌, ◌<◌, ◌≤◌, ◌≢◌, ◌⊎◌, ◌==◌, List, [], ◌∷◌, ◌++◌, length, sym, refl, ap, ◌∙◌, inl, inr, ⊎_elim, arith}
use mathlib.Core.Option.{some, some-injective, some-ne-none}
use lib.ListN.{get_elem?}
use Rattle.std.proofs.lemmas.Bool.Decides.{nat_tests}
use Rattle.snap_core.specs.Sums.{once_below, one_if, times, total}
use Rattle.snap_core.proofs.Sums.{total-append, total-at}
use Rattle.snap_account.specs.Calls.{Mem, Write, AllNumbered}
use Rattle.snap_account.specs.Rule.{Rising, Numbered}

module _ {A : Type 0} where
  pub mem_split : (xs ys : List A) (x : A) → Mem x (xs ++ ys) → Mem x xs ⊎ Mem x ys
  mem_split [] ys x m = inr m
  mem_split (y ∷ xs) ys x m = ⊎_elim (λ e. inl (inl e)) (λ r. ⊎_elim (λ a. inl (inr a)) (λ c. inr c) (mem_split xs ys x r)) m

  pub mem_left : (xs ys : List A) (x : A) → Mem x xs → Mem x (xs ++ ys)
  mem_left [] ys x m = absurd m
  mem_left (y ∷ xs) ys x m = ⊎_elim (λ e. inl e) (λ r. inr (mem_left xs ys x r)) m

  pub mem_right : (xs ys : List A) (x : A) → Mem x ys → Mem x (xs ++ ys)
  mem_right [] ys x m = m
  mem_right (y ∷ xs) ys x m = inr (mem_right xs ys x m)

  pub mem_one : (x y : A) → Mem x (y ∷ []) → y ≡ x
  mem_one x y m = ⊎_elim (λ e. e) (λ r. absurd r) m

  pub mem_at : (l : List A) (i : ℕ) (a : A) → get_elem? l i ≡ some a → Mem a l
  mem_at [] i a e = absurd (some-ne-none a (sym e))
  mem_at (x ∷ xs) zero a e = inl (some-injective _ _ e)
  mem_at (x ∷ xs) (suc i) a e = inr (mem_at xs i a e)

  -- two places
  pub total-two : (f : A → ℕ) (l : List A) (i j : ℕ) (v w : A) → i ≢ j → get_elem? l i ≡ some v → get_elem? l j ≡ some w → f v + f w ≤ total f l
  total-two f [] i j v w apart e e' = absurd (some-ne-none v (sym e))
  total-two f (x ∷ xs) zero zero v w apart e e' = absurd (apart refl)
  total-two f (x ∷ xs) zero (suc j) v w apart e e' = let is : f x ≡ f v = ap f (some-injective x v e) in let r = total-at f xs j w e' in omega arith
  total-two f (x ∷ xs) (suc i) zero v w apart e e' = let is : f x ≡ f w = ap f (some-injective x w e') in let r = total-at f xs i v e in omega arith
  total-two f (x ∷ xs) (suc i) (suc j) v w apart e e' = let r = total-two f xs i j v w (λ q. apart (ap suc q)) e e' in omega arith

  pub total-none : (f : A → ℕ) (l : List A) → ((i : ℕ) (v : A) → get_elem? l i ≡ some v → f v ≡ 0) → total f l ≡ 0
  total-none f [] none = refl
  total-none f (x ∷ xs) none = let a = none 0 x refl in let r = total-none f xs (λ i v e. none (suc i) v e) in omega arith

  -- an element of a list that is one longer
  pub at_push : (xs : List A) (p q : A) (j : ℕ) → get_elem? (xs ++ p ∷ []) j ≡ some q → (get_elem? xs j ≡ some q) ⊎ ((j ≡ length xs) × (p ≡ q))
  at_push [] p q zero e = inr (refl, some-injective _ _ e)
  at_push [] p q (suc j) e = absurd (some-ne-none q (sym e))
  at_push (x ∷ xs) p q zero e = inl e
  at_push (x ∷ xs) p q (suc j) e = ⊎_elim (λ a. inl a) (λ (t : (j ≡ length xs) × (p ≡ q)). inr (ap suc t.0, t.1)) (at_push xs p q j e)

  pub at_below : (l : List A) (i : ℕ) (a : A) → get_elem? l i ≡ some a → i < length l
  at_below [] i a e = absurd (some-ne-none a (sym e))
  at_below (x ∷ xs) zero a e = omega arith
  at_below (x ∷ xs) (suc i) a e = let r = at_below xs i a e in omega arith

pub rising_push : (xs : List ℕ) (t : ℕ) → Rising xs → ((x : ℕ) → Mem x xs → x < t) → Rising (xs ++ t ∷ [])
rising_push [] t r below = tt
rising_push (x ∷ []) t r below = (below x (inl refl), tt)
rising_push (x ∷ y ∷ ys) t r below = (r.0, rising_push (y ∷ ys) t r.1 (λ z m. below z (inr m)))

pub numbered_push : (n : ℕ) (ws : List Write) (w : Write) → Numbered n ws → w.number ≡ n + length ws → Numbered n (ws ++ w ∷ [])
numbered_push n [] w r e = (omega arith, tt)
numbered_push n (x ∷ ws) w r e = (r.0, numbered_push (suc n) ws w r.1 (omega arith))

pub numbered_mem : (n : ℕ) (ws : List Write) (w : Write) → Numbered n ws → Mem w ws → w.number < n + length ws
numbered_mem n [] w r m = absurd m
numbered_mem n (x ∷ ws) w r m = ⊎_elim (λ (e : x ≡ w). let is : w.number ≡ n = ap (λ (z : Write). z.number) (sym e) ∙ r.0 in omega arith) (λ q. let k = numbered_mem (suc n) ws w r.1 q in omega arith) m

pub numbered_positive : (n : ℕ) (ws : List Write) → 0 < n → Numbered n ws → AllNumbered ws
numbered_positive n [] pos r w m = absurd m
numbered_positive n (x ∷ ws) pos r w m = ⊎_elim (λ (e : x ≡ w). let is : w.number ≡ n = ap (λ (z : Write). z.number) (sym e) ∙ r.0 in omega arith) (λ q. numbered_positive (suc n) ws (omega arith) r.1 w q) m

pub one_same : (t x : ℕ) → one_if (t == x) ≡ 0 ⊎ (t ≡ x)
one_same t x = grind (arith, nat_tests)

pub one_least : (t x : ℕ) → one_if (t == x) ≤ 1
one_least t x = grind (arith, nat_tests)

pub one_other : (t x : ℕ) → x < t → one_if (x == t) ≡ 0
one_other t x lt = grind (arith, nat_tests)

pub one_here : (x : ℕ) → one_if (x == x) ≡ 1
one_here x = grind (arith, nat_tests)

-- what is below t has no t
pub times_none : (t : ℕ) (xs : List ℕ) → ((x : ℕ) → Mem x xs → x < t) → times t xs ≡ 0
times_none t [] below = refl
times_none t (x ∷ xs) below = let a = one_other t x (below x (inl refl)) in let r = times_none t xs (λ z m. below z (inr m)) in omega arith

pub times-push : (x n : ℕ) (xs : List ℕ) → times x (xs ++ n ∷ []) ≡ times x xs + one_if (n == x)
times-push x n xs = let t = total-append (λ y. one_if (y == x)) xs (n ∷ []) in omega arith

pub once_least : (x n : ℕ) → once_below x n ≤ 1
once_least x n = grind (arith, nat_tests)
