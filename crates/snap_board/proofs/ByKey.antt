-- Items in the order of their keys.
use Rattle.std.proofs.Common.{◌≡◌, suc, ◌<◌, ◌≤◌, ◌⊎◌, List, [], ◌∷◌, refl, sym, ◌∙◌, subst, inl, inr, ⊎_elim, arith}
use native.Mathlib.Decide.{dec_le, ℕ_discrete}
use Rattle.snap_core.proofs.Lists.{In, Pairs}
use Rattle.snap_board.proofs.ScanOrder.{Key, Less}

dec_less : (a b : Key) → Dec (Less a b)
dec_less a b = at (dec_le (suc a.0) b.0) (ℕ_discrete a.0 b.0) (dec_le (suc a.1) b.1)
  where
    at : Dec (suc a.0 ≤ b.0) → Dec (a.0 ≡ b.0) → Dec (suc a.1 ≤ b.1) → Dec (Less a b)
    at (yes l) e m = yes (inl l)
    at (no nl) (yes e) (yes l) = yes (inr (e, l))
    at (no nl) (yes e) (no m) = no (λ x. ⊎_elim (λ l. nl l) (λ (t : (a.0 ≡ b.0) × (a.1 < b.1)). m t.1) x)
    at (no nl) (no ne) m = no (λ x. ⊎_elim (λ l. nl l) (λ (t : (a.0 ≡ b.0) × (a.1 < b.1)). ne t.0) x)

less_trans : (a b c : Key) → Less a b → Less b c → Less a c
less_trans a b c x y = ⊎_elim
    (λ l. ⊎_elim (λ l'. inl (omega arith)) (λ (t : (b.0 ≡ c.0) × (b.1 < c.1)). let e = t.0 in inl (omega arith)) y)
    (λ (t : (a.0 ≡ b.0) × (a.1 < b.1)). ⊎_elim (λ l'. let e = t.0 in inl (omega arith)) (λ (t' : (b.0 ≡ c.0) × (b.1 < c.1)). let e = t.1 in let f = t'.1 in inr (t.0 ∙ t'.0, omega arith)) y)
    x

module _ (Item : Type 0) (key : Item → Key) where
  choose : {P : Type 0} → Dec P → List Item → List Item → List Item
  choose (yes p) xs ys = xs
  choose (no np) xs ys = ys

  put : Item → List Item → List Item
  put x [] = x ∷ []
  put x (y ∷ ys) = choose (dec_less (key x) (key y)) (x ∷ y ∷ ys) (y ∷ put x ys)

  pub sort : List Item → List Item
  sort [] = []
  sort (x ∷ xs) = put x (sort xs)

  in_choose : {P : Type 0} (d : Dec P) (xs ys : List Item) (z : Item) → In z xs → In z ys → In z (choose d xs ys)
  unfolding choose
  in_choose (yes p) xs ys z a b = a
  in_choose (no np) xs ys z a b = b

  choose_in : {P : Type 0} (d : Dec P) (xs ys : List Item) (z : Item) → In z (choose d xs ys) → In z xs ⊎ In z ys
  unfolding choose
  choose_in (yes p) xs ys z a = inl a
  choose_in (no np) xs ys z a = inr a

  in_put : (x : Item) (ys : List Item) (z : Item) → (x ≡ z) ⊎ In z ys → In z (put x ys)
  unfolding put
  in_put x [] z i = ⊎_elim (λ e. inl e) (λ q. absurd q) i
  in_put x (y ∷ ys) z i = in_choose (dec_less (key x) (key y)) (x ∷ y ∷ ys) (y ∷ put x ys) z (⊎_elim (λ e. inl e) (λ q. inr q) i)
      (⊎_elim (λ e. inr (in_put x ys z (inl e))) (λ q. ⊎_elim (λ e. inl e) (λ r. inr (in_put x ys z (inr r))) q) i)

  put_in : (x : Item) (ys : List Item) (z : Item) → In z (put x ys) → (x ≡ z) ⊎ In z ys
  unfolding put
  put_in x [] z i = ⊎_elim (λ e. inl e) (λ q. absurd q) i
  put_in x (y ∷ ys) z i = ⊎_elim (λ q. ⊎_elim (λ e. inl e) (λ r. inr r) q) (λ q. ⊎_elim (λ e. inr (inl e)) (λ r. ⊎_elim (λ e. inl e) (λ w. inr (inr w)) (put_in x ys z r)) q)
      (choose_in (dec_less (key x) (key y)) (x ∷ y ∷ ys) (y ∷ put x ys) z i)

  pub in_sort : (xs : List Item) (z : Item) → In z xs → In z (sort xs)
  unfolding sort
  in_sort [] z i = i
  in_sort (x ∷ xs) z i = in_put x (sort xs) z (⊎_elim (λ e. inl e) (λ q. inr (in_sort xs z q)) i)

  sort_in : (xs : List Item) (z : Item) → In z (sort xs) → In z xs
  unfolding sort
  sort_in [] z i = i
  sort_in (x ∷ xs) z i = ⊎_elim (λ e. inl e) (λ q. inr (sort_in xs z q)) (put_in x (sort xs) z i)

  abbrev pub NotAfter : Item → Item → Type 0
  NotAfter x y = Less (key y) (key x) → ⊥

  chosen : {P : Type 0} (R : Item → Item → Type 0) (d : Dec P) (xs ys : List Item) → (P → Pairs R xs) → ((P → ⊥) → Pairs R ys) → Pairs R (choose d xs ys)
  unfolding choose
  chosen R (yes p) xs ys a b = a p
  chosen R (no np) xs ys a b = b np

  sorted_put : (x : Item) (ys : List Item) → Pairs NotAfter ys → Pairs NotAfter (put x ys)
  unfolding put
  sorted_put x [] s = ((λ y i. absurd i), tt)
  sorted_put x (y ∷ ys) s = chosen NotAfter (dec_less (key x) (key y)) (x ∷ y ∷ ys) (y ∷ put x ys)
      (λ lt. ((λ z i. ⊎_elim (λ (e : y ≡ z). λ l. irreflexive (key x) (less_trans (key x) (key y) (key x) lt (subst (λ (w : Item). Less (key w) (key x)) (sym e) l))) (λ q. λ l. s.0 z q (less_trans (key z) (key x) (key y) l lt)) i), s))
      (λ nlt. ((λ z i. ⊎_elim (λ (e : x ≡ z). subst (λ (w : Item). NotAfter y w) e nlt) (λ q. s.0 z q) (put_in x ys z i)), sorted_put x ys s.1))
    where
      irreflexive : (k : Key) → Less k k → ⊥
      irreflexive k l = ⊎_elim (λ a. omega arith) (λ (t : (k.0 ≡ k.0) × (k.1 < k.1)). let b = t.1 in omega arith) l

  pub sorted : (xs : List Item) → Pairs NotAfter (sort xs)
  unfolding sort
  sorted [] = tt
  sorted (x ∷ xs) = sorted_put x (sort xs) (sorted xs)

  -- a relation of each two items, either first, holds of them in any order
  pairs_put : (R : Item → Item → Type 0) → ((x y : Item) → R x y → R y x) → (x : Item) (ys : List Item) → ((y : Item) → In y ys → R x y) → Pairs R ys → Pairs R (put x ys)
  unfolding put
  pairs_put R swap x [] other s = ((λ y i. absurd i), tt)
  pairs_put R swap x (y ∷ ys) other s = chosen R (dec_less (key x) (key y)) (x ∷ y ∷ ys) (y ∷ put x ys)
      (λ _. (other, s))
      (λ _. ((λ z i. ⊎_elim (λ (e : x ≡ z). subst (R y) e (swap x y (other y (inl refl)))) (λ q. s.0 z q) (put_in x ys z i)), pairs_put R swap x ys (λ z i. other z (inr i)) s.1))

  pub pairs_sort : (R : Item → Item → Type 0) → ((x y : Item) → R x y → R y x) → (xs : List Item) → Pairs R xs → Pairs R (sort xs)
  unfolding sort
  pairs_sort R swap [] s = tt
  pairs_sort R swap (x ∷ xs) s = pairs_put R swap x (sort xs) (λ y i. s.0 y (sort_in xs y i)) (pairs_sort R swap xs s.1)
