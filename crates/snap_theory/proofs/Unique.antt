-- One list alone has the printed calls in the printed order.
use Rattle.std.proofs.Common.{◌≡◌, ◌⊎◌, List, [], ◌∷◌, refl, sym, ap, ◌∙◌, subst, inl, inr, arith}
use Rattle.snap_core.specs.Calls.{Call}
use Rattle.snap_theory.specs.Levels.{printed_order, StandsBefore, IsPrintedOrder}
use Rattle.snap_core.proofs.Lists.{In, In-from_Contains, Contains-from_In, Pairs, Pairs-from_AllPairs, AllPairs-from_Pairs}
use Rattle.snap_theory.proofs.Printed.{in_printed, to_printed, printed_pairs}
use Rattle.snap_core.proofs.Ordered.{AreOrderedCalls}

pub same_list : {X : Type 0} (R : X → X → Type 0) → ((x y : X) → R x y → R y x → ⊥) → (xs ys : List X) → Pairs R xs → Pairs R ys → ((x : X) → In x xs → In x ys) → ((x : X) → In x ys → In x xs) → xs ≡ ys
same_list R asym [] [] p q f g = refl
same_list R asym [] (y ∷ ys) p q f g = absurd (g y (inl refl))
same_list R asym (x ∷ xs) [] p q f g = absurd (f x (inl refl))
same_list {X} R asym (x ∷ xs) (y ∷ ys) p q f g = (let h : x ≡ y = head in ap (λ z. z ∷ xs) h) ∙ ap (λ zs. y ∷ zs) (same_list R asym xs ys p.1 q.1 left right)
  where
    head : x ≡ y
    head = at (f x (inl refl)) (g y (inl refl))
      where
        at : (y ≡ x) ⊎ In x ys → (x ≡ y) ⊎ In y xs → x ≡ y
        at (inl e) j = sym e
        at (inr i) (inl e) = e
        at (inr i) (inr j) = absurd (asym x y (p.0 y j) (q.0 x i))

    left : (z : X) → In z xs → In z ys
    left z i = at (f z (inr i))
      where
        at : (y ≡ z) ⊎ In z ys → In z ys
        at (inl e) = absurd (let r : R x x = subst (R x) (sym (head ∙ e)) (p.0 z i) in asym x x r r)
        at (inr j) = j

    right : (z : X) → In z ys → In z xs
    right z i = at (g z (inr i))
      where
        at : (x ≡ z) ⊎ In z xs → In z xs
        at (inl e) = absurd (let r : R y y = subst (R y) (sym (sym head ∙ e)) (q.0 z i) in asym y y r r)
        at (inr j) = j

before_once : (calls : List Call) (a b : Call) → StandsBefore calls a b → StandsBefore calls b a → ⊥
before_once calls a b (inl x) (inl y) = omega arith
before_once calls a b (inl x) (inr y) = omega (arith, y.0)
before_once calls a b (inr x) (inl y) = omega (arith, x.0)
before_once calls a b (inr x) (inr y) = omega (arith, x.1, y.1)

pub printed_is : (calls : List Call) → AreOrderedCalls calls → IsPrintedOrder calls (printed_order calls)
printed_is calls f = record {
  printed = λ c. (λ i. let p = in_printed calls c (In-from_Contains _ _ i) in (Contains-from_In _ _ p.0, p.1), λ h. Contains-from_In _ _ (to_printed calls c (In-from_Contains _ _ h.0) h.1));
  sorted = AllPairs-from_Pairs (StandsBefore calls) (printed_order calls) (printed_pairs calls f.numbered);
}

pub printed_alone : (calls order : List Call) → AreOrderedCalls calls → IsPrintedOrder calls order → order ≡ printed_order calls
printed_alone calls order f o =
    same_list (StandsBefore calls) (before_once calls) order (printed_order calls) (Pairs-from_AllPairs (StandsBefore calls) order o.sorted) (printed_pairs calls f.numbered)
    (λ c i. let p = (o.printed c).0 (Contains-from_In _ _ i) in to_printed calls c (In-from_Contains _ _ p.0) p.1)
    (λ c i. let p = in_printed calls c i in In-from_Contains _ _ ((o.printed c).1 (Contains-from_In _ _ p.0, p.1)))
