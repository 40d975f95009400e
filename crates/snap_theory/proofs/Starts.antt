-- A legal order from its front.
use Rattle.std.proofs.Common.{◌≡◌, ◌≢◌, ◌⊎◌, ℕ, true, false, List, [], ◌∷◌, ◌++◌, append_assoc, None, refl, sym, ap, ◌∙◌, subst, inl, inr, arith}
use Rattle.std.specs.List.{Contains}
use Rattle.std.proofs.lemmas.List.Elements.{All-contains}
use Rattle.snap_core.specs.Calls.{Call, precedes, is_view, shown}
use Rattle.snap_core.specs.Orders.{IsLegalOrder, is_completed, is_update, last_written}
use Rattle.snap_theory.specs.Starts.{IsLegalStart, MayFollow}
use Rattle.snap_core.proofs.Lists.{In, In-from_Contains, Contains-from_In, In-append_left, In-append_right, In-append_cases, In-get_or, Pairs, Pairs-append, Pairs-left, Pairs-across, Pairs-from_AllPairs, AllPairs-from_Pairs}
use Rattle.snap_core.proofs.Begun.{Compared, alike, first, second, compare_splits}

no_split : {X : Type 0} (xs : List X) (x : X) (ys : List X) → [] ≡ xs ++ x ∷ ys → ⊥
no_split [] x ys h = cc
no_split (z ∷ xs) x ys h = cc

pub start_nil : (calls : List Call) → IsLegalStart calls []
start_nil calls = record {
  only = λ i d l. absurd (omega arith);
  distinct = λ i j d l m. absurd (omega arith);
  precedence = λ i j d l m. absurd (omega arith);
  latest = λ before after r s. absurd (no_split before r after s);
}

push_pairs : (R : Call → Call → Type 0) (xs : List Call) (c : Call) → Pairs R xs → ((a : Call) → In a xs → R a c) → Pairs R (xs ++ c ∷ [])
push_pairs R xs c p h = Pairs-append R xs (c ∷ []) p (λ y i. absurd i, tt) across
  where
    across : (x y : Call) → In x xs → In y (c ∷ []) → R x y
    across x y i (inl e) = subst (R x) e (h x i)
    across x y i (inr j) = absurd j

pub start_push : (calls xs : List Call) (c : Call) → IsLegalStart calls xs → MayFollow calls xs c → IsLegalStart calls (xs ++ c ∷ [])
start_push calls xs c s m = record {
  only = λ i d l. only _ (In-get_or (xs ++ c ∷ []) i d l);
  distinct = AllPairs-from_Pairs (λ a b. a ≢ b) (xs ++ c ∷ []) (push_pairs (λ a b. a ≢ b) xs c (Pairs-from_AllPairs (λ a b. a ≢ b) xs s.distinct) (λ a i. m.fresh a (Contains-from_In _ _ i)));
  precedence = AllPairs-from_Pairs (λ a b. precedes b a ≡ false) (xs ++ c ∷ []) (push_pairs (λ a b. precedes b a ≡ false) xs c (Pairs-from_AllPairs (λ a b. precedes b a ≡ false) xs s.precedence) (λ a i. m.precedence a (Contains-from_In _ _ i)));
  latest = latest;
}
  where
    only : (x : Call) → In x (xs ++ c ∷ []) → Contains calls x × ((is_completed x ≡ true) ⊎ (is_update x ≡ true))
    only x i = at (In-append_cases x xs (c ∷ []) i)
      where
        at : In x xs ⊎ In x (c ∷ []) → Contains calls x × ((is_completed x ≡ true) ⊎ (is_update x ≡ true))
        at (inl j) = All-contains (λ z. Contains calls z × ((is_completed z ≡ true) ⊎ (is_update z ≡ true))) xs x s.only (Contains-from_In _ _ j)
        at (inr (inl e)) = subst (λ z. Contains calls z × ((is_completed z ≡ true) ⊎ (is_update z ≡ true))) e (m.there, m.stands)
        at (inr (inr j)) = absurd j

    latest : (before after : List Call) (r : Call) → xs ++ c ∷ [] ≡ before ++ r ∷ after → is_view r ≡ true → (k : ℕ) → shown r k ≡ last_written k None before
    latest before after r split v k = at (compare_splits xs c [] before r after split)
      where
        at : Compared xs c [] before r after → shown r k ≡ last_written k None before
        at (alike i j e) = ap (λ z. shown z k) (sym j) ∙ m.latest (subst (λ z. is_view z ≡ true) (sym j) v) k ∙ ap (last_written k None) i
        at (first mid i j) = absurd (no_split mid r after j)
        at (second mid i j) = s.latest before mid r i v k

pub start_back : (calls xs : List Call) (c : Call) → IsLegalStart calls (xs ++ c ∷ []) → IsLegalStart calls xs × MayFollow calls xs c
start_back calls xs c s = (shorter, follows)
  where
    distinct : Pairs (λ a b. a ≢ b) (xs ++ c ∷ [])
    distinct = Pairs-from_AllPairs (λ a b. a ≢ b) (xs ++ c ∷ []) s.distinct

    kept : Pairs (λ a b. precedes b a ≡ false) (xs ++ c ∷ [])
    kept = Pairs-from_AllPairs (λ a b. precedes b a ≡ false) (xs ++ c ∷ []) s.precedence

    each : (x : Call) → In x (xs ++ c ∷ []) → Contains calls x × ((is_completed x ≡ true) ⊎ (is_update x ≡ true))
    each x i = All-contains (λ z. Contains calls z × ((is_completed z ≡ true) ⊎ (is_update z ≡ true))) (xs ++ c ∷ []) x s.only (Contains-from_In _ _ i)

    last : In c (xs ++ c ∷ [])
    last = In-append_right c xs (c ∷ []) (inl refl)

    shorter : IsLegalStart calls xs
    shorter = record {
      only = λ i d l. each _ (In-append_left _ xs (c ∷ []) (In-get_or xs i d l));
      distinct = AllPairs-from_Pairs (λ a b. a ≢ b) xs (Pairs-left (λ a b. a ≢ b) xs (c ∷ []) distinct);
      precedence = AllPairs-from_Pairs (λ a b. precedes b a ≡ false) xs (Pairs-left (λ a b. precedes b a ≡ false) xs (c ∷ []) kept);
      latest = λ before after r split. s.latest before (after ++ c ∷ []) r (ap (λ z. z ++ c ∷ []) split ∙ append_assoc before (r ∷ after) (c ∷ []));
    }

    follows : MayFollow calls xs c
    follows = record {
      there = (each c last).0;
      stands = (each c last).1;
      fresh = λ a i. Pairs-across (λ a b. a ≢ b) xs (c ∷ []) distinct a c (In-from_Contains _ _ i) (inl refl);
      precedence = λ a i. Pairs-across (λ a b. precedes b a ≡ false) xs (c ∷ []) kept a c (In-from_Contains _ _ i) (inl refl);
      latest = s.latest xs [] c refl;
    }

pub order_from_start : (calls order : List Call) → IsLegalStart calls order → ((c : Call) → Contains calls c → is_completed c ≡ true → Contains order c) → IsLegalOrder calls order
order_from_start calls order s h = record { only = s.only; distinct = s.distinct; completed = h; precedence = s.precedence; latest = s.latest }

pub start_of_order : (calls order : List Call) → IsLegalOrder calls order → IsLegalStart calls order
start_of_order calls order o = record { only = o.only; distinct = o.distinct; precedence = o.precedence; latest = o.latest }
