-- Sorted keys give the printed order.
use Rattle.std.proofs.Common.{◌≡◌, ℕ, List, [], ◌∷◌, map, refl, ap, ◌∙◌, subst, inl, inr, arith}
use Rattle.std.specs.List.{filter}
use Rattle.snap_core.specs.Calls.{Call}
use Rattle.snap_theory.specs.Levels.{is_printed, printed_order}
use Rattle.snap_theory.specs.KeyOrder.{KeyLess}
use Rattle.snap_theory.specs.Keys.{key_of, AreSortedKeys}
use Rattle.snap_core.proofs.Lists.{In, In-from_Contains, Contains-from_In, Pairs-from_AllPairs, In-filter, In-from_filter}
use Rattle.snap_core.proofs.Facts.{AreCalls}
use Rattle.snap_core.proofs.Members.{In-from_map, Pairs-map}
use Rattle.snap_core.proofs.Members.{In-map}
use Rattle.snap_theory.proofs.Printed.{in_printed, to_printed, printed_pairs}
use Rattle.snap_theory.proofs.Unique.{same_list}
use Rattle.snap_core.proofs.Ordered.{AreOrderedCalls, ordered_calls}

map_map : {X Y Z : Type 0} (g : Y → Z) (f : X → Y) (xs : List X) → map g (map f xs) ≡ map (λ x. g (f x)) xs
map_map g f [] = refl
map_map g f (x ∷ xs) = ap (λ z. g (f x) ∷ z) (map_map g f xs)

key_once : (a b : ℕ × ℕ) → KeyLess a b → KeyLess b a → ⊥
key_once a b (inl x) (inl y) = omega arith
key_once a b (inl x) (inr y) = omega (arith, y.0)
key_once a b (inr x) (inl y) = omega (arith, x.0)
key_once a b (inr x) (inr y) = omega (arith, x.1, y.1)

pub sorted_keys_give_order : (calls : List Call) → AreOrderedCalls calls → (keys : List (ℕ × ℕ)) → AreSortedKeys calls keys → map (λ k. k.1) keys ≡ map (λ c. c.number) (printed_order calls)
sorted_keys_give_order calls f keys k = ap (map (λ z. z.1)) same ∙ map_map (λ z. z.1) (key_of calls) (printed_order calls)
  where
    same : keys ≡ map (key_of calls) (printed_order calls)
    same = same_list KeyLess key_once keys (map (key_of calls) (printed_order calls)) (Pairs-from_AllPairs KeyLess keys k.sorted) (Pairs-map KeyLess (key_of calls) (printed_order calls) (printed_pairs calls f.numbered))
        (λ key i.
        let j = In-from_map (key_of calls) (filter (is_printed calls) calls) key (In-from_Contains _ _ ((k.same key).0 (Contains-from_In _ _ i))) in
        let p = In-from_filter (is_printed calls) calls j.it j.there in
        subst (λ z. In z (map (key_of calls) (printed_order calls))) j.is (In-map (key_of calls) (printed_order calls) j.it (to_printed calls j.it p.0 p.1)))
        (λ key i.
        let j = In-from_map (key_of calls) (printed_order calls) key i in
        let p = in_printed calls j.it j.there in
        let q = In-map (key_of calls) (filter (is_printed calls) calls) j.it (In-filter (is_printed calls) calls j.it p.0 p.1) in
        In-from_Contains _ _ ((k.same key).1 (Contains-from_In _ _ (subst (λ z. In z (map (key_of calls) (filter (is_printed calls) calls))) j.is q))))

pub keys_give_order : (calls : List Call) → AreCalls calls → (keys : List (ℕ × ℕ)) → AreSortedKeys calls keys → map (λ k. k.1) keys ≡ map (λ c. c.number) (printed_order calls)
keys_give_order calls f = sorted_keys_give_order calls (ordered_calls calls f)
