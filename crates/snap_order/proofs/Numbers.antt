-- Legal orders by numbers, from their front.
use Rattle.std.proofs.Common.{◌≡◌, ◌≢◌, ◌⊎◌, ℕ, ◌+◌, ◌<◌, true, false, List, [], ◌∷◌, ◌++◌, append_assoc, map, length, take, drop, get_or, refl, sym, ap, ◌∙◌, subst, inl, inr, arith}
use Rattle.std.specs.List.{Contains}
use Rattle.std.proofs.lemmas.List.{map-append, take-append-drop, take_more, get_or_default}
use Rattle.std.proofs.lemmas.List.Elements.{All-contains}
use Rattle.snap_core.specs.Calls.{Call, precedes}
use Rattle.snap_core.specs.Orders.{IsLegalOrder, is_completed, is_update}
use Rattle.snap_theory.specs.Starts.{IsLegalStart, MayFollow}
use Rattle.snap_order.specs.Numbers.{IsLegalList, picked}
use Rattle.snap_core.specs.Calls.{nobody}
use Rattle.snap_core.proofs.Lists.{In, In-from_Contains, Contains-from_In, In-append_left, In-get_or, Pairs-left, Pairs-from_AllPairs, AllPairs-from_Pairs}
use Rattle.snap_theory.proofs.Starts.{start_back, start_of_order, order_from_start}
use Rattle.snap_core.proofs.Members.{In-map}
use Rattle.snap_core.proofs.Members.{In-from_map}

-- a call's place in the list is its number
abbrev pub AreNumbered : List Call → Type 0
AreNumbered calls = (j : ℕ) (d : Call) → j < length calls → (get_or calls j d).number ≡ j

pub record IsPlaced (calls : List Call) (c : Call) : Type 0 where
  pub below : c.number < length calls
  pub at_number : get_or calls c.number nobody ≡ c

pub placed_call : (calls : List Call) → AreNumbered calls → (c : Call) → Contains calls c → IsPlaced calls c
placed_call calls p c (k, l, e) =
    let n : c.number ≡ k = ap (λ (z : Call). z.number) (sym e) ∙ p k c l in
    record { below = omega (arith, n); at_number = ap (λ z. get_or calls z nobody) n ∙ get_or_default calls k nobody c l ∙ e }

-- an order is picked by its numbers
pub order_picked : (calls order : List Call) → AreNumbered calls → ((c : Call) → In c order → Contains calls c) → order ≡ picked calls (map (λ c. c.number) order)
unfolding picked
order_picked calls [] p h = refl
order_picked calls (c ∷ order) p h =
    let q = placed_call calls p c (h c (inl refl)) in
    ap (λ z. z ∷ order) (sym q.at_number) ∙ ap (λ zs. get_or calls c.number nobody ∷ zs) (order_picked calls order p (λ d i. h d (inr i)))

pub picked_numbers : (calls : List Call) (ns : List ℕ) → AreNumbered calls → ((n : ℕ) → In n ns → n < length calls) → map (λ c. c.number) (picked calls ns) ≡ ns
unfolding picked
picked_numbers calls [] p h = refl
picked_numbers calls (n ∷ ns) p h =
    ap (λ z. z ∷ map (λ c. c.number) (picked calls ns)) (p n nobody (h n (inl refl))) ∙ ap (λ zs. n ∷ zs) (picked_numbers calls ns p (λ m i. h m (inr i)))

pub picked-append : (calls : List Call) (xs ys : List ℕ) → picked calls (xs ++ ys) ≡ picked calls xs ++ picked calls ys
unfolding picked
picked-append calls xs ys = map-append (λ n. get_or calls n nobody) xs ys

pub picked-more : (calls : List Call) (ns : List ℕ) (i : ℕ) → i < length ns → picked calls (take (i + 1) ns) ≡ picked calls (take i ns) ++ get_or calls (get_or ns i 0) nobody ∷ []
unfolding picked
picked-more calls ns i l = ap (picked calls) (take_more ns i 0 l) ∙ picked-append calls (take i ns) (get_or ns i 0 ∷ [])

pub picks : (calls : List Call) (ns : List ℕ) (n : ℕ) → In n ns → In (get_or calls n nobody) (picked calls ns)
unfolding picked
picks calls ns n i = In-map (λ m. get_or calls m nobody) ns n i

-- the front of a start is one
pub start_front : (calls xs ys : List Call) → IsLegalStart calls (xs ++ ys) → IsLegalStart calls xs
start_front calls xs ys s = record {
  only = λ i d l. All-contains (λ z. Contains calls z × ((is_completed z ≡ true) ⊎ (is_update z ≡ true))) (xs ++ ys) _ s.only (Contains-from_In _ _ (In-append_left _ xs ys (In-get_or xs i d l)));
  distinct = AllPairs-from_Pairs (λ a b. a ≢ b) xs (Pairs-left (λ a b. a ≢ b) xs ys (Pairs-from_AllPairs (λ a b. a ≢ b) (xs ++ ys) s.distinct));
  precedence = AllPairs-from_Pairs (λ a b. precedes b a ≡ false) xs (Pairs-left (λ a b. precedes b a ≡ false) xs ys (Pairs-from_AllPairs (λ a b. precedes b a ≡ false) (xs ++ ys) s.precedence));
  latest = λ before after r split. s.latest before (after ++ ys) r (ap (λ z. z ++ ys) split ∙ append_assoc before (r ∷ after) ys);
}

only_calls : (calls order : List Call) → IsLegalStart calls order → (c : Call) → In c order → Contains calls c
only_calls calls order s c i = (All-contains (λ z. Contains calls z × ((is_completed z ≡ true) ⊎ (is_update z ≡ true))) order c s.only (Contains-from_In _ _ i)).0

-- a legal list picks a legal order
pub picked_legal : (calls : List Call) (ns : List ℕ) → AreNumbered calls → IsLegalList calls ns → IsLegalOrder calls (picked calls ns)
picked_legal calls ns p h =
    let s = start_of_order calls h.0 h.2 in
    subst (IsLegalOrder calls) (order_picked calls h.0 p (only_calls calls h.0 s) ∙ ap (picked calls) h.1) h.2

-- each number of a legal list is a call's
pub legal_number : (calls : List Call) (ns : List ℕ) → AreNumbered calls → IsLegalList calls ns → (n : ℕ) → In n ns → n < length calls
legal_number calls ns p h n i =
    let s = start_of_order calls h.0 h.2 in
    let j = In-from_map (λ (c : Call). c.number) h.0 n (subst (In n) (sym h.1) i) in
    let q = placed_call calls p j.it (only_calls calls h.0 s j.it j.there) in
    omega (arith, q.below, j.is)

-- at each place of a legal list its call may follow those before it
pub legal_next : (calls : List Call) (ns : List ℕ) → AreNumbered calls → IsLegalList calls ns → (i : ℕ) → i < length ns → MayFollow calls (picked calls (take i ns)) (get_or calls (get_or ns i 0) nobody)
legal_next calls ns p h i l =
    let all : picked calls ns ≡ picked calls (take (i + 1) ns) ++ picked calls (drop (i + 1) ns) = ap (picked calls) (sym (take-append-drop (i + 1) ns)) ∙ picked-append calls (take (i + 1) ns) (drop (i + 1) ns) in
    let s : IsLegalStart calls (picked calls (take (i + 1) ns) ++ picked calls (drop (i + 1) ns)) = subst (IsLegalStart calls) all (start_of_order calls (picked calls ns) (picked_legal calls ns p h)) in
    (start_back calls (picked calls (take i ns)) (get_or calls (get_or ns i 0) nobody)
    (subst (IsLegalStart calls) (picked-more calls ns i l) (start_front calls (picked calls (take (i + 1) ns)) (picked calls (drop (i + 1) ns)) s))).1

-- a legal list has the number of each completed call
pub legal_completed : (calls : List Call) (ns : List ℕ) → AreNumbered calls → IsLegalList calls ns → (c : Call) → Contains calls c → is_completed c ≡ true → In c.number ns
legal_completed calls ns p h c i t =
    subst (In c.number) h.1 (In-map (λ (z : Call). z.number) h.0 c (In-from_Contains _ _ (h.2.completed c i t)))

-- and what suffices
pub legal_list : (calls : List Call) (ns : List ℕ) → AreNumbered calls → ((n : ℕ) → In n ns → n < length calls) → IsLegalStart calls (picked calls ns) → ((c : Call) → Contains calls c → is_completed c ≡ true → In c.number ns) → IsLegalList calls ns
legal_list calls ns p below s h = (picked calls ns, picked_numbers calls ns p below, order_from_start calls (picked calls ns) s completed)
  where
    at : (ms : List ℕ) (c : Call) → Contains calls c → In c.number ms → In c (picked calls ms)
    at ms c i j = subst (λ z. In z (picked calls ms)) (placed_call calls p c i).at_number (picks calls ms c.number j)

    completed : (c : Call) → Contains calls c → is_completed c ≡ true → Contains (picked calls ns) c
    completed c i t = Contains-from_In _ _ (at ns c i (h c i t))
