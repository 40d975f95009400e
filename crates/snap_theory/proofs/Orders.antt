-- Legal orders of calls that fall into a front and a back.
use Rattle.std.proofs.Common.{◌≡◌, ◌≢◌, ◌⊎◌, ℕ, true, false, List, [], ◌∷◌, ◌++◌, append_assoc, append-nil, None, refl, sym, ap, ◌∙◌, subst, inl, inr, arith}
use Rattle.std.specs.List.{Contains, All}
use Rattle.std.proofs.lemmas.Bool.{false≢true}
use Rattle.std.proofs.lemmas.List.Elements.{All-contains}
use Rattle.snap_core.specs.Entries.{number_in}
use Rattle.snap_core.specs.Calls.{Call, precedes, is_view, shown}
use Rattle.snap_core.specs.Orders.{IsLegalOrder, IsAtomic, is_completed, last_written}
use Rattle.snap_core.proofs.Lists.{In, In-from_Contains, Contains-from_In, In-append_left, In-append_right, In-append_cases, Pairs, Pairs-left, Pairs-right, Pairs-append, Pairs-weaker, Pairs-from_AllPairs, AllPairs-from_Pairs, In-get_or}
use Rattle.snap_core.proofs.Facts.{AreCalls}
use Rattle.snap_core.proofs.Begun.{Compared, alike, first, second, compare_splits}
use Rattle.snap_theory.specs.Windows.{IsLegalOrderFrom, IsAtomicFrom, IsAtomicInOrderFrom}
use Rattle.snap_theory.proofs.Legal.{Kept, Stands}
use Rattle.snap_theory.specs.Versions.{IsLaterVersion, IsLegalInOrder, IsAtomicInOrder}
use Rattle.snap_theory.proofs.Last.{later, same_last, last_behind}
use Rattle.snap_theory.proofs.Cuts.{IsCut, left_of, in_front, in_back, not_itself, not_back, front_rises, front_most, back_more}

pub All-from_In : {X : Type 0} (P : X → Type 0) (xs : List X) → ((x : X) → In x xs → P x) → All P xs
All-from_In P xs h k d l = h _ (In-get_or xs k d l)

Pairs-both : {X : Type 0} (R S : X → X → Type 0) (xs : List X) → Pairs R xs → Pairs S xs → Pairs (λ a b. R a b × S a b) xs
Pairs-both R S [] p q = tt
Pairs-both R S (x ∷ xs) p q = (λ y i. (p.0 y i, q.0 y i), Pairs-both R S xs p.1 q.1)

-- the updates of an order stand in the order of their numbers
order_rises : (calls order : List Call) → AreCalls calls → ((c : Call) → In c order → Contains calls c) → Pairs Kept order → Pairs (λ a b. a ≢ b) order → Pairs IsLaterVersion order
order_rises calls order f there p q =
    Pairs-weaker (λ a b. Kept a b × (a ≢ b)) IsLaterVersion order (λ a b i j h. later calls f a b (there a i) (there b j) h.0 h.1) (Pairs-both Kept (λ a b. a ≢ b) order p q)

-- where updates of one component follow one another, each legal order has rising numbers
pub legal_in_order : (calls order : List Call) → AreCalls calls → IsLegalOrder calls order → IsLegalInOrder calls order
legal_in_order calls order f o = record {
  legal = o;
  rising = AllPairs-from_Pairs IsLaterVersion order (order_rises calls order f (λ c i. (All-contains (Stands calls) order c o.only (Contains-from_In order c i)).0) (Pairs-from_AllPairs Kept order o.precedence) (Pairs-from_AllPairs (λ a b. a ≢ b) order o.distinct));
}

-- an order whose calls of the front stand before those of the back
record Parted (front back order : List Call) : Type 0 where
  fore : List Call
  rear : List Call
  split : order ≡ fore ++ rear
  in_fore : (c : Call) → In c fore → Contains front c
  in_rear : (c : Call) → In c rear → Contains back c

part : (front back : List Call) → IsCut front back → (order : List Call) → ((c : Call) → In c order → Contains front c ⊎ Contains back c) → Pairs Kept order → Parted front back order
part front back x [] there p = record { fore = []; rear = []; split = refl; in_fore = λ c i. absurd i; in_rear = λ c i. absurd i }
part front back x (a ∷ order) there p = go (there a (inl refl)) (part front back x order (λ c i. there c (inr i)) p.1)
  where
    go : Contains front a ⊎ Contains back a → Parted front back order → Parted front back (a ∷ order)
    go (inl i) z = record { fore = a ∷ z.fore; rear = z.rear; split = ap (λ w. a ∷ w) z.split; in_fore = in_fore; in_rear = z.in_rear }
      where
        in_fore : (c : Call) → In c (a ∷ z.fore) → Contains front c
        in_fore c (inl e) = subst (Contains front) e i
        in_fore c (inr j) = z.in_fore c j
    go (inr i) z = record { fore = []; rear = a ∷ order; split = refl; in_fore = λ c j. absurd j; in_rear = in_rear }
      where
        in_rear : (c : Call) → In c (a ∷ order) → Contains back c
        in_rear c (inl e) = subst (Contains back) e i
        in_rear c (inr j) = elim (there c (inr j)) [
          | inl k ↦ absurd (false≢true (sym (p.0 c j) ∙ x.across c a (In-from_Contains _ _ k) (In-from_Contains _ _ i)))
          | inr k ↦ k
        ]

-- from a legal order of the whole

sides_of : (front back order : List Call) → IsCut front back → IsLegalInOrder (front ++ back) order → IsAtomicInOrder front × IsAtomicInOrderFrom (left_of front) back
sides_of front back order x r = (
  (
    z.fore,
    record {
      legal = record {
        only = All-from_In (Stands front) z.fore (λ c i. (z.in_fore c i, (stands c (fore_in c i)).1));
        distinct = AllPairs-from_Pairs (λ a b. a ≢ b) z.fore (Pairs-left (λ a b. a ≢ b) z.fore z.rear apart);
        completed = fore_completed;
        precedence = AllPairs-from_Pairs (λ a b. precedes b a ≡ false) z.fore (Pairs-left Kept z.fore z.rear kept);
        latest = λ before after q s v k. o.latest before (after ++ z.rear) q (z.split ∙ ap (λ w. w ++ z.rear) s ∙ append_assoc before (q ∷ after) z.rear) v k;
      };
      rising = AllPairs-from_Pairs IsLaterVersion z.fore (Pairs-left IsLaterVersion z.fore z.rear rises);
    },
  ),
  (
    z.rear,
    record {
      legal = record {
        only = All-from_In (Stands back) z.rear (λ c i. (z.in_rear c i, (stands c (rear_in c i)).1));
        distinct = AllPairs-from_Pairs (λ a b. a ≢ b) z.rear (Pairs-right (λ a b. a ≢ b) z.fore z.rear apart);
        completed = rear_completed;
        precedence = AllPairs-from_Pairs (λ a b. precedes b a ≡ false) z.rear (Pairs-right Kept z.fore z.rear kept);
        latest = λ before after q s v k.
            o.latest (z.fore ++ before) after q (z.split ∙ ap (λ w. z.fore ++ w) s ∙ sym (append_assoc z.fore before (q ∷ after))) v k
            ∙ last_behind k None (left_of front k) z.fore before (fore_left k);
      };
      rising = AllPairs-from_Pairs IsLaterVersion z.rear (Pairs-right IsLaterVersion z.fore z.rear rises);
    },
  ),
)
  where
    o : IsLegalOrder (front ++ back) order
    o = r.legal

    stands : (c : Call) → In c order → Stands (front ++ back) c
    stands c i = All-contains (Stands (front ++ back)) order c o.only (Contains-from_In order c i)

    z : Parted front back order
    z = part front back x order (λ c i. elim (In-append_cases c front back (In-from_Contains _ _ (stands c i).0)) [ inl j ↦ inl (Contains-from_In _ _ j) | inr j ↦ inr (Contains-from_In _ _ j) ]) (Pairs-from_AllPairs Kept order o.precedence)

    kept : Pairs Kept (z.fore ++ z.rear)
    kept = subst (Pairs Kept) z.split (Pairs-from_AllPairs Kept order o.precedence)

    apart : Pairs (λ a b. a ≢ b) (z.fore ++ z.rear)
    apart = subst (Pairs (λ a b. a ≢ b)) z.split (Pairs-from_AllPairs (λ a b. a ≢ b) order o.distinct)

    rises : Pairs IsLaterVersion (z.fore ++ z.rear)
    rises = subst (Pairs IsLaterVersion) z.split (Pairs-from_AllPairs IsLaterVersion order r.rising)

    fore_in : (c : Call) → In c z.fore → In c order
    fore_in c i = subst (In c) (sym z.split) (In-append_left c z.fore z.rear i)

    rear_in : (c : Call) → In c z.rear → In c order
    rear_in c i = subst (In c) (sym z.split) (In-append_right c z.fore z.rear i)

    -- no call is on both sides
    one_side : (c : Call) → Contains front c → Contains back c → ⊥
    one_side c i j = not_itself (front ++ back) x.calls c (in_front front back c i) (x.across c c (In-from_Contains _ _ i) (In-from_Contains _ _ j))

    placed : (c : Call) → Contains (front ++ back) c → is_completed c ≡ true → In c z.fore ⊎ In c z.rear
    placed c i d = In-append_cases c z.fore z.rear (subst (In c) z.split (In-from_Contains order c (o.completed c i d)))

    fore_completed : (c : Call) → Contains front c → is_completed c ≡ true → Contains z.fore c
    fore_completed c i d = elim (placed c (in_front front back c i) d) [
      | inl j ↦ Contains-from_In _ _ j
      | inr j ↦ absurd (one_side c i (z.in_rear c j))
    ]

    rear_completed : (c : Call) → Contains back c → is_completed c ≡ true → Contains z.rear c
    rear_completed c i d = elim (placed c (in_back front back c i) d) [
      | inl j ↦ absurd (one_side c (z.in_fore c j) i)
      | inr j ↦ Contains-from_In _ _ j
    ]

    -- the calls of the front in the order leave what the front leaves
    fore_left : (k : ℕ) → last_written k None z.fore ≡ left_of front k
    fore_left k =
        same_last (front ++ back) x.calls k z.fore front
        (Pairs-left IsLaterVersion z.fore z.rear rises)
        (front_rises front back x)
        (λ c i. in_front front back c (z.in_fore c i))
        (λ c e w i. In-from_Contains _ _ (z.in_fore c i))
        (λ c e w i. In-from_Contains _ _ (fore_completed c (Contains-from_In _ _ i) (x.completed c i)))

-- from legal orders of both sides

legal_whole : (front back fore rear : List Call) → IsCut front back → Pairs IsLaterVersion fore → IsLegalOrder front fore → IsLegalOrderFrom (left_of front) back rear → IsLegalOrder (front ++ back) (fore ++ rear)
legal_whole front back fore rear x rises o q = record {
  only = All-from_In (Stands (front ++ back)) (fore ++ rear) only;
  distinct = AllPairs-from_Pairs (λ a b. a ≢ b) (fore ++ rear) (Pairs-append (λ a b. a ≢ b) fore rear (Pairs-from_AllPairs (λ a b. a ≢ b) fore o.distinct) (Pairs-from_AllPairs (λ a b. a ≢ b) rear q.distinct) apart);
  completed = completed;
  precedence = AllPairs-from_Pairs Kept (fore ++ rear) (Pairs-append Kept fore rear (Pairs-from_AllPairs Kept fore o.precedence) (Pairs-from_AllPairs Kept rear q.precedence) (λ a b i j. not_back front back x a b (in_fore a i) (in_rear b j)));
  latest = latest;
}
  where
    in_fore : (c : Call) → In c fore → Contains front c
    in_fore c i = (All-contains (Stands front) fore c o.only (Contains-from_In fore c i)).0

    in_rear : (c : Call) → In c rear → Contains back c
    in_rear c i = (All-contains (Stands back) rear c q.only (Contains-from_In rear c i)).0

    only : (c : Call) → In c (fore ++ rear) → Stands (front ++ back) c
    only c i = elim (In-append_cases c fore rear i) [
      | inl j ↦ (in_front front back c (in_fore c j), (All-contains (Stands front) fore c o.only (Contains-from_In fore c j)).1)
      | inr j ↦ (in_back front back c (in_rear c j), (All-contains (Stands back) rear c q.only (Contains-from_In rear c j)).1)
    ]

    apart : (a b : Call) → In a fore → In b rear → a ≢ b
    apart a b i j s =
        let there : Contains back a = subst (Contains back) (sym s) (in_rear b j) in
        not_itself (front ++ back) x.calls a (in_front front back a (in_fore a i)) (x.across a a (In-from_Contains _ _ (in_fore a i)) (In-from_Contains _ _ there))

    completed : (c : Call) → Contains (front ++ back) c → is_completed c ≡ true → Contains (fore ++ rear) c
    completed c i d = elim (In-append_cases c front back (In-from_Contains _ _ i)) [
      | inl j ↦ Contains-from_In _ _ (In-append_left c fore rear (In-from_Contains _ _ (o.completed c (Contains-from_In _ _ j) d)))
      | inr j ↦ Contains-from_In _ _ (In-append_right c fore rear (In-from_Contains _ _ (q.completed c (Contains-from_In _ _ j) d)))
    ]

    fore_left : (k : ℕ) → last_written k None fore ≡ left_of front k
    fore_left k =
        same_last (front ++ back) x.calls k fore front
        rises
        (front_rises front back x)
        (λ c i. in_front front back c (in_fore c i))
        (λ c e w i. In-from_Contains _ _ (in_fore c i))
        (λ c e w i. In-from_Contains _ _ (o.completed c (Contains-from_In _ _ i) (x.completed c i)))

    behind : (before after : List Call) (r : Call) → rear ≡ before ++ r ∷ after → is_view r ≡ true → (k : ℕ) → shown r k ≡ last_written k None (fore ++ before)
    behind before after r s v k = q.latest before after r s v k ∙ sym (last_behind k None (left_of front k) fore before (fore_left k))

    latest : (before after : List Call) (r : Call) → fore ++ rear ≡ before ++ r ∷ after → is_view r ≡ true → (k : ℕ) → shown r k ≡ last_written k None before
    latest before after r s v k = go rear refl
      where
        go : (w : List Call) → rear ≡ w → shown r k ≡ last_written k None before
        go [] e = o.latest before after r (sym (ap (λ z. fore ++ z) e ∙ append-nil fore) ∙ s) v k
        go (a ∷ w) e = at (compare_splits fore a w before r after (sym (ap (λ w. fore ++ w) e) ∙ s))
          where
            at : Compared fore a w before r after → shown r k ≡ last_written k None before
            at (alike i j l) = behind [] after r (e ∙ ap (λ z. z ∷ w) j ∙ ap (λ z. r ∷ z) l) v k ∙ ap (last_written k None) (append-nil fore ∙ i)
            at (first mid i j) = behind (a ∷ mid) after r (e ∙ ap (λ z. a ∷ z) j) v k ∙ ap (last_written k None) (sym i)
            at (second mid i j) = o.latest before mid r i v k

pub in_order_sides : (front back : List Call) → IsCut front back → IsAtomicInOrder (front ++ back) → IsAtomicInOrder front × IsAtomicInOrderFrom (left_of front) back
in_order_sides front back x a = sides_of front back a.0 x a.1

pub in_order_whole : (front back : List Call) → IsCut front back → IsAtomicInOrder front × IsAtomicInOrderFrom (left_of front) back → IsAtomicInOrder (front ++ back)
in_order_whole front back x a = (
  a.0.0 ++ a.1.0,
  record {
    legal = legal_whole front back a.0.0 a.1.0 x fore a.0.1.legal a.1.1.legal;
    rising = AllPairs-from_Pairs IsLaterVersion (a.0.0 ++ a.1.0) (Pairs-append IsLaterVersion a.0.0 a.1.0 fore (Pairs-from_AllPairs IsLaterVersion a.1.0 a.1.1.rising) across);
  },
)
  where
    fore : Pairs IsLaterVersion a.0.0
    fore = Pairs-from_AllPairs IsLaterVersion a.0.0 a.0.1.rising

    -- an update of the back has a greater number than what the front left
    across : (c d : Call) → In c a.0.0 → In d a.1.0 → IsLaterVersion c d
    across c d i j e f v w same =
        let ic = (All-contains (Stands front) a.0.0 c a.0.1.legal.only (Contains-from_In a.0.0 c i)).0 in
        let id = (All-contains (Stands back) a.1.0 d a.1.1.legal.only (Contains-from_In a.1.0 d j)).0 in
        let most = front_most front back x c e (record { there = ic; writes = v }) in
        let more = back_more front back x d f (record { there = id; writes = w }) in
        omega (arith, most, more, ap (λ z. number_in (left_of front z)) same)

-- where updates of one component follow one another, so without the numbers

pub atomic_sides : (front back : List Call) → AreCalls (front ++ back) → IsCut front back → IsAtomic (front ++ back) → IsAtomic front × IsAtomicFrom (left_of front) back
atomic_sides front back f x a =
    let s = sides_of front back a.0 x (legal_in_order (front ++ back) a.0 f a.1) in
    ((s.0.0, s.0.1.legal), (s.1.0, s.1.1.legal))

pub atomic_whole : (front back : List Call) → AreCalls (front ++ back) → IsCut front back → IsAtomic front × IsAtomicFrom (left_of front) back → IsAtomic (front ++ back)
atomic_whole front back f x a = (a.0.0 ++ a.1.0, legal_whole front back a.0.0 a.1.0 x rises a.0.1 a.1.1)
  where
    there : (c : Call) → In c a.0.0 → Contains (front ++ back) c
    there c i = in_front front back c (All-contains (Stands front) a.0.0 c a.0.1.only (Contains-from_In a.0.0 c i)).0

    rises : Pairs IsLaterVersion a.0.0
    rises = order_rises (front ++ back) a.0.0 f there (Pairs-from_AllPairs Kept a.0.0 a.0.1.precedence) (Pairs-from_AllPairs (λ a b. a ≢ b) a.0.0 a.0.1.distinct)
