-- Calls and orders under a map that keeps what an order goes by.
use Rattle.std.proofs.Common.{◌≡◌, ◌≢◌, ℕ, true, List, [], ◌∷◌, ◌++◌, map, Option, refl, sym, ap, ◌∙◌, subst, inl, inr}
use Rattle.std.specs.List.{Contains}
use Rattle.std.proofs.lemmas.List.{map-append}
use Rattle.std.proofs.lemmas.List.Elements.{All-contains}
use Rattle.snap_core.specs.declared.entry.Entry.{Entry}
use Rattle.snap_core.specs.Calls.{Call, precedes, is_view, shown}
use Rattle.snap_core.specs.Orders.{is_completed, is_update, last_written}
use Rattle.snap_core.proofs.Lists.{In, In-from_Contains, Contains-from_In, In-append_left, In-append_right, Pairs, Pairs-weaker, Pairs-from_AllPairs, AllPairs-from_Pairs}
use Rattle.snap_core.proofs.Members.{In-map, Origin, In-from_map, Pairs-map, Pairs-from_map}
use Rattle.snap_theory.specs.Versions.{IsLaterVersion}
use Rattle.snap_theory.specs.Windows.{IsLegalOrderFrom, IsAtomicFrom, IsAtomicInOrderFrom}
use Rattle.snap_theory.proofs.Legal.{Kept, Stands}
use Rattle.snap_theory.proofs.Orders.{All-from_In}

-- a list of images has a list of origins
pub record Origins {X Y : Type 0} (f : X → Y) (xs : List X) (ys : List Y) : Type 0 where
  pub list : List X
  pub is : map f list ≡ ys
  pub there : (x : X) → In x list → In x xs

pub origins : {X Y : Type 0} (f : X → Y) (xs : List X) (ys : List Y) → ((y : Y) → In y ys → In y (map f xs)) → Origins f xs ys
origins f xs [] h = record { list = []; is = refl; there = λ x i. absurd i }
origins {X} {Y} f xs (y ∷ ys) h = go (In-from_map f xs y (h y (inl refl))) (origins f xs ys (λ z i. h z (inr i)))
  where
    go : Origin f xs y → Origins f xs ys → Origins f xs (y ∷ ys)
    go o r = record { list = o.it ∷ r.list; is = ap (λ z. z ∷ map f r.list) o.is ∙ ap (λ z. y ∷ z) r.is; there = there }
      where
        there : (x : X) → In x (o.it ∷ r.list) → In x xs
        there x (inl e) = subst (λ z. In z xs) e o.there
        there x (inr i) = r.there x i

-- a split of a list of images
pub record SplitOrigin {X Y : Type 0} (f : X → Y) (xs : List X) (before : List Y) (y : Y) (after : List Y) : Type 0 where
  pub front : List X
  pub it : X
  pub back : List X
  pub split : xs ≡ front ++ it ∷ back
  pub is_front : map f front ≡ before
  pub is : f it ≡ y
  pub is_back : map f back ≡ after

behind : {X Y : Type 0} (f : X → Y) {xs : List X} {before : List Y} {y : Y} {after : List Y} (x : X) (z : Y) → f x ≡ z → SplitOrigin f xs before y after → SplitOrigin f (x ∷ xs) (z ∷ before) y after
behind f x z e r = record { front = x ∷ r.front; it = r.it; back = r.back; split = ap (λ w. x ∷ w) r.split; is_front = ap (λ w. w ∷ map f r.front) e ∙ ap (λ w. z ∷ w) r.is_front; is = r.is; is_back = r.is_back }

pub split_origin : {X Y : Type 0} (f : X → Y) (xs : List X) (before after : List Y) (y : Y) → map f xs ≡ before ++ y ∷ after → SplitOrigin f xs before y after
split_origin f [] [] after y e = absurd (cc)
split_origin f [] (z ∷ before) after y e = absurd (cc)
split_origin f (x ∷ xs) [] after y e = record { front = []; it = x; back = xs; split = refl; is_front = refl; is = cc; is_back = cc }
split_origin f (x ∷ xs) (z ∷ before) after y e = behind f x z (cc) (split_origin f xs before after y (cc))

-- a map of calls that keeps precedence, and what kind each call is
pub record IsImage (f : Call → Call) (calls : List Call) : Type 0 where
  pub completed : (c : Call) → is_completed (f c) ≡ is_completed c
  pub update : (c : Call) → is_update (f c) ≡ is_update c
  pub view : (c : Call) → is_view (f c) ≡ is_view c
  pub precedence : (a b : Call) → In a calls → In b calls → precedes (f a) (f b) ≡ precedes a b
  pub apart : (a b : Call) → In a calls → In b calls → f a ≡ f b → a ≡ b

-- what a view shows after a list, before and after the map
abbrev pub Shows : (ℕ → Option Entry) → Call → List Call → Type 0
Shows left r before = (k : ℕ) → shown r k ≡ last_written k (left k) before

abbrev pub Among : List Call → List Call → Type 0
Among calls xs = (c : Call) → In c xs → In c calls

stands_image : (f : Call → Call) (calls : List Call) → IsImage f calls → (c : Call) → Stands calls c → Stands (map f calls) (f c)
stands_image f calls m c s = (Contains-from_In _ _ (In-map f calls c (In-from_Contains _ _ s.0)), elim s.1 [ inl d ↦ inl (m.completed c ∙ d) | inr d ↦ inr (m.update c ∙ d) ])

pub legal_image : (f : Call → Call) (calls : List Call) (left other : ℕ → Option Entry) → IsImage f calls → ((before : List Call) (r : Call) → Among calls before → In r calls → is_view r ≡ true → Shows left r before → Shows other (f r) (map f before)) →
    (order : List Call) → IsLegalOrderFrom left calls order → IsLegalOrderFrom other (map f calls) (map f order)
legal_image f calls left other m shows order o = record {
  only = All-from_In (Stands (map f calls)) (map f order) (λ c i. let x = In-from_map f order c i in subst (Stands (map f calls)) x.is (stands_image f calls m x.it (stands x.it x.there)));
  distinct = AllPairs-from_Pairs (λ a b. a ≢ b) (map f order) (Pairs-map (λ a b. a ≢ b) f order (Pairs-weaker (λ a b. a ≢ b) (λ a b. f a ≢ f b) order (λ a b i j n s. n (m.apart a b (among a i) (among b j) s)) (Pairs-from_AllPairs (λ a b. a ≢ b) order o.distinct)));
  completed = completed;
  precedence = AllPairs-from_Pairs Kept (map f order) (Pairs-map Kept f order (Pairs-weaker Kept (λ a b. Kept (f a) (f b)) order (λ a b i j h. m.precedence b a (among b j) (among a i) ∙ h) (Pairs-from_AllPairs Kept order o.precedence)));
  latest = latest;
}
  where
    stands : (c : Call) → In c order → Stands calls c
    stands c i = All-contains (Stands calls) order c o.only (Contains-from_In order c i)

    among : Among calls order
    among c i = In-from_Contains _ _ (stands c i).0

    completed : (c : Call) → Contains (map f calls) c → is_completed c ≡ true → Contains (map f order) c
    completed c i d =
        let x = In-from_map f calls c (In-from_Contains _ _ i) in
        let done = sym (m.completed x.it) ∙ ap is_completed x.is ∙ d in
        subst (Contains (map f order)) x.is (Contains-from_In _ _ (In-map f order x.it (In-from_Contains _ _ (o.completed x.it (Contains-from_In _ _ x.there) done))))

    latest : (before after : List Call) (r : Call) → map f order ≡ before ++ r ∷ after → is_view r ≡ true → (k : ℕ) → shown r k ≡ last_written k (other k) before
    latest before after r s v k =
        let x = split_origin f order before after r s in
        let view = sym (m.view x.it) ∙ ap is_view x.is ∙ v in
        let front : Among calls x.front = λ c i. among c (subst (In c) (sym x.split) (In-append_left c x.front (x.it ∷ x.back) i)) in
        let there = among x.it (subst (In x.it) (sym x.split) (In-append_right x.it x.front (x.it ∷ x.back) (inl refl))) in
        sym (ap (λ z. shown z k) x.is) ∙ shows x.front x.it front there view (o.latest x.front x.back x.it x.split view) k ∙ ap (last_written k (other k)) x.is_front

pub legal_origin : (f : Call → Call) (calls : List Call) (left other : ℕ → Option Entry) → IsImage f calls → ((before : List Call) (r : Call) → Among calls before → In r calls → is_view r ≡ true → Shows other (f r) (map f before) → Shows left r before) →
    (order : List Call) → Among calls order → IsLegalOrderFrom other (map f calls) (map f order) → IsLegalOrderFrom left calls order
legal_origin f calls left other m shows order among o = record {
  only = All-from_In (Stands calls) order only;
  distinct = AllPairs-from_Pairs (λ a b. a ≢ b) order (Pairs-weaker (λ a b. f a ≢ f b) (λ a b. a ≢ b) order (λ a b i j n s. n (ap f s)) (Pairs-from_map (λ a b. a ≢ b) f order (Pairs-from_AllPairs (λ a b. a ≢ b) (map f order) o.distinct)));
  completed = completed;
  precedence = AllPairs-from_Pairs Kept order (Pairs-weaker (λ a b. Kept (f a) (f b)) Kept order (λ a b i j h. sym (m.precedence b a (among b j) (among a i)) ∙ h) (Pairs-from_map Kept f order (Pairs-from_AllPairs Kept (map f order) o.precedence)));
  latest = latest;
}
  where
    only : (c : Call) → In c order → Stands calls c
    only c i =
        let s = All-contains (Stands (map f calls)) (map f order) (f c) o.only (Contains-from_In _ _ (In-map f order c i)) in
        (Contains-from_In _ _ (among c i), elim s.1 [ inl d ↦ inl (sym (m.completed c) ∙ d) | inr d ↦ inr (sym (m.update c) ∙ d) ])

    completed : (c : Call) → Contains calls c → is_completed c ≡ true → Contains order c
    completed c i d =
        let j = o.completed (f c) (Contains-from_In _ _ (In-map f calls c (In-from_Contains _ _ i))) (m.completed c ∙ d) in
        let x = In-from_map f order (f c) (In-from_Contains _ _ j) in
        Contains-from_In _ _ (subst (λ z. In z order) (m.apart x.it c (among x.it x.there) (In-from_Contains _ _ i) x.is) x.there)

    latest : (before after : List Call) (r : Call) → order ≡ before ++ r ∷ after → is_view r ≡ true → (k : ℕ) → shown r k ≡ last_written k (left k) before
    latest before after r s v =
        let front : Among calls before = λ c i. among c (subst (In c) (sym s) (In-append_left c before (r ∷ after) i)) in
        let there = among r (subst (In r) (sym s) (In-append_right r before (r ∷ after) (inl refl))) in
        shows before r front there v (o.latest (map f before) (map f after) (f r) (ap (map f) s ∙ map-append f before (r ∷ after)) (m.view r ∙ v))

pub atomic_image : (f : Call → Call) (calls : List Call) (left other : ℕ → Option Entry) → IsImage f calls → ((before : List Call) (r : Call) → Among calls before → In r calls → is_view r ≡ true → Shows left r before → Shows other (f r) (map f before)) →
    IsAtomicFrom left calls → IsAtomicFrom other (map f calls)
atomic_image f calls left other m shows a = (map f a.0, legal_image f calls left other m shows a.0 a.1)

pub atomic_origin : (f : Call → Call) (calls : List Call) (left other : ℕ → Option Entry) → IsImage f calls → ((before : List Call) (r : Call) → Among calls before → In r calls → is_view r ≡ true → Shows other (f r) (map f before) → Shows left r before) →
    IsAtomicFrom other (map f calls) → IsAtomicFrom left calls
atomic_origin f calls left other m shows a =
    let among : (c : Call) → In c a.0 → In c (map f calls) = λ c i. In-from_Contains _ _ (All-contains (Stands (map f calls)) a.0 c a.1.only (Contains-from_In a.0 c i)).0 in
    let x = origins f calls a.0 among in
    (x.list, legal_origin f calls left other m shows x.list x.there (subst (IsLegalOrderFrom other (map f calls)) (sym x.is) a.1))

-- the same of orders in which the numbers of each component rise

pub in_order_image : (f : Call → Call) (calls : List Call) (left other : ℕ → Option Entry) → IsImage f calls → ((before : List Call) (r : Call) → Among calls before → In r calls → is_view r ≡ true → Shows left r before → Shows other (f r) (map f before)) →
    ((a b : Call) → In a calls → In b calls → IsLaterVersion a b → IsLaterVersion (f a) (f b)) → IsAtomicInOrderFrom left calls → IsAtomicInOrderFrom other (map f calls)
in_order_image f calls left other m shows later a = (
  map f a.0,
  record {
    legal = legal_image f calls left other m shows a.0 a.1.legal;
    rising = AllPairs-from_Pairs IsLaterVersion (map f a.0) (Pairs-map IsLaterVersion f a.0 (Pairs-weaker IsLaterVersion (λ b c. IsLaterVersion (f b) (f c)) a.0 (λ b c i j h. later b c (among b i) (among c j) h) (Pairs-from_AllPairs IsLaterVersion a.0 a.1.rising)));
  },
)
  where
    among : Among calls a.0
    among c i = In-from_Contains _ _ (All-contains (Stands calls) a.0 c a.1.legal.only (Contains-from_In a.0 c i)).0

pub in_order_origin : (f : Call → Call) (calls : List Call) (left other : ℕ → Option Entry) → IsImage f calls → ((before : List Call) (r : Call) → Among calls before → In r calls → is_view r ≡ true → Shows other (f r) (map f before) → Shows left r before) →
    ((a b : Call) → In a calls → In b calls → IsLaterVersion (f a) (f b) → IsLaterVersion a b) → IsAtomicInOrderFrom other (map f calls) → IsAtomicInOrderFrom left calls
in_order_origin f calls left other m shows later a = (
  x.list,
  record {
    legal = legal_origin f calls left other m shows x.list x.there (subst (IsLegalOrderFrom other (map f calls)) (sym x.is) a.1.legal);
    rising = AllPairs-from_Pairs IsLaterVersion x.list (Pairs-weaker (λ b c. IsLaterVersion (f b) (f c)) IsLaterVersion x.list (λ b c i j h. later b c (x.there b i) (x.there c j) h) (Pairs-from_map IsLaterVersion f x.list (subst (Pairs IsLaterVersion) (sym x.is) (Pairs-from_AllPairs IsLaterVersion a.0 a.1.rising))));
  },
)
  where
    x : Origins f calls a.0
    x = origins f calls a.0 (λ c i. In-from_Contains _ _ (All-contains (Stands (map f calls)) a.0 c a.1.legal.only (Contains-from_In a.0 c i)).0)
