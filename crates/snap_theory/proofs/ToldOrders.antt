-- Orders of the calls that events tell.
use Rattle.std.proofs.Common.{◌≡◌, ℕ, ◌<◌, true, List, [], ◌∷◌, map, Option, Some, None, is_some, refl, sym, ap, ◌∙◌, subst, inl, inr, arith, nat_lt}
use Rattle.std.specs.List.{Contains}
use Rattle.std.proofs.lemmas.Bool.{cases_order, false_from_ne_true, lt-ltb, ltb-true}
use Rattle.std.proofs.lemmas.List.Elements.{All-contains}
use Rattle.snap_core.specs.declared.entry.Entry.{Entry}
use Rattle.snap_core.specs.declared.event.Event.{Event}
use Rattle.snap_core.specs.declared.writers.Writers.TheVariants.{Many}
use Rattle.snap_core.specs.Calls.{Call, calls_of, is_before, is_view, precedes, shown}
use Rattle.snap_core.specs.Orders.{is_completed, is_update, last_written, written_by}
use Rattle.snap_core.proofs.Facts.{precedes_to}
use Rattle.snap_core.proofs.Lists.{In, In-from_Contains, Contains-from_In, count_lt}
use Rattle.snap_core.proofs.Members.{In-map, In-from_map}
use Rattle.snap_theory.specs.Telling.{Moment, begin_of, end_of, AreSequential, IsBefore, Tells, TellingKeepsAtomic}
use Rattle.snap_theory.specs.Windows.{nothing, IsLegalOrderFrom, IsAtomicInOrderFrom}
use Rattle.snap_theory.proofs.Empty.{atomic_from_nothing}
use Rattle.snap_theory.proofs.Images.{IsImage, Shows, in_order_image, in_order_origin}
use Rattle.snap_theory.proofs.Legal.{Stands}
use Rattle.snap_theory.proofs.Orders.{All-from_In}
use Rattle.snap_theory.proofs.Telling.{before_all, before_from, before_to, ended_in, index, itself_not, told, told_from, told_there, is_before as is_moment_before}

-- a legal order is one of all lists with the same calls

legal_of_members : (left : ℕ → Option Entry) (xs ys order : List Call) → ((c : Call) → Contains xs c → Contains ys c) → ((c : Call) → Contains ys c → Contains xs c) → IsLegalOrderFrom left xs order → IsLegalOrderFrom left ys order
legal_of_members left xs ys order to from o = record {
  only = All-from_In (Stands ys) order (λ c i. let s = All-contains (Stands xs) order c o.only (Contains-from_In order c i) in (to c s.0, s.1));
  distinct = o.distinct;
  completed = λ c i d. o.completed c (from c i) d;
  precedence = o.precedence;
  latest = o.latest;
}

in_order_of_members : (left : ℕ → Option Entry) (xs ys : List Call) → ((c : Call) → Contains xs c → Contains ys c) → ((c : Call) → Contains ys c → Contains xs c) → IsAtomicInOrderFrom left xs → IsAtomicInOrderFrom left ys
in_order_of_members left xs ys to from a = (a.0, record { legal = legal_of_members left xs ys a.0 to from a.1.legal; rising = a.1.rising })

-- an earlier moment has a lower index
pub index_rises : (ms : List Moment) (a b : Moment) → In a ms → IsBefore a b → index ms a < index ms b
index_rises ms a b i h = count_lt (λ x. is_moment_before x a) (λ x. is_moment_before x b) ms (λ x j t. before_from x b (before_all x a b (before_to x a t) h)) a i (itself_not a) (before_from a b h)

module _ (calls : List Call) (events : List Event) (s : AreSequential calls) (t : Tells calls events) where
  f : Call → Call
  f c = told t.moments c

  begin_in : (c : Call) → In c calls → In (begin_of c) t.moments
  begin_in c i = In-from_Contains _ _ (t.all (begin_of c) (c, Contains-from_In _ _ i, inl refl))

  end_in : (c : Call) (place : ℕ) → In c calls → c.ended ≡ Some place → In (end_of c place) t.moments
  end_in c place i e = In-from_Contains _ _ (t.all (end_of c place) (c, Contains-from_In _ _ i, inr (place, e, refl)))

  completed : (c : Call) → is_completed (f c) ≡ is_completed c
  unfolding f is_completed
  completed c = go c.ended
    where
      go : (o : Option ℕ) → is_some (ended_in (λ place. index t.moments (end_of c place)) o) ≡ is_some o
      go None = refl
      go (Some place) = refl

  update : (c : Call) → is_update (f c) ≡ is_update c
  unfolding f is_update
  update c = refl

  view : (c : Call) → is_view (f c) ≡ is_view c
  unfolding f is_view
  view c = refl

  precedence : (a b : Call) → In a calls → In b calls → precedes (f a) (f b) ≡ precedes a b
  unfolding f precedes
  precedence a b i j = go a.ended refl
    where
      go : (o : Option ℕ) → a.ended ≡ o → is_before (ended_in (λ place. index t.moments (end_of a place)) o) (index t.moments (begin_of b)) ≡ is_before o b.begun
      go None e = refl
      go (Some place) e = elim (cases_order place b.begun) [
        | inl same ↦ absurd (s.apart a b place (Contains-from_In _ _ i) (Contains-from_In _ _ j) e (sym same))
        | inr (inl less) ↦ lt-ltb _ _ (index_rises t.moments (end_of a place) (begin_of b) (end_in a place i e) (inl less)) ∙ sym (lt-ltb place b.begun less)
        | inr (inr more) ↦
            let l = index_rises t.moments (begin_of b) (end_of a place) (begin_in b j) (inl more) in
            false_from_ne_true _ (λ h. omega (arith, l, ltb-true _ _ h)) ∙ sym (false_from_ne_true (nat_lt place b.begun) (λ h. omega (arith, more, ltb-true place b.begun h)))
      ]

  -- of two calls of a process the second has a greater index
  one_first : (a b : Call) → In a calls → In b calls → precedes a b ≡ true → f a ≡ f b → ⊥
  unfolding f
  one_first a b i j h same =
      let p = precedes_to a b h in
      let l = index_rises t.moments (begin_of a) (begin_of b) (begin_in a i) (inl (omega (arith, p.before, s.rises a p.place (Contains-from_In _ _ i) p.ends))) in
      omega (arith, l, ap (λ (z : Call). z.begun) same)

  apart : (a b : Call) → In a calls → In b calls → f a ≡ f b → a ≡ b
  unfolding f
  apart a b i j same = elim (s.turns a b (Contains-from_In _ _ i) (Contains-from_In _ _ j) (ap (λ (z : Call). z.process) same)) [
    | inl q ↦ q
    | inr (inl h) ↦ absurd (one_first a b i j h same)
    | inr (inr h) ↦ absurd (one_first b a j i h (sym same))
  ]

  image : IsImage f calls
  image = record { completed = completed; update = update; view = view; precedence = precedence; apart = apart }

  shown_same : (c : Call) (k : ℕ) → shown (f c) k ≡ shown c k
  unfolding f shown
  shown_same c k = refl

  last_same : (k : ℕ) (o : Option Entry) (xs : List Call) → last_written k o (map f xs) ≡ last_written k o xs
  unfolding f
  last_same k o [] = refl
  last_same k o (x ∷ xs) = last_same k (written_by x.operation k o) xs

  shows_to : (before : List Call) (r : Call) → Shows nothing r before → Shows nothing (f r) (map f before)
  shows_to before r h k = shown_same r k ∙ h k ∙ sym (last_same k (nothing k) before)

  shows_from : (before : List Call) (r : Call) → Shows nothing (f r) (map f before) → Shows nothing r before
  shows_from before r h k = sym (shown_same r k) ∙ h k ∙ last_same k (nothing k) before

  to : (c : Call) → Contains (map f calls) c → Contains (calls_of events) c
  unfolding f
  to c i =
      let o = In-from_map f calls c (In-from_Contains _ _ i) in
      Contains-from_In _ _ (subst (λ z. In z (calls_of events)) o.is (told_there calls events s t o.it (Contains-from_In _ _ o.there)))

  from : (c : Call) → Contains (calls_of events) c → Contains (map f calls) c
  unfolding f
  from c i =
      let o = told_from calls events s t c i in
      Contains-from_In _ _ (subst (λ z. In z (map f calls)) o.2 (In-map f calls o.0 (In-from_Contains _ _ o.1)))

pub telling_keeps_atomic : TellingKeepsAtomic
unfolding f
telling_keeps_atomic calls events s t = (
  λ a. (atomic_from_nothing Many (calls_of events)).0 (in_order_of_members nothing (map (f calls events s t) calls) (calls_of events) (to calls events s t) (from calls events s t)
      (in_order_image (f calls events s t) calls nothing nothing (image calls events s t) (λ before r among i v. shows_to calls events s t before r) (λ x y i j h. h) ((atomic_from_nothing Many calls).1 a))),
  λ a. (atomic_from_nothing Many calls).0 (in_order_origin (f calls events s t) calls nothing nothing (image calls events s t) (λ before r among i v. shows_from calls events s t before r) (λ x y i j h. h)
      (in_order_of_members nothing (calls_of events) (map (f calls events s t) calls) (from calls events s t) (to calls events s t) ((atomic_from_nothing Many (calls_of events)).1 a))),
)
