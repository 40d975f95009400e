-- Where the calls of events begin and end, and what of this stays if calls are left out, or write other entries.
use Rattle.std.proofs.Common.{◌≡◌, ◌≢◌, ◌⊎◌, ℕ, suc, ◌+◌, ◌<◌, true, List, ◌∷◌, ◌++◌, append_assoc, length, Some, None, refl, sym, ap, ◌∙◌, subst, inl, inr, arith}
use Rattle.std.specs.List.{Contains}
use Rattle.std.proofs.lemmas.List.{length-append}
use Rattle.snap_core.specs.declared.event.Event.{Event}
use Rattle.snap_core.specs.Events.{process_of, IsBegin, Ends, events_of, IsWellFormed}
use Rattle.snap_core.specs.Calls.{Call, Operation, Updates, Views, calls_of, is_answer, is_view, precedes}
use Rattle.snap_core.specs.Regular.{IsViewOf}
use Rattle.snap_core.proofs.Begun.{Begun, Compared, alike, first, second, compare_splits, not_end, Next, nothing, found, next, ends_it, begins, no_event}
use Rattle.snap_core.proofs.Ends.{begun_of, rises_part, apart_part, unanswered_part, answered_part}
use Rattle.snap_core.proofs.Facts.{Ended, precedes_to, precedes_from}
use Rattle.snap_core.proofs.Lists.{In-from_Contains, Contains-from_In, In-from_filter}
use Rattle.snap_core.proofs.Members.{In-from_map}
use Rattle.snap_theory.specs.Versioned.{counted, counted_operation, kept_calls, numbered_calls, stays_as}
use Rattle.snap_theory.proofs.Moved.{of_one_number}

-- what the calls of any events have: numbers of their own, ends behind their begins, and an end of each answered view
pub record AreMade (calls : List Call) : Type 0 where
  pub one : (a b : Call) → Contains calls a → Contains calls b → a.number ≡ b.number → a ≡ b
  pub rises : (c : Call) (place : ℕ) → Contains calls c → c.ended ≡ Some place → c.begun < place
  pub answered : (r : Call) → IsViewOf calls r → Ended r

-- what the calls of well-formed events have: each place is a begin or an end of one call, and each process makes one call after the other
pub record AreTimed (calls : List Call) : Type 0 where
  pub made : AreMade calls
  pub begins_apart : (a b : Call) → Contains calls a → Contains calls b → a.begun ≡ b.begun → a ≡ b
  pub ends_apart : (a b : Call) (place : ℕ) → Contains calls a → Contains calls b → a.ended ≡ Some place → b.ended ≡ Some place → a ≡ b
  pub apart : (a b : Call) (place : ℕ) → Contains calls a → Contains calls b → a.ended ≡ Some place → b.begun ≢ place
  pub turns : (a b : Call) → Contains calls a → Contains calls b → a.process ≡ b.process → (a ≡ b) ⊎ ((precedes a b ≡ true) ⊎ (precedes b a ≡ true))
  pub unanswered : (c : Call) → Contains calls c → c.operation ≡ Views None → c.ended ≡ None

pub made : (es : List Event) → AreMade (calls_of es)
made es = record { one = λ a b i j. of_one_number es a b (In-from_Contains _ _ i) (In-from_Contains _ _ j); rises = rises_part es; answered = answered_part es }

-- of two calls of a process the one that begins first ends before the other begins
first_ends : (es : List Event) → IsWellFormed es → (a b : Call) (x : Begun 0 0 es a) (y : Begun 0 0 es b) (mid : List Event) → a.process ≡ b.process → y.before ≡ x.before ++ x.event ∷ mid → x.after ≡ mid ++ y.event ∷ y.after → precedes a b ≡ true
first_ends es wf a b x y mid same front back = at (next p (suc a.begun) x.after)
  where
    p : ℕ
    p = process_of x.event

    pa : a.process ≡ p
    pa = ap (λ (z : Call). z.process) x.is

    py : process_of y.event ≡ p
    py = sym (ap (λ (z : Call). z.process) y.is) ∙ sym same ∙ pa

    at : Next p (suc a.begun) x.after → precedes a b ≡ true
    at (nothing i j k) = absurd (no_event p mid y.event y.after py (sym (ap (events_of p) back) ∙ j))
    at (found m z rest s pz none place ans) = by (compare_splits m z rest mid y.event y.after (sym s ∙ back))
      where
        ends : Ends x.event z
        ends = ends_it es wf x.before m rest x.event z (x.split ∙ ap (λ w. x.before ++ x.event ∷ w) s) x.opens pz none

        by : Compared m z rest mid y.event y.after → precedes a b ≡ true
        by (alike i j k) = absurd (not_end x.event z ends (subst IsBegin (sym j) y.opens))
        by (second more i j) = absurd (no_event p mid y.event more py (sym (ap (events_of p) i) ∙ none))
        by (first more i j) = precedes_from a b (record {
          place = suc a.begun + length m;
          ends = ap (λ (w : Call). w.ended) x.is ∙ place;
          before = omega (arith, x.at_place, y.at_place, ap length front, length-append x.before (x.event ∷ mid), ap length i, length-append m (z ∷ more));
        })

-- so a process makes one call after the other
one_after_other : (es : List Event) → IsWellFormed es → (a b : Call) → Contains (calls_of es) a → Contains (calls_of es) b → a.process ≡ b.process → (a ≡ b) ⊎ ((precedes a b ≡ true) ⊎ (precedes b a ≡ true))
one_after_other es wf a b i j same = go (compare_splits x.before x.event x.after y.before y.event y.after (sym x.split ∙ y.split))
  where
    x : Begun 0 0 es a
    x = begun_of es a i

    y : Begun 0 0 es b
    y = begun_of es b j

    go : Compared x.before x.event x.after y.before y.event y.after → (a ≡ b) ⊎ ((precedes a b ≡ true) ⊎ (precedes b a ≡ true))
    go (alike p q r) = inl ((made es).one a b i j (x.at_number ∙ ap (λ z. 0 + begins z) p ∙ sym y.at_number))
    go (first mid p q) = inr (inl (first_ends es wf a b x y mid same p q))
    go (second mid p q) = inr (inr (first_ends es wf b a y x mid (sym same) p q))

-- one list around elements at one place
same_place : (xs : List Event) (a : Event) (ys zs : List Event) (b : Event) (ws : List Event) → xs ++ a ∷ ys ≡ zs ++ b ∷ ws → length xs ≡ length zs → (xs ≡ zs) × (a ≡ b)
same_place xs a ys zs b ws s l = go (compare_splits xs a ys zs b ws s)
  where
    go : Compared xs a ys zs b ws → (xs ≡ zs) × (a ≡ b)
    go (alike p q r) = (p, q)
    go (first mid p q) = absurd (omega (arith, l, ap length p, length-append xs (a ∷ mid)))
    go (second mid p q) = absurd (omega (arith, l, ap length p, length-append zs (b ∷ mid)))

begins_alone : (es : List Event) (a b : Call) → Contains (calls_of es) a → Contains (calls_of es) b → a.begun ≡ b.begun → a ≡ b
begins_alone es a b i j same =
    let x = begun_of es a i in
    let y = begun_of es b j in
    let s = same_place x.before x.event x.after y.before y.event y.after (sym x.split ∙ y.split) (omega (arith, same, x.at_place, y.at_place)) in
    (made es).one a b i j (x.at_number ∙ ap (λ z. 0 + begins z) s.0 ∙ sym y.at_number)

-- the event of a call's process at the place where the call ends
record Ending (es : List Event) (c : Call) (place : ℕ) : Type 0 where
  front : List Event
  event : Event
  rest : List Event
  split : es ≡ front ++ event ∷ rest
  size : length front ≡ place
  process : process_of event ≡ c.process

ending : (es : List Event) (c : Call) (place : ℕ) → Contains (calls_of es) c → c.ended ≡ Some place → Ending es c place
ending es c place i e = at (next (process_of x.event) (suc c.begun) x.after)
  where
    x : Begun 0 0 es c
    x = begun_of es c i

    at : Next (process_of x.event) (suc c.begun) x.after → Ending es c place
    at (nothing n a b) = absurd (let g : None ≡ Some place = sym n ∙ sym (ap (λ (w : Call). w.ended) x.is) ∙ e in cc)
    at (found m z rest s pz none n ans) =
        let g : Some (suc c.begun + length m) ≡ Some place = sym n ∙ sym (ap (λ (w : Call). w.ended) x.is) ∙ e in
        let there : suc c.begun + length m ≡ place = cc in
        record {
          front = x.before ++ x.event ∷ m;
          event = z;
          rest = rest;
          split = x.split ∙ ap (λ w. x.before ++ x.event ∷ w) s ∙ sym (append_assoc x.before (x.event ∷ m) (z ∷ rest));
          size = omega (arith, there, x.at_place, length-append x.before (x.event ∷ m));
          process = pz ∙ sym (ap (λ (w : Call). w.process) x.is);
        }

-- a call does not precede one that ends where it ends
not_first : (es : List Event) (a b : Call) (place : ℕ) → Contains (calls_of es) b → a.ended ≡ Some place → b.ended ≡ Some place → precedes a b ≡ true → ⊥
not_first es a b place j e f h =
    let p = precedes_to a b h in
    let s : Some p.place ≡ Some place = sym p.ends ∙ e in
    let same : p.place ≡ place = cc in
    omega (arith, same, p.before, rises_part es b place j f)

ends_alone : (es : List Event) → IsWellFormed es → (a b : Call) (place : ℕ) → Contains (calls_of es) a → Contains (calls_of es) b → a.ended ≡ Some place → b.ended ≡ Some place → a ≡ b
ends_alone es wf a b place i j e f =
    let x = ending es a place i e in
    let y = ending es b place j f in
    let s = same_place x.front x.event x.rest y.front y.event y.rest (sym x.split ∙ y.split) (omega (arith, x.size, y.size)) in
    elim (one_after_other es wf a b i j (sym x.process ∙ ap process_of s.1 ∙ y.process)) [
      | inl same ↦ same
      | inr (inl h) ↦ absurd (not_first es a b place j e f h)
      | inr (inr h) ↦ absurd (not_first es b a place i f e h)
    ]

-- the calls of well-formed events
pub timed : (es : List Event) → IsWellFormed es → AreTimed (calls_of es)
timed es wf = record {
  made = made es;
  begins_apart = begins_alone es;
  ends_apart = ends_alone es wf;
  apart = apart_part es wf;
  turns = one_after_other es wf;
  unanswered = unanswered_part es wf;
}

-- a change of calls that keeps their numbers, processes and times, and which are views
pub record KeepsTimes (f : Call → Call) : Type 0 where
  pub number : (c : Call) → (f c).number ≡ c.number
  pub process : (c : Call) → (f c).process ≡ c.process
  pub begun : (c : Call) → (f c).begun ≡ c.begun
  pub ended : (c : Call) → (f c).ended ≡ c.ended
  pub view : (c : Call) → is_view (f c) ≡ is_view c
  pub unanswered : (c : Call) → (f c).operation ≡ Views None → c.operation ≡ Views None

-- some calls, changed so
pub record AreSome (f : Call → Call) (calls rest : List Call) : Type 0 where
  pub was : (c : Call) → Contains rest c → (x : Call) × Contains calls x × (f x ≡ c)

precedes_same : (f : Call → Call) → KeepsTimes f → (a b : Call) → precedes a b ≡ true → precedes (f a) (f b) ≡ true
precedes_same f k a b h =
    let p = precedes_to a b h in
    precedes_from (f a) (f b) (record { place = p.place; ends = k.ended a ∙ p.ends; before = omega (arith, p.before, k.begun b) })

made_of : (f : Call → Call) → KeepsTimes f → (calls rest : List Call) → AreSome f calls rest → AreMade calls → AreMade rest
made_of f k calls rest s m = record {
  one = λ a b i j same.
      let x = s.was a i in
      let y = s.was b j in
      sym x.2 ∙ ap f (m.one x.0 y.0 x.1 y.1 (sym (k.number x.0) ∙ ap (λ (z : Call). z.number) x.2 ∙ same ∙ ap (λ (z : Call). z.number) (sym y.2) ∙ k.number y.0)) ∙ y.2;
  rises = λ c place i e.
      let x = s.was c i in
      let less = m.rises x.0 place x.1 (sym (k.ended x.0) ∙ ap (λ (z : Call). z.ended) x.2 ∙ e) in
      omega (arith, less, k.begun x.0, ap (λ (z : Call). z.begun) x.2);
  answered = λ r v.
      let x = s.was r v.there in
      let e = m.answered x.0 (record { there = x.1; completed = sym (k.view x.0) ∙ ap is_view x.2 ∙ v.completed }) in
      record { place = e.place; ends = ap (λ (z : Call). z.ended) (sym x.2) ∙ k.ended x.0 ∙ e.ends };
}

-- they are timed as before
pub timed_of : (f : Call → Call) → KeepsTimes f → (calls rest : List Call) → AreSome f calls rest → AreTimed calls → AreTimed rest
timed_of f k calls rest s t = record {
  made = made_of f k calls rest s t.made;
  begins_apart = λ a b i j same.
      let x = s.was a i in
      let y = s.was b j in
      sym x.2 ∙ ap f (t.begins_apart x.0 y.0 x.1 y.1 (sym (begun a x.0 x.2) ∙ same ∙ begun b y.0 y.2)) ∙ y.2;
  ends_apart = λ a b place i j d e.
      let x = s.was a i in
      let y = s.was b j in
      sym x.2 ∙ ap f (t.ends_apart x.0 y.0 place x.1 y.1 (ended a x.0 x.2 ∙ d) (ended b y.0 y.2 ∙ e)) ∙ y.2;
  apart = λ a b place i j e same.
      let x = s.was a i in
      let y = s.was b j in
      t.apart x.0 y.0 place x.1 y.1 (ended a x.0 x.2 ∙ e) (sym (begun b y.0 y.2) ∙ same);
  turns = turns;
  unanswered = λ c i w.
      let x = s.was c i in
      sym (ended c x.0 x.2) ∙ t.unanswered x.0 x.1 (k.unanswered x.0 (ap (λ (z : Call). z.operation) x.2 ∙ w));
}
  where
    begun : (c x : Call) → f x ≡ c → c.begun ≡ x.begun
    begun c x e = ap (λ (z : Call). z.begun) (sym e) ∙ k.begun x

    ended : (c x : Call) → f x ≡ c → x.ended ≡ c.ended
    ended c x e = sym (k.ended x) ∙ ap (λ (z : Call). z.ended) e

    process : (c x : Call) → f x ≡ c → x.process ≡ c.process
    process c x e = sym (k.process x) ∙ ap (λ (z : Call). z.process) e

    order : (a b x y : Call) → f x ≡ a → f y ≡ b → precedes x y ≡ true → precedes a b ≡ true
    order a b x y d e h = ap (precedes a) (sym e) ∙ ap (λ z. precedes z (f y)) (sym d) ∙ precedes_same f k x y h

    turns : (a b : Call) → Contains rest a → Contains rest b → a.process ≡ b.process → (a ≡ b) ⊎ ((precedes a b ≡ true) ⊎ (precedes b a ≡ true))
    turns a b i j same =
        let x = s.was a i in
        let y = s.was b j in
        elim (t.turns x.0 y.0 x.1 y.1 (process a x.0 x.2 ∙ same ∙ sym (process b y.0 y.2))) [
          | inl one ↦ inl (sym x.2 ∙ ap f one ∙ y.2)
          | inr (inl h) ↦ inr (inl (order a b x.0 y.0 x.2 y.2 h))
          | inr (inr h) ↦ inr (inr (order b a y.0 x.0 y.2 x.2 h))
        ]

-- ranks for versions, and what is left out, change no times

pub counted_times : (calls : List Call) → KeepsTimes (counted calls)
unfolding is_view
counted_times calls = record {
  number = λ c. refl;
  process = λ c. refl;
  begun = λ c. refl;
  ended = λ c. refl;
  view = λ c. view c.operation;
  unanswered = λ c h. unanswered c.operation h;
}
  where
    view : (o : Operation) → is_answer (counted_operation calls o) ≡ is_answer o
    view (Updates e) = refl
    view (Views None) = refl
    view (Views (Some es)) = refl

    unanswered : (o : Operation) → counted_operation calls o ≡ Views None → o ≡ Views None
    unanswered (Updates e) h = absurd (cc)
    unanswered (Views None) h = refl
    unanswered (Views (Some es)) h = absurd (cc)

-- a call that stays, with ranks as numbers
pub numbered_was : (calls : List Call) → AreSome (counted (kept_calls calls)) calls (numbered_calls calls)
numbered_was calls = record {
  was = λ c i.
      let o = In-from_map (counted (kept_calls calls)) (kept_calls calls) c (In-from_Contains _ _ i) in
      let k = In-from_filter (λ c. stays_as calls c.ended c.operation) calls o.it o.there in
      (o.it, Contains-from_In _ _ k.0, o.is);
}

pub kept_made : (calls : List Call) → AreMade calls → AreMade (kept_calls calls)
kept_made calls m = record { one = λ a b i j. m.one a b (was a i) (was b j); rises = λ c place i. m.rises c place (was c i); answered = λ r v. m.answered r (record { there = was r v.there; completed = v.completed }) }
  where
    was : (c : Call) → Contains (kept_calls calls) c → Contains calls c
    was c i = Contains-from_In _ _ (In-from_filter (λ c. stays_as calls c.ended c.operation) calls c (In-from_Contains _ _ i)).0

pub numbered_timed : (calls : List Call) → AreTimed calls → AreTimed (numbered_calls calls)
numbered_timed calls t = timed_of (counted (kept_calls calls)) (counted_times (kept_calls calls)) calls (numbered_calls calls) (numbered_was calls) t

-- so it is of the numbered calls of well-formed events
pub numbered_events_timed : (es : List Event) → IsWellFormed es → AreTimed (numbered_calls (calls_of es))
numbered_events_timed es wf = numbered_timed (calls_of es) (timed es wf)
