-- The calls of events that tell calls.
use Rattle.std.proofs.Common.{◌≡◌, ◌⊎◌, ℕ, suc, ◌+◌, ◌≤◌, ◌==◌, ◌&&◌, ◌||◌, Bool, true, false, cond, List, [], ◌∷◌, ◌++◌, append_assoc, map, length, Option, Some, None, refl, sym, ap, ◌∙◌, subst, inl, inr, arith, nat_lt, eq-eqb, eqb-true}
use Rattle.std.specs.List.{Contains, count_by}
use Rattle.std.proofs.lemmas.Bool.{and_parts, and_from, false_from_ne_true, lt-ltb, ltb-true, or_cases, or_left, or_right}
use Rattle.std.proofs.lemmas.List.{length-append, length-map, map-append}
use Rattle.snap_core.specs.declared.entry.Entry.{Entry}
use Rattle.snap_core.specs.declared.event.Event.{Event}
use Rattle.snap_core.specs.declared.event.Event.TheVariants.{BeginUpdate, BeginView, EndUpdate, EndView}
use Rattle.snap_core.specs.Events.{process_of, IsBegin, events_of}
use Rattle.snap_core.specs.Calls.{Call, Operation, Updates, Views, answer_at, calls_of, next_place, next_answer, precedes}
use Rattle.snap_core.specs.Refusals.{is_begin}
use Rattle.snap_core.proofs.Begun.{Begun, Next, nothing, found, next, begins, begin_count, call_at, call_placed, no_event, operation_at}
use Rattle.snap_core.proofs.Ends.{begun_of}
use Rattle.snap_core.proofs.Facts.{precedes_to}
use Rattle.snap_core.proofs.Lists.{In, In-from_Contains, Contains-from_In, In-append_right, In-append_cases, around, Pairs, Pairs-across, Pairs-right, Pairs-from_AllPairs, count-cons}
use Rattle.snap_theory.specs.Telling.{Moment, begin_event, begin_of, end_event, end_of, AreSequential, IsBefore, IsMomentOf, Tells}
use Rattle.snap_theory.proofs.Images.{SplitOrigin, split_origin}

-- the events of moments
abbrev pub heard : List Moment → List Event
heard ms = map (λ m. m.event) ms

-- the order of moments as a test

abbrev pub is_before : Moment → Moment → Bool
is_before a b = nat_lt a.place b.place || (a.place == b.place) && nat_lt a.number b.number

pub before_from : (a b : Moment) → IsBefore a b → is_before a b ≡ true
before_from a b (inl l) = or_left _ _ (lt-ltb a.place b.place l)
before_from a b (inr (p, n)) = or_right _ _ (and_from _ _ (eq-eqb _ _ p) (lt-ltb a.number b.number n))

pub before_to : (a b : Moment) → is_before a b ≡ true → IsBefore a b
before_to a b t = elim (or_cases _ _ t) [
  | inl l ↦ inl (ltb-true a.place b.place l)
  | inr h ↦ let p = and_parts _ _ h in inr (eqb-true _ _ p.0, ltb-true a.number b.number p.1)
]

pub not_both : (a b : Moment) → IsBefore a b → IsBefore b a → ⊥
not_both a b (inl l) (inl m) = omega (arith, l, m)
not_both a b (inl l) (inr (p, n)) = omega (arith, l, p)
not_both a b (inr (p, n)) (inl m) = omega (arith, m, p)
not_both a b (inr (p, n)) (inr (q, m)) = omega (arith, n, m)

pub not_itself : (a : Moment) → IsBefore a a → ⊥
not_itself a h = not_both a a h h

pub before_all : (a b c : Moment) → IsBefore a b → IsBefore b c → IsBefore a c
before_all a b c (inl l) (inl m) = inl (omega (arith, l, m))
before_all a b c (inl l) (inr (p, n)) = inl (omega (arith, l, p))
before_all a b c (inr (p, n)) (inl m) = inl (omega (arith, m, p))
before_all a b c (inr (p, n)) (inr (q, m)) = inr (p ∙ q, omega (arith, n, m))

not_later : (a b : Moment) → IsBefore a b → is_before b a ≡ false
not_later a b h = false_from_ne_true _ (λ t. not_both a b h (before_to b a t))

-- how many moments, and how many begins, are before one

abbrev begins_before : Moment → Moment → Bool
begins_before m x = is_before x m && is_begin x.event

abbrev pub index : List Moment → Moment → ℕ
index ms m = count_by (λ x. is_before x m) ms

abbrev pub begin_index : List Moment → Moment → ℕ
begin_index ms m = count_by (begins_before m) ms

begin_counted : (x : Event) → begin_count x ≡ cond (is_begin x) 1 0
begin_counted (BeginUpdate p e) = refl
begin_counted (BeginView p) = refl
begin_counted (EndUpdate p) = refl
begin_counted (EndView p s) = refl

none_before : (m : Moment) (xs : List Moment) → ((x : Moment) → In x xs → IsBefore m x) → (index xs m ≡ 0) × (begin_index xs m ≡ 0)
none_before m [] h = (refl, refl)
none_before m (x ∷ xs) h =
    let rest = none_before m xs (λ y i. h y (inr i)) in
    let no = not_later m x (h x (inl refl)) in
    let zero_one : cond (is_before x m) 1 0 ≡ 0 = ap {B = ℕ} (λ b. cond b 1 0) no in
    let zero_both : cond (begins_before m x) 1 0 ≡ 0 = ap {B = ℕ} (λ b. cond (b && is_begin x.event) 1 0) no in
    (omega (arith, count-cons (λ x. is_before x m) x xs, zero_one, rest.0), omega (arith, count-cons (begins_before m) x xs, zero_both, rest.1))

pub itself_not : (m : Moment) → is_before m m ≡ false
itself_not m = false_from_ne_true _ (λ t. not_itself m (before_to m m t))

pub index_at : (m : Moment) (xs ys : List Moment) → ((x : Moment) → In x xs → IsBefore x m) → ((y : Moment) → In y ys → IsBefore m y) →
    (index (xs ++ m ∷ ys) m ≡ length xs) × (begin_index (xs ++ m ∷ ys) m ≡ begins (heard xs))
index_at m [] ys early late =
    let rest = none_before m ys late in
    let zero_one : cond (is_before m m) 1 0 ≡ 0 = ap {B = ℕ} (λ b. cond b 1 0) (itself_not m) in
    let zero_both : cond (begins_before m m) 1 0 ≡ 0 = ap {B = ℕ} (λ b. cond (b && is_begin m.event) 1 0) (itself_not m) in
    (omega (arith, count-cons (λ x. is_before x m) m ys, zero_one, rest.0), omega (arith, count-cons (begins_before m) m ys, zero_both, rest.1))
index_at m (x ∷ xs) ys early late =
    let rest = index_at m xs ys (λ y i. early y (inr i)) late in
    let yes = before_from x m (early x (inl refl)) in
    let one : cond (is_before x m) 1 0 ≡ 1 = ap {B = ℕ} (λ b. cond b 1 0) yes in
    let both : cond (begins_before m x) 1 0 ≡ cond (is_begin x.event) 1 0 = ap {B = ℕ} (λ b. cond (b && is_begin x.event) 1 0) yes in
    (omega (arith, count-cons (λ y. is_before y m) x (xs ++ m ∷ ys), one, rest.0), omega (arith, count-cons (begins_before m) x (xs ++ m ∷ ys), both, rest.1, begin_counted x.event))

-- the call that the events make of a call

abbrev pub ended_in : (ℕ → ℕ) → Option ℕ → Option ℕ
ended_in f None = None
ended_in f (Some place) = Some (f place)

abbrev pub told : List Moment → Call → Call
told ms c = record {
  number = begin_index ms (begin_of c);
  process = c.process;
  operation = c.operation;
  begun = index ms (begin_of c);
  ended = ended_in (λ place. index ms (end_of c place)) c.ended;
}

pub process_begin : (p : ℕ) (o : Operation) → process_of (begin_event p o) ≡ p
process_begin p (Updates e) = refl
process_begin p (Views answer) = refl

pub process_end : (p : ℕ) (o : Operation) → process_of (end_event p o) ≡ p
process_end p (Updates e) = refl
process_end p (Views None) = refl
process_end p (Views (Some es)) = refl

pub opens : (p : ℕ) (o : Operation) → IsBegin (begin_event p o)
opens p (Updates e) = tt
opens p (Views answer) = tt

pub not_opening : (p : ℕ) (o : Operation) → IsBegin (end_event p o) → ⊥
not_opening p (Updates e) h = h
not_opening p (Views None) h = h
not_opening p (Views (Some es)) h = h

module _ (calls : List Call) (events : List Event) (s : AreSequential calls) (t : Tells calls events) where
  abbrev pub ms : List Moment
  ms = t.moments

  pub rising : Pairs IsBefore ms
  rising = Pairs-from_AllPairs IsBefore ms t.rising

  pub begin_in : (c : Call) → Contains calls c → In (begin_of c) ms
  begin_in c i = In-from_Contains _ _ (t.all (begin_of c) (c, i, inl refl))

  pub end_in : (c : Call) (place : ℕ) → Contains calls c → c.ended ≡ Some place → In (end_of c place) ms
  end_in c place i e = In-from_Contains _ _ (t.all (end_of c place) (c, i, inr (place, e, refl)))

  -- one of two splits
  pub early : (front : List Moment) (m : Moment) (back : List Moment) → ms ≡ front ++ m ∷ back → (x : Moment) → In x front → IsBefore x m
  early front m back is x i = Pairs-across IsBefore front (m ∷ back) (subst (Pairs IsBefore) is rising) x m i (inl refl)

  pub late : (front : List Moment) (m : Moment) (back : List Moment) → ms ≡ front ++ m ∷ back → (x : Moment) → In x back → IsBefore m x
  late front m back is x i = (Pairs-right IsBefore front (m ∷ back) (subst (Pairs IsBefore) is rising)).0 x i

  index_of : (front : List Moment) (m : Moment) (back : List Moment) → ms ≡ front ++ m ∷ back → (index ms m ≡ length front) × (begin_index ms m ≡ begins (heard front))
  index_of front m back is =
      let at = index_at m front back (early front m back is) (late front m back is) in
      (ap (λ z. index z m) is ∙ at.0, ap (λ z. begin_index z m) is ∙ at.1)

  -- a moment that comes after another one stands behind it
  pub behind : (front : List Moment) (m : Moment) (back : List Moment) → ms ≡ front ++ m ∷ back → (x : Moment) → In x ms → IsBefore m x → In x back
  behind front m back is x i h = elim (In-append_cases x front (m ∷ back) (subst (In x) is i)) [
    | inl j ↦ absurd (not_both m x h (early front m back is x j))
    | inr (inl e) ↦ absurd (not_itself m (subst (IsBefore m) (sym e) h))
    | inr (inr j) ↦ j
  ]

  -- and one that comes before it stands in front
  pub ahead : (front : List Moment) (m : Moment) (back : List Moment) → ms ≡ front ++ m ∷ back → (x : Moment) → In x ms → IsBefore x m → In x front
  ahead front m back is x i h = elim (In-append_cases x front (m ∷ back) (subst (In x) is i)) [
    | inl j ↦ j
    | inr (inl e) ↦ absurd (not_itself m (subst (λ z. IsBefore z m) (sym e) h))
    | inr (inr j) ↦ absurd (not_both x m h (late front m back is x j))
  ]

  -- what comes next of the process of a call, after its begin
  pub data After (c : Call) (front back : List Moment) : Type 0 where
    unended : c.ended ≡ None → next_place c.process (suc (length (heard front))) (heard back) ≡ None → next_answer c.process (heard back) ≡ None → events_of c.process (heard back) ≡ [] → After c front back
    ended : (place : ℕ) (mid rest : List Moment) → c.ended ≡ Some place → back ≡ mid ++ end_of c place ∷ rest → next_place c.process (suc (length (heard front))) (heard back) ≡ Some (suc (length (heard front)) + length mid) → next_answer c.process (heard back) ≡ answer_at (end_event c.process c.operation) → events_of c.process (heard mid) ≡ [] → After c front back

  moment_place : (m : Moment) (d : Call) → Contains calls d → (m ≡ begin_of d) ⊎ ((place : ℕ) × (d.ended ≡ Some place) × (m ≡ end_of d place)) → d.begun ≤ m.place
  moment_place m d i (inl e) = omega (arith, ap (λ (z : Moment). z.place) e)
  moment_place m d i (inr (place, h, e)) = omega (arith, ap (λ (z : Moment). z.place) e, s.rises d place i h)

  moment_by : (m : Moment) (d : Call) (end : ℕ) → Contains calls d → d.ended ≡ Some end → (m ≡ begin_of d) ⊎ ((place : ℕ) × (d.ended ≡ Some place) × (m ≡ end_of d place)) → m.place ≤ end
  moment_by m d end i ends (inl e) = omega (arith, ap (λ (z : Moment). z.place) e, s.rises d end i ends)
  moment_by m d end i ends (inr (place, h, e)) =
      let q : Some place ≡ Some end = sym h ∙ ends in
      let same : place ≡ end = cc in
      omega (arith, ap (λ (z : Moment). z.place) e, same)

  moment_process : (m : Moment) (d : Call) → (m ≡ begin_of d) ⊎ ((place : ℕ) × (d.ended ≡ Some place) × (m ≡ end_of d place)) → process_of m.event ≡ d.process
  moment_process m d (inl e) = ap (λ (z : Moment). process_of z.event) e ∙ process_begin d.process d.operation
  moment_process m d (inr (place, h, e)) = ap (λ (z : Moment). process_of z.event) e ∙ process_end d.process d.operation

  pub no_moment : (p : ℕ) (xs : List Moment) (m : Moment) → In m xs → process_of m.event ≡ p → events_of p (heard xs) ≡ [] → ⊥
  no_moment p xs m i same none =
      let a = around m xs i in
      no_event p (heard a.before) m.event (heard a.after) same (sym (ap (events_of p) (ap heard a.same ∙ map-append (λ z. z.event) a.before (m ∷ a.after))) ∙ none)

  after_begin : (m : Moment) (c : Call) → IsBefore (begin_of c) m → c.begun ≤ m.place
  after_begin m c (inl l) = omega (arith, l)
  after_begin m c (inr (p, n)) = omega (arith, p)

  pub after : (c : Call) → Contains calls c → (front back : List Moment) → ms ≡ front ++ begin_of c ∷ back → After c front back
  after c i front back is = go (next c.process (suc (length (heard front))) (heard back))
    where
      ends_behind : (place : ℕ) → c.ended ≡ Some place → In (end_of c place) back
      ends_behind place e = behind front (begin_of c) back is (end_of c place) (end_in c place i e) (inl (s.rises c place i e))

      go : Next c.process (suc (length (heard front))) (heard back) → After c front back
      go (nothing a b ans) = unended (at c.ended refl) a ans b
        where
          at : (o : Option ℕ) → c.ended ≡ o → c.ended ≡ None
          at None e = e
          at (Some place) e = absurd (no_moment c.process back (end_of c place) (ends_behind place e) (process_end c.process c.operation) b)
      go (found mid x rest split px none at ans) = by what (s.turns c d i id (sym px ∙ ap process_of (sym o.is) ∙ moment_process o.it d what))
        where
          o : SplitOrigin (λ (m : Moment). m.event) back mid x rest
          o = split_origin (λ m. m.event) back mid rest x split

          it_in : In o.it back
          it_in = subst (In o.it) (sym o.split) (In-append_right o.it o.front (o.it ∷ o.back) (inl refl))

          it_late : IsBefore (begin_of c) o.it
          it_late = late front (begin_of c) back is o.it it_in

          whole : ms ≡ (front ++ begin_of c ∷ o.front) ++ o.it ∷ o.back
          whole = is ∙ ap (λ z. front ++ begin_of c ∷ z) o.split ∙ sym (append_assoc front (begin_of c ∷ o.front) (o.it ∷ o.back))

          owned : IsMomentOf calls o.it
          owned = t.only o.it (Contains-from_In _ _ (subst (In o.it) (sym is) (In-append_right o.it front (begin_of c ∷ back) (inr it_in))))

          d : Call
          d = owned.0

          id : Contains calls d
          id = owned.1

          what : (o.it ≡ begin_of d) ⊎ ((place : ℕ) × (d.ended ≡ Some place) × (o.it ≡ end_of d place))
          what = owned.2

          by : (o.it ≡ begin_of d) ⊎ ((place : ℕ) × (d.ended ≡ Some place) × (o.it ≡ end_of d place)) → (c ≡ d) ⊎ ((precedes c d ≡ true) ⊎ (precedes d c ≡ true)) → After c front back
          by (inl e) (inl same) = absurd (not_itself (begin_of c) (subst (IsBefore (begin_of c)) (e ∙ ap begin_of (sym same)) it_late))
          by (inr (place, h, e)) (inl same) =
              let is_end : o.it ≡ end_of c place = e ∙ ap (λ z. end_of z place) (sym same) in
              ended place o.front o.back (ap (λ (z : Call). z.ended) same ∙ h) (o.split ∙ ap (λ z. o.front ++ z ∷ o.back) is_end)
              (at ∙ ap (λ z. Some (suc (length (heard front)) + z)) (ap length (sym o.is_front) ∙ length-map o.front (λ m. m.event)))
              (ans ∙ ap answer_at (sym o.is ∙ ap (λ (z : Moment). z.event) is_end))
              (ap (events_of c.process) o.is_front ∙ none)
          by w (inr (inl first)) =
              let p = precedes_to c d first in
              let end = end_of c p.place in
              let before : IsBefore end o.it = inl (omega (arith, p.before, moment_place o.it d id w)) in
              absurd (elim (In-append_cases end o.front (o.it ∷ o.back) (subst (In end) o.split (ends_behind p.place p.ends))) [
                | inl j ↦ no_moment c.process o.front end j (process_end c.process c.operation) (ap (events_of c.process) o.is_front ∙ none)
                | inr (inl e) ↦ not_itself o.it (subst (λ z. IsBefore z o.it) (sym e) before)
                | inr (inr j) ↦ not_both o.it end (late (front ++ begin_of c ∷ o.front) o.it o.back whole end j) before
              ])
          by w (inr (inr first)) =
              let p = precedes_to d c first in
              absurd (omega (arith, p.before, moment_by o.it d p.place id p.ends w, after_begin o.it c it_late))

  -- so the events make the call that is told
  operation_told : (c : Call) → Contains calls c → (front back : List Moment) → After c front back → operation_at (begin_event c.process c.operation) (heard back) ≡ c.operation
  operation_told c i front back a = go c.operation refl a
    where
      views : (answer : Option (List Entry)) → c.operation ≡ Views answer → After c front back → next_answer c.process (heard back) ≡ answer
      views None o (unended e n ans none) = ans
      views (Some es) o (unended e n ans none) = absurd (let h = s.answered c es i o in let q : None ≡ Some h.0 = sym e ∙ h.1 in cc)
      views None o (ended place mid rest e is n ans none) = absurd (let q : None ≡ Some place = sym (s.unanswered c i o) ∙ e in cc)
      views (Some es) o (ended place mid rest e is n ans none) = ans ∙ ap (λ z. answer_at (end_event c.process z)) o

      go : (o : Operation) → c.operation ≡ o → After c front back → operation_at (begin_event c.process o) (heard back) ≡ o
      go (Updates e) o b = refl
      go (Views answer) o b = ap Views (views answer o b)

  ended_told : (c : Call) → (front back : List Moment) → ms ≡ front ++ begin_of c ∷ back → After c front back → next_place c.process (suc (length (heard front))) (heard back) ≡ ended_in (λ place. index ms (end_of c place)) c.ended
  ended_told c front back is (unended e n ans none) = n ∙ ap (ended_in (λ place. index ms (end_of c place))) (sym e)
  ended_told c front back is (ended place mid rest e split n ans none) =
      let whole : ms ≡ (front ++ begin_of c ∷ mid) ++ end_of c place ∷ rest = is ∙ ap (λ z. front ++ begin_of c ∷ z) split ∙ sym (append_assoc front (begin_of c ∷ mid) (end_of c place ∷ rest)) in
      let at : suc (length (heard front)) + length mid ≡ index ms (end_of c place) =
      omega (arith, (index_of (front ++ begin_of c ∷ mid) (end_of c place) rest whole).0, length-append front (begin_of c ∷ mid), length-map front (λ m. m.event)) in
      n ∙ ap Some at ∙ ap (ended_in (λ place. index ms (end_of c place))) (sym e)

  abbrev made : ℕ → ℕ → Operation → ℕ → Option ℕ → Call
  made n p o b e = record { number = n; process = p; operation = o; begun = b; ended = e }

  pub is_told : (c : Call) → Contains calls c → (front back : List Moment) → ms ≡ front ++ begin_of c ∷ back → call_at (begins (heard front)) (length (heard front)) (begin_event c.process c.operation) (heard back) ≡ told ms c
  is_told c i front back is =
      let a = after c i front back is in
      let at = index_of front (begin_of c) back is in
      let p = process_begin c.process c.operation in
      ap (λ z. made (begins (heard front)) z (operation_at (begin_event c.process c.operation) (heard back)) (length (heard front)) (next_place z (suc (length (heard front))) (heard back))) p
      ∙ ap (λ z. made (begins (heard front)) c.process z (length (heard front)) (next_place c.process (suc (length (heard front))) (heard back))) (operation_told c i front back a)
      ∙ ap (λ z. made (begins (heard front)) c.process c.operation (length (heard front)) z) (ended_told c front back is a)
      ∙ ap (λ z. made z c.process c.operation (length (heard front)) (told ms c).ended) (sym at.1)
      ∙ ap (λ z. made (begin_index ms (begin_of c)) c.process c.operation z (told ms c).ended) (length-map front (λ m. m.event) ∙ sym at.0)

  -- each call is told
  pub told_there : (c : Call) → Contains calls c → In (told ms c) (calls_of events)
  unfolding calls_of
  told_there c i =
      let a = around (begin_of c) ms (begin_in c i) in
      let split : events ≡ heard a.before ++ begin_event c.process c.operation ∷ heard a.after = t.told ∙ ap heard a.same ∙ map-append (λ m. m.event) a.before (begin_of c ∷ a.after) in
      subst (λ z. In z (calls_of events)) (is_told c i a.before a.after a.same)
      (subst (λ z. In (call_at (begins (heard a.before)) (length (heard a.before)) (begin_event c.process c.operation) (heard a.after)) (calls_of z)) (sym split)
      (call_placed 0 0 (begins (heard a.before)) (length (heard a.before)) (heard a.before) (begin_event c.process c.operation) (heard a.after) (opens c.process c.operation) (omega arith) (omega arith)))

  -- and no other
  pub told_from : (x : Call) → Contains (calls_of events) x → (c : Call) × Contains calls c × (told ms c ≡ x)
  told_from x i = go owned.2
    where
      b : Begun 0 0 events x
      b = begun_of events x i

      o : SplitOrigin (λ (m : Moment). m.event) ms b.before b.event b.after
      o = split_origin (λ m. m.event) ms b.before b.after b.event (sym t.told ∙ b.split)

      owned : IsMomentOf calls o.it
      owned = t.only o.it (Contains-from_In _ _ (subst (In o.it) (sym o.split) (In-append_right o.it o.front (o.it ∷ o.back) (inl refl))))

      go : (o.it ≡ begin_of owned.0) ⊎ ((place : ℕ) × (owned.0.ended ≡ Some place) × (o.it ≡ end_of owned.0 place)) → (c : Call) × Contains calls c × (told ms c ≡ x)
      go (inr (place, h, e)) = absurd (not_opening owned.0.process owned.0.operation (subst IsBegin (sym o.is ∙ ap (λ (z : Moment). z.event) e) b.opens))
      go (inl e) =
          let c = owned.0 in
          let is : ms ≡ o.front ++ begin_of c ∷ o.back = o.split ∙ ap (λ z. o.front ++ z ∷ o.back) e in
          let event : begin_event c.process c.operation ≡ b.event = ap (λ (z : Moment). z.event) (sym e) ∙ o.is in
          let number : begins (heard o.front) ≡ x.number = omega (arith, b.at_number, ap begins o.is_front) in
          let place : length (heard o.front) ≡ x.begun = omega (arith, b.at_place, ap length o.is_front) in (
            c,
            owned.1,
            sym (is_told c owned.1 o.front o.back is)
                ∙ ap (λ z. call_at z (length (heard o.front)) (begin_event c.process c.operation) (heard o.back)) number
                ∙ ap (λ z. call_at x.number z (begin_event c.process c.operation) (heard o.back)) place
                ∙ ap (λ z. call_at x.number x.begun z (heard o.back)) event
                ∙ ap (call_at x.number x.begun b.event) o.is_back
                ∙ sym b.is,
          )
