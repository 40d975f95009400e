-- What is kept of a history is a history.
use Rattle.std.proofs.Common.{◌≡◌, ℕ, zero, suc, ◌+◌, Bool, true, false, cond, List, [], ◌∷◌, ◌++◌, length, Some, refl, sym, ap, ◌∙◌, subst, inl, inr, arith, append_assoc}
use Rattle.std.specs.Prelude.{◌==◌}
use Rattle.std.specs.List.{count_by}
use Rattle.std.proofs.lemmas.Bool.{false≢true, eqb-true, eq-eqb}
use Rattle.snap_core.specs.declared.entry.Entry.{Entry}
use Rattle.snap_core.specs.declared.event.Event.{Event}
use Rattle.snap_core.specs.declared.event.Event.TheVariants.{BeginUpdate, BeginView, EndUpdate, EndView}
use Rattle.snap_core.specs.Events.{process_of, IsBegin, Ends, TakeTurns, events_of, IsSingleWriter, IsNumbered, begins_update_of}
use Rattle.snap_core.specs.Calls.{next_place, calls_from, calls_of}
use Rattle.snap_core.proofs.Lists.{In, In-from_Contains, Contains-from_In, around, count-cons, In-append_right}
use Rattle.snap_core.proofs.Begun.{alike, first, second, compare_splits, call_at, count_inside}
use Rattle.snap_theory.specs.Kept.{alone, kept_event, kept_from, kept_call}
use Rattle.snap_theory.specs.Choices.{IsChoice, ChoiceKeepsCalls}
use Rattle.snap_theory.proofs.Kept.{Whole, kind, calls_begin, calls_end, begin_kept, process_kept, from_kept, from_left, whole_begin, whole_end, whole_head, kept_to, kept_back, precedes_kept}
use Rattle.snap_theory.specs.VersionLaws.{OrderedChoiceKeepsCalls}
use Rattle.snap_core.proofs.Ordered.{history_is_ordered}

-- calls in turn

ends_kept : (numbers : ℕ → ℕ) (b x : Event) → Ends b x → Ends (kept_event numbers b) (kept_event numbers x)
ends_kept numbers (BeginUpdate p e) (BeginUpdate q f) t = absurd t
ends_kept numbers (BeginUpdate p e) (BeginView q) t = absurd t
ends_kept numbers (BeginUpdate p e) (EndUpdate q) t = tt
ends_kept numbers (BeginUpdate p e) (EndView q s) t = absurd t
ends_kept numbers (BeginView p) (BeginUpdate q f) t = absurd t
ends_kept numbers (BeginView p) (BeginView q) t = absurd t
ends_kept numbers (BeginView p) (EndUpdate q) t = absurd t
ends_kept numbers (BeginView p) (EndView q s) t = tt
ends_kept numbers (EndUpdate p) x t = absurd t
ends_kept numbers (EndView p s) x t = absurd t

begin_of_ends : (b x : Event) → Ends b x → IsBegin b
begin_of_ends (BeginUpdate p e) x t = tt
begin_of_ends (BeginView p) x t = tt
begin_of_ends (EndUpdate p) x t = absurd t
begin_of_ends (EndView p s) x t = absurd t

first_begins : (x : Event) (xs : List Event) → TakeTurns (x ∷ xs) → IsBegin x
first_begins x [] t = t
first_begins x (y ∷ xs) t = begin_of_ends x y t.0

of_other : (p : ℕ) (x : Event) (xs : List Event) → (process_of x == p) ≡ false → events_of p (x ∷ xs) ≡ events_of p xs
of_other p x xs t = ap (λ b. cond b (x ∷ events_of p xs) (events_of p xs)) t

of_same : (p : ℕ) (x : Event) (xs : List Event) → (process_of x == p) ≡ true → events_of p (x ∷ xs) ≡ x ∷ events_of p xs
of_same p x xs t = ap (λ b. cond b (x ∷ events_of p xs) (events_of p xs)) t

-- a list after an open call's begin, if there is one and it is kept
abbrev behind : Bool → Event → List Event → List Event
behind o b xs = cond o (b ∷ xs) xs

-- what is known of the process: it has no open call, or one that began with an event, and is kept or not
data State (keeps : ℕ → Bool) (p place : ℕ) (es : List Event) : Bool → Event → Bool → Type 0 where
  idle : (b : Event) → State keeps p place es false b false
  opened : (b : Event) (k : Bool) → IsBegin b → ((j : ℕ) → next_place p place es ≡ Some j → keeps j ≡ k) → State keeps p place es true b k

next_other : (p place : ℕ) (x : Event) (es : List Event) → (process_of x == p) ≡ false → next_place p place (x ∷ es) ≡ next_place p (suc place) es
next_other p place x es t = ap (λ z. cond z (Some place) (next_place p (suc place) es)) t

next_same : (p place : ℕ) (x : Event) (es : List Event) → (process_of x == p) ≡ true → next_place p place (x ∷ es) ≡ Some place
next_same p place x es t = ap (λ z. cond z (Some place) (next_place p (suc place) es)) t

state_later : (keeps : ℕ → Bool) (p place : ℕ) (x : Event) (es : List Event) (o : Bool) (b : Event) (k : Bool) → (process_of x == p) ≡ false → State keeps p place (x ∷ es) o b k → State keeps p (suc place) es o b k
state_later keeps p place x es o b k t (idle _) = idle b
state_later keeps p place x es o b k t (opened _ _ i h) = opened b k i (λ j g. h j (next_other p place x es t ∙ g))

-- the begins and ends of one process
More : (ℕ → Bool) → (ℕ → ℕ) → ℕ → ℕ → List Event → Type 0
More keeps numbers p place es =
    (n : ℕ) (o : Bool) (b : Event) (k : Bool) → State keeps p place es o b k → TakeTurns (behind o b (events_of p es)) → Whole keeps (calls_from n place es) →
    TakeTurns (behind k (kept_event numbers b) (events_of p (kept_from keeps numbers place es)))

whole_next : (keeps : ℕ → Bool) (n place : ℕ) (x : Event) (es : List Event) → Whole keeps (calls_from n place (x ∷ es)) → (m : ℕ) × Whole keeps (calls_from m (suc place) es)
whole_next keeps n place x es w = elim (kind x) [ inl b ↦ (suc n, whole_begin keeps n place x es b w) | inr b ↦ (n, whole_end keeps n place x es b w) ]

-- an event of another process
other_step : (keeps : ℕ → Bool) (numbers : ℕ → ℕ) (p place : ℕ) (x : Event) (es : List Event) → More keeps numbers p (suc place) es → (process_of x == p) ≡ false → More keeps numbers p place (x ∷ es)
unfolding More
other_step keeps numbers p place x es more t n o b k s turns w =
    let v = whole_next keeps n place x es w in
    let r = more v.0 o b k (state_later keeps p place x es o b k t s) (subst (λ z. TakeTurns (behind o b z)) (of_other p x es t) turns) v.1 in
    subst (λ z. TakeTurns (behind k (kept_event numbers b) z)) (same (keeps place) refl) r
  where
    same : (q : Bool) → keeps place ≡ q → events_of p (kept_from keeps numbers (suc place) es) ≡ events_of p (kept_from keeps numbers place (x ∷ es))
    same true e = sym (ap (events_of p) (from_kept keeps numbers place x es e) ∙ of_other p (kept_event numbers x) (kept_from keeps numbers (suc place) es) (ap (λ z. z == p) (process_kept numbers x) ∙ t))
    same false e = sym (ap (events_of p) (from_left keeps numbers place x es e))

-- what is kept of the events of the process, by whether the first is
own_kept : (keeps : ℕ → Bool) (numbers : ℕ → ℕ) (p place : ℕ) (x : Event) (es : List Event) (q : Bool) → (process_of x == p) ≡ true → keeps place ≡ q →
    events_of p (kept_from keeps numbers place (x ∷ es)) ≡ behind q (kept_event numbers x) (events_of p (kept_from keeps numbers (suc place) es))
own_kept keeps numbers p place x es true t e = ap (events_of p) (from_kept keeps numbers place x es e) ∙ of_same p (kept_event numbers x) (kept_from keeps numbers (suc place) es) (ap (λ z. z == p) (process_kept numbers x) ∙ t)
own_kept keeps numbers p place x es false t e = ap (events_of p) (from_left keeps numbers place x es e)

own_step : (keeps : ℕ → Bool) (numbers : ℕ → ℕ) (p place : ℕ) (x : Event) (es : List Event) → More keeps numbers p (suc place) es → (process_of x == p) ≡ true → More keeps numbers p place (x ∷ es)
unfolding More
own_step keeps numbers p place x es more t n false b false (idle _) turns w =
    let u : TakeTurns (x ∷ events_of p es) = subst TakeTurns (of_same p x es t) turns in
    let i = first_begins x (events_of p es) u in
    let e : process_of x ≡ p = eqb-true _ _ t in
    let r = more (suc n) true x (keeps place) (opened x (keeps place) i (λ j g. whole_head keeps n place x es i w j (ap (λ z. next_place z (suc place) es) e ∙ g))) u (whole_begin keeps n place x es i w) in
    subst TakeTurns (sym (own_kept keeps numbers p place x es (keeps place) t refl)) r
own_step keeps numbers p place x es more t n false b true s turns w = elim s [ ]
own_step keeps numbers p place x es more t n true b true (opened _ _ i h) turns w =
    let u : TakeTurns (b ∷ x ∷ events_of p es) = subst (λ z. TakeTurns (b ∷ z)) (of_same p x es t) turns in
    let v = whole_next keeps n place x es w in
    let r = more v.0 false x false (idle x) u.1 v.1 in
    subst (λ z. TakeTurns (kept_event numbers b ∷ z)) (sym (own_kept keeps numbers p place x es true t (h place (next_same p place x es t)))) (ends_kept numbers b x u.0, r)
own_step keeps numbers p place x es more t n true b false (opened _ _ i h) turns w =
    let u : TakeTurns (b ∷ x ∷ events_of p es) = subst (λ z. TakeTurns (b ∷ z)) (of_same p x es t) turns in
    let v = whole_next keeps n place x es w in
    let r = more v.0 false x false (idle x) u.1 v.1 in
    subst TakeTurns (sym (own_kept keeps numbers p place x es false t (h place (next_same p place x es t)))) r

turns_kept : (keeps : ℕ → Bool) (numbers : ℕ → ℕ) (p place : ℕ) (es : List Event) → More keeps numbers p place es
unfolding More
turns_kept keeps numbers p place [] n false b false (idle _) turns w = tt
turns_kept keeps numbers p place [] n false b true s turns w = elim s [ ]
turns_kept keeps numbers p place [] n true b true (opened _ _ i h) turns w = begin_kept numbers b i
turns_kept keeps numbers p place [] n true b false (opened _ _ i h) turns w = tt
turns_kept keeps numbers p place (x ∷ es) n o b k s turns w = go (process_of x == p) refl (turns_kept keeps numbers p (suc place) es)
  where
    go : (q : Bool) → (process_of x == p) ≡ q → More keeps numbers p (suc place) es → TakeTurns (behind k (kept_event numbers b) (events_of p (kept_from keeps numbers place (x ∷ es))))
    go true t more = own_step keeps numbers p place x es more t n o b k s turns w
    go false t more = other_step keeps numbers p place x es more t n o b k s turns w

-- where an event that is kept stood

record Stood (keeps : ℕ → Bool) (numbers : ℕ → ℕ) (place : ℕ) (es before : List Event) (y : Event) : Type 0 where
  front : List Event
  event : Event
  rest : List Event
  split : es ≡ front ++ event ∷ rest
  kept : keeps (place + length front) ≡ true
  is : y ≡ kept_event numbers event
  before_is : before ≡ kept_from keeps numbers place front

stood : (keeps : ℕ → Bool) (numbers : ℕ → ℕ) (place : ℕ) (es before : List Event) (y : Event) (after : List Event) → kept_from keeps numbers place es ≡ before ++ y ∷ after → Stood keeps numbers place es before y
stood keeps numbers place [] [] y after e = absurd (cc)
stood keeps numbers place [] (z ∷ before) y after e = absurd (cc)
stood keeps numbers place (x ∷ es) before y after e = go before refl (keeps place) refl (λ b. stood keeps numbers (suc place) es b y after)
  where
    K : List Event
    K = kept_from keeps numbers (suc place) es

    step : {b : List Event} (s : Stood keeps numbers (suc place) es b y) → before ≡ kept_from keeps numbers place (x ∷ s.front) → Stood keeps numbers place (x ∷ es) before y
    step s f = record {
      front = x ∷ s.front;
      event = s.event;
      rest = s.rest;
      split = ap (λ z. x ∷ z) s.split;
      kept = (let g : place + suc (length s.front) ≡ suc place + length s.front = omega arith in ap keeps g ∙ s.kept);
      is = s.is;
      before_is = f;
    }

    go : (b : List Event) → before ≡ b → (k : Bool) → keeps place ≡ k → ((b : List Event) → K ≡ b ++ y ∷ after → Stood keeps numbers (suc place) es b y) → Stood keeps numbers place (x ∷ es) before y
    go [] u true k more =
        let g : kept_event numbers x ∷ K ≡ y ∷ after = sym (from_kept keeps numbers place x es k) ∙ e ∙ ap (λ z. z ++ y ∷ after) u in
        let h : kept_event numbers x ≡ y = cc in
        record {
          front = [];
          event = x;
          rest = es;
          split = refl;
          kept = (let z : place + zero ≡ place = omega arith in ap keeps z ∙ k);
          is = sym h;
          before_is = u;
        }
    go (c ∷ b) u true k more =
        let g : kept_event numbers x ∷ K ≡ c ∷ (b ++ y ∷ after) = sym (from_kept keeps numbers place x es k) ∙ e ∙ ap (λ z. z ++ y ∷ after) u in
        let h : K ≡ b ++ y ∷ after = cc in
        let v : kept_event numbers x ≡ c = cc in
        let s = more b h in
        step s (u ∙ ap (λ z. z ∷ b) (sym v) ∙ ap (λ z. kept_event numbers x ∷ z) s.before_is ∙ sym (from_kept keeps numbers place x s.front k))
    go b u false k more =
        let s = more before (sym (from_left keeps numbers place x es k) ∙ e) in
        step s (s.before_is ∙ sym (from_left keeps numbers place x s.front k))

-- the call that an update begins, of a list from its front
at_place : (n place : ℕ) (before : List Event) (x : Event) (after : List Event) → IsBegin x → (m : ℕ) × In (call_at m (place + length before) x after) (calls_from n place (before ++ x ∷ after))
at_place n place [] x after b = let g : place + zero ≡ place = omega arith in (n, subst (λ q. In (call_at n q x after) (calls_from n place (x ∷ after))) (sym g) (subst (In (call_at n place x after)) (sym (calls_begin n place x after b)) (inl refl)))
at_place n place (y ∷ before) x after b = elim (kind y) [
  | inl c ↦
      let r = at_place (suc n) (suc place) before x after b in
      let g : place + suc (length before) ≡ suc place + length before = omega arith in
      (r.0, subst (λ q. In (call_at r.0 q x after) (calls_from n place (y ∷ (before ++ x ∷ after)))) (sym g) (subst (In (call_at r.0 (suc place + length before) x after)) (sym (calls_begin n place y (before ++ x ∷ after) c)) (inr r.1)))
  | inr c ↦
      let r = at_place n (suc place) before x after b in
      let g : place + suc (length before) ≡ suc place + length before = omega arith in
      (r.0, subst (λ q. In (call_at r.0 q x after) (calls_from n place (y ∷ (before ++ x ∷ after)))) (sym g) (subst (In (call_at r.0 (suc place + length before) x after)) (sym (calls_end n place y (before ++ x ∷ after) c)) r.1))
]

-- an update that is kept has the number of its component
number_kept : (keeps : ℕ → Bool) (numbers : ℕ → ℕ) (es : List Event) → IsChoice keeps numbers (calls_of es) → (front : List Event) (p : ℕ) (e : Entry) (rest : List Event) → es ≡ front ++ BeginUpdate p e ∷ rest → keeps (0 + length front) ≡ true → e.number ≡ numbers e.component
unfolding calls_of
number_kept keeps numbers es h front p e rest split k =
    let r = at_place 0 0 front (BeginUpdate p e) rest tt in
    let c = call_at r.0 (0 + length front) (BeginUpdate p e) rest in
    h.one c e (record { there = Contains-from_In (calls_from 0 0 es) c (subst (λ z. In c (calls_from 0 0 z)) (sym split) r.1); writes = refl }) k

-- the update of which an update is left
record Origin (numbers : ℕ → ℕ) (p : ℕ) (e : Entry) (x : Event) : Type 0 where
  entry : Entry
  was : x ≡ BeginUpdate p entry
  is : e ≡ alone entry

origin : (numbers : ℕ → ℕ) (p : ℕ) (e : Entry) (x : Event) → BeginUpdate p e ≡ kept_event numbers x → Origin numbers p e x
origin numbers p e (BeginUpdate q d) h = let a : p ≡ q = cc in let b : e ≡ alone d = cc in record { entry = d; was = ap (λ z. BeginUpdate z d) (sym a); is = b }
origin numbers p e (BeginView q) h = absurd (cc)
origin numbers p e (EndUpdate q) h = absurd (cc)
origin numbers p e (EndView q s) h = absurd (cc)

update_is : (k : ℕ) (x : Event) → begins_update_of k x ≡ true → (p : ℕ) × (e : Entry) × (x ≡ BeginUpdate p e) × (e.component ≡ k)
update_is k (BeginUpdate p e) h = (p, e, refl, eqb-true _ _ h)
update_is k (BeginView p) h = absurd (false≢true h)
update_is k (EndUpdate p) h = absurd (false≢true h)
update_is k (EndView p s) h = absurd (false≢true h)

-- no other update of the component is kept before it
none_before : (keeps : ℕ → Bool) (numbers : ℕ → ℕ) (es : List Event) → IsNumbered es → IsChoice keeps numbers (calls_of es) → (before after : List Event) (p : ℕ) (e : Entry) → kept_from keeps numbers 0 es ≡ before ++ BeginUpdate p e ∷ after →
    (z : Event) → In z before → begins_update_of e.component z ≡ true → ⊥
none_before keeps numbers es num h before after p e split z i t =
    let s = stood keeps numbers 0 es before (BeginUpdate p e) after split in
    let a = around z before i in
    let u = stood keeps numbers 0 s.front a.before z a.after (sym s.before_is ∙ a.same) in
    let d = update_is e.component z t in
    let o = origin numbers p e s.event s.is in
    let q = origin numbers d.0 d.1 u.event (sym d.2 ∙ u.is) in
    let late : es ≡ s.front ++ BeginUpdate p o.entry ∷ s.rest = s.split ∙ ap (λ w. s.front ++ w ∷ s.rest) o.was in
    let inner : s.front ≡ u.front ++ BeginUpdate d.0 q.entry ∷ u.rest = u.split ∙ ap (λ w. u.front ++ w ∷ u.rest) q.was in
    let early : es ≡ u.front ++ BeginUpdate d.0 q.entry ∷ (u.rest ++ BeginUpdate p o.entry ∷ s.rest) = late ∙ ap (λ w. w ++ BeginUpdate p o.entry ∷ s.rest) inner ∙ append_assoc u.front (BeginUpdate d.0 q.entry ∷ u.rest) (BeginUpdate p o.entry ∷ s.rest) in
    let c : q.entry.component ≡ o.entry.component = ap (λ (w : Entry). w.component) (sym q.is) ∙ d.3 ∙ ap (λ (w : Entry). w.component) o.is in
    let m : o.entry.number ≡ numbers o.entry.component = number_kept keeps numbers es h s.front p o.entry s.rest late s.kept in
    let n : q.entry.number ≡ numbers q.entry.component = number_kept keeps numbers es h u.front d.0 q.entry (u.rest ++ BeginUpdate p o.entry ∷ s.rest) early u.kept in
    let alike : q.entry.number ≡ o.entry.number = n ∙ ap numbers c ∙ sym m in
    let x : o.entry.number ≡ suc (count_by (begins_update_of o.entry.component) s.front) = num s.front s.rest p o.entry late in
    let y : q.entry.number ≡ suc (count_by (begins_update_of o.entry.component) u.front) = num u.front (u.rest ++ BeginUpdate p o.entry ∷ s.rest) d.0 q.entry early ∙ ap (λ k. suc (count_by (begins_update_of k) u.front)) c in
    let l = count_inside o.entry.component u.front u.rest d.0 q.entry c in
    let g : count_by (begins_update_of o.entry.component) s.front ≡ count_by (begins_update_of o.entry.component) (u.front ++ BeginUpdate d.0 q.entry ∷ u.rest) = ap (count_by (begins_update_of o.entry.component)) inner in
    omega (arith, alike, x, y, l, g)

count_none : (k : ℕ) (xs : List Event) → ((z : Event) → In z xs → begins_update_of k z ≡ true → ⊥) → count_by (begins_update_of k) xs ≡ 0
count_none k [] h = refl
count_none k (x ∷ xs) h = go (begins_update_of k x) refl (count_none k xs (λ z i t. h z (inr i) t))
  where
    go : (b : Bool) → begins_update_of k x ≡ b → count_by (begins_update_of k) xs ≡ 0 → count_by (begins_update_of k) (x ∷ xs) ≡ 0
    go true t r = absurd (h x (inl refl) t)
    go false t r = let z : cond (begins_update_of k x) 1 0 ≡ 0 = ap {B = ℕ} (λ b. cond b 1 0) t in omega (arith, count-cons (begins_update_of k) x xs, z, r)

numbered_kept : (keeps : ℕ → Bool) (numbers : ℕ → ℕ) (es : List Event) → IsNumbered es → IsChoice keeps numbers (calls_of es) → IsNumbered (kept_from keeps numbers 0 es)
numbered_kept keeps numbers es num h before after p e split =
    let s = stood keeps numbers 0 es before (BeginUpdate p e) after split in
    let o = origin numbers p e s.event s.is in
    let one : e.number ≡ 1 = ap (λ (w : Entry). w.number) o.is in
    omega (arith, one, count_none e.component before (none_before keeps numbers es num h before after p e split))

-- of each component one update alone is kept
single_kept : (keeps : ℕ → Bool) (numbers : ℕ → ℕ) (es : List Event) → IsNumbered es → IsChoice keeps numbers (calls_of es) → IsSingleWriter (kept_from keeps numbers 0 es)
single_kept keeps numbers es num h p q d e i j same =
    let kept = kept_from keeps numbers 0 es in
    let a = around (BeginUpdate p d) kept (In-from_Contains kept (BeginUpdate p d) i) in
    let b = around (BeginUpdate q e) kept (In-from_Contains kept (BeginUpdate q e) j) in
    elim (compare_splits a.before (BeginUpdate p d) a.after b.before (BeginUpdate q e) b.after (sym a.same ∙ b.same)) [
      | alike r s t ↦ cc
      | first mid r s ↦ absurd (none_before keeps numbers es num h b.before b.after q e b.same (BeginUpdate p d) (subst (In (BeginUpdate p d)) (sym r) (In-append_right (BeginUpdate p d) a.before (BeginUpdate p d ∷ mid) (inl refl))) (eq-eqb _ _ same))
      | second mid r s ↦ absurd (none_before keeps numbers es num h a.before a.after p d a.same (BeginUpdate q e) (subst (In (BeginUpdate q e)) (sym r) (In-append_right (BeginUpdate q e) b.before (BeginUpdate q e ∷ mid) (inl refl))) (eq-eqb _ _ (sym same)))
    ]

whole_choice : (keeps : ℕ → Bool) (numbers : ℕ → ℕ) (es : List Event) → IsChoice keeps numbers (calls_of es) → Whole keeps (calls_of es)
whole_choice keeps numbers es h c j i e = h.whole c j (Contains-from_In (calls_of es) c i) e

pub ordered_choice_keeps_calls : OrderedChoiceKeepsCalls
unfolding calls_of More
ordered_choice_keeps_calls keeps numbers es h c = record {
  history = record {
    well_formed = λ p. turns_kept keeps numbers p 0 es 0 false (BeginView 0) false (idle (BeginView 0)) (h.well_formed p) w;
    single_writer = single_kept keeps numbers es h.numbered c;
    numbered = numbered_kept keeps numbers es h.numbered c;
  };
  each = λ a i k. (
      let r = kept_to keeps numbers 0 0 0 0 es refl w a (In-from_Contains (calls_from 0 0 es) a i) k in
      (r.number, Contains-from_In (calls_from 0 0 (kept_from keeps numbers 0 es)) (kept_call keeps numbers r.number a) r.there));
  only = λ d i. (
      let r = kept_back keeps numbers 0 0 0 0 es refl w d (In-from_Contains (calls_from 0 0 (kept_from keeps numbers 0 es)) d i) in
      (r.call, Contains-from_In (calls_from 0 0 es) r.call r.there, r.kept, r.is));
  precedence = λ a b m n i j k l. precedes_kept keeps numbers m n a b (λ q e. w a q (In-from_Contains (calls_from 0 0 es) a i) e ∙ k);
}
  where
    w : Whole keeps (calls_from 0 0 es)
    w = whole_choice keeps numbers es c

pub choice_keeps_calls : ChoiceKeepsCalls
choice_keeps_calls keeps numbers es h = ordered_choice_keeps_calls keeps numbers es (history_is_ordered es h)
