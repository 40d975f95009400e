-- The events that end calls.
use Rattle.std.proofs.Common.{◌≡◌, ◌≢◌, ℕ, suc, ◌+◌, ◌<◌, true, List, [], ◌∷◌, ◌++◌, append_assoc, length, Option, Some, None, refl, sym, ap, ◌∙◌, subst, arith, get_or}
use Rattle.std.specs.Prelude.{⊤, slice_get}
use Rattle.std.specs.List.{Contains}
use Rattle.std.proofs.lemmas.Bool.{false≢true}
use Rattle.std.proofs.lemmas.List.{length-append, get_or_at}
use Rattle.std.proofs.lemmas.Option.{slice_get-get_or}
use Rattle.snap_core.specs.Events.{Event, BeginUpdate, BeginView, EndUpdate, EndView, process_of, IsBegin, Ends, events_of, IsWellFormed}
use Rattle.snap_core.specs.Calls.{Call, Operation, Updates, Views, next_place, next_answer, answer_at, calls_from, calls_of, is_view, is_answer}
use Rattle.snap_core.specs.Regular.{IsViewOf}
use Rattle.snap_core.proofs.Lists.{In-from_Contains}
use Rattle.snap_core.proofs.Facts.{Ended}
use Rattle.snap_core.proofs.Begun.{not_end, Next, nothing, found, next, ends_it, operation_at, Begun, begun}

pub begun_of : (es : List Event) (c : Call) → Contains (calls_of es) c → Begun 0 0 es c
unfolding calls_of
begun_of es c i = begun 0 0 es c (In-from_Contains (calls_from 0 0 es) c i)

-- the end of a call, and the event that ends it
record EndAt (p place : ℕ) (after : List Event) (end : ℕ) : Type 0 where
  mid : List Event
  event : Event
  rest : List Event
  split : after ≡ mid ++ event ∷ rest
  process : process_of event ≡ p
  none : events_of p mid ≡ []
  at_end : end ≡ place + length mid
  answer : next_answer p after ≡ answer_at event

end_at : (p place : ℕ) (after : List Event) (end : ℕ) → next_place p place after ≡ Some end → EndAt p place after end
end_at p place after end h = go (next p place after)
  where
    go : Next p place after → EndAt p place after end
    go (nothing a b c) = absurd (let g : None ≡ Some end = sym a ∙ h in cc)
    go (found mid x rest s q z a c) =
        let g : Some (place + length mid) ≡ Some end = sym a ∙ h in
        let e : place + length mid ≡ end = cc in
        record { mid = mid; event = x; rest = rest; split = s; process = q; none = z; at_end = sym e; answer = c }

ended_at : (es : List Event) (c : Call) (end : ℕ) → (b : Begun 0 0 es c) → c.ended ≡ Some end → EndAt (process_of b.event) (suc c.begun) b.after end
ended_at es c end b h = end_at (process_of b.event) (suc c.begun) b.after end (sym (ap (λ (z : Call). z.ended) b.is) ∙ h)

pub rises_part : (es : List Event) (a : Call) (end : ℕ) → Contains (calls_of es) a → a.ended ≡ Some end → a.begun < end
rises_part es a end i h = let x = ended_at es a end (begun_of es a i) h in omega (arith, x.at_end)

-- the event that ends a call is no begin
end_is : (es : List Event) → IsWellFormed es → (c : Call) (end : ℕ) → (b : Begun 0 0 es c) → (x : EndAt (process_of b.event) (suc c.begun) b.after end) → Ends b.event x.event
end_is es h c end b x = ends_it es h b.before x.mid x.rest b.event x.event (b.split ∙ ap (λ z. b.before ++ b.event ∷ z) x.split) b.opens x.process x.none

-- an event that ends a call, at its place in the list
pub record EndEvent (es : List Event) (place : ℕ) : Type 0 where
  pub front : List Event
  pub event : Event
  pub rest : List Event
  pub split : es ≡ front ++ event ∷ rest
  pub size : length front ≡ place
  pub no_begin : IsBegin event → ⊥

end_split : (es : List Event) (c : Call) (place : ℕ) (b : Begun 0 0 es c) (x : EndAt (process_of b.event) (suc c.begun) b.after place) → es ≡ (b.before ++ b.event ∷ x.mid) ++ x.event ∷ x.rest
end_split es c place b x = b.split ∙ ap (λ w. b.before ++ b.event ∷ w) x.split ∙ sym (append_assoc b.before (b.event ∷ x.mid) (x.event ∷ x.rest))

end_size : (es : List Event) (c : Call) (place : ℕ) (b : Begun 0 0 es c) (x : EndAt (process_of b.event) (suc c.begun) b.after place) → length (b.before ++ b.event ∷ x.mid) ≡ place
end_size es c place b x = omega (arith, length-append b.before (b.event ∷ x.mid), b.at_place, x.at_end)

pub end_event : (es : List Event) → IsWellFormed es → (c : Call) (place : ℕ) → Contains (calls_of es) c → c.ended ≡ Some place → EndEvent es place
end_event es h c place i e =
    let b = begun_of es c i in
    let x = ended_at es c place b e in
    record { front = b.before ++ b.event ∷ x.mid; event = x.event; rest = x.rest; split = end_split es c place b x; size = end_size es c place b x; no_begin = not_end b.event x.event (end_is es h c place b x) }

-- the only event at a place
event_at : (es front rest : List Event) (x d : Event) (place : ℕ) → es ≡ front ++ x ∷ rest → length front ≡ place → get_or es place d ≡ x
event_at es front rest x d place s l = ap (λ v. get_or v place d) s ∙ get_or_at front x rest d place l

there_at : (es front rest : List Event) (x : Event) (place : ℕ) → es ≡ front ++ x ∷ rest → length front ≡ place → slice_get es place ≡ Some x
there_at es front rest x place s l =
    let within : place < length es = omega (arith, ap length s ∙ length-append front (x ∷ rest), l) in
    slice_get-get_or es place x within ∙ ap Some (event_at es front rest x x place s l)

pub there_ends : (es : List Event) (place : ℕ) (z : EndEvent es place) → slice_get es place ≡ Some z.event
there_ends es place z = there_at es z.front z.rest z.event place z.split z.size

pub apart_part : (es : List Event) → IsWellFormed es → (a b : Call) (place : ℕ) → Contains (calls_of es) a → Contains (calls_of es) b → a.ended ≡ Some place → b.begun ≢ place
apart_part es h a b place i j ended eq =
    let z = end_event es h a place i ended in
    let y = begun_of es b j in
    let same : z.event ≡ y.event = sym (event_at es z.front z.rest z.event z.event place z.split z.size) ∙ event_at es y.before y.after y.event z.event place y.split (omega (arith, y.at_place, eq)) in
    z.no_begin (subst IsBegin (sym same) y.opens)

pub unanswered_part : (es : List Event) → IsWellFormed es → (c : Call) → Contains (calls_of es) c → c.operation ≡ Views None → c.ended ≡ None
unanswered_part es h c i w = go c.ended refl
  where
    b : Begun 0 0 es c
    b = begun_of es c i

    silent : operation_at b.event b.after ≡ Views None
    silent = sym (ap (λ (z : Call). z.operation) b.is) ∙ w

    at : (x y : Event) (after : List Event) → Ends x y → operation_at x after ≡ Views None → next_answer (process_of x) after ≡ answer_at y → ⊥
    at (BeginUpdate p e) y after t o n = cc
    at (BeginView p) (BeginUpdate q e) after t o n = t
    at (BeginView p) (BeginView q) after t o n = t
    at (BeginView p) (EndUpdate q) after t o n = t
    at (BeginView p) (EndView q s) after t o n = let g : Views (Some s) ≡ Views None = sym (ap Views n) ∙ o in cc
    at (EndUpdate p) y after t o n = t
    at (EndView p s) y after t o n = t

    go : (o : Option ℕ) → c.ended ≡ o → c.ended ≡ None
    go None e = e
    go (Some end) e = let x = ended_at es c end b e in absurd (at b.event x.event b.after (end_is es h c end b x) silent x.answer)

pub answered_part : (es : List Event) (r : Call) → IsViewOf (calls_of es) r → Ended r
unfolding is_view
answered_part es r v = at b.event refl
  where
    b : Begun 0 0 es r
    b = begun_of es r v.there

    answer : is_answer (operation_at b.event b.after) ≡ true
    answer = sym (ap (λ (z : Call). is_answer z.operation) b.is) ∙ v.completed

    at : (x : Event) → b.event ≡ x → Ended r
    at (BeginUpdate p e) s = absurd (false≢true (sym (ap (λ z. is_answer (operation_at z b.after)) s) ∙ answer))
    at (EndUpdate p) s = absurd (false≢true (sym (ap (λ z. is_answer (operation_at z b.after)) s) ∙ answer))
    at (EndView p q) s = absurd (false≢true (sym (ap (λ z. is_answer (operation_at z b.after)) s) ∙ answer))
    at (BeginView p) s = go (next p (suc r.begun) b.after)
      where
        asked : is_answer (Views (next_answer p b.after)) ≡ true
        asked = sym (ap (λ z. is_answer (operation_at z b.after)) s) ∙ answer

        ended : r.ended ≡ next_place p (suc r.begun) b.after
        ended = ap (λ (z : Call). z.ended) b.is ∙ ap (λ z. next_place (process_of z) (suc r.begun) b.after) s

        go : Next p (suc r.begun) b.after → Ended r
        go (nothing x y z) = absurd (false≢true (sym (ap (λ w. is_answer (Views w)) z) ∙ asked))
        go (found mid x rest u q z w a) = record { place = suc r.begun + length mid; ends = ended ∙ w }

-- an event ends what a call does: of a view it has what the view shows
abbrev pub IsEndOf : Operation → Event → Type 0
IsEndOf (Updates d) (EndUpdate q) = ⊤
IsEndOf (Views answer) (EndView q s) = answer ≡ Some s
IsEndOf _ _ = ⊥

-- the event that ends a call
pub record CallEnd (es : List Event) (c : Call) (place : ℕ) : Type 0 where
  pub event : Event
  pub there : slice_get es place ≡ Some event
  pub ends : IsEndOf c.operation event

pub call_end : (es : List Event) → IsWellFormed es → (c : Call) (place : ℕ) → Contains (calls_of es) c → c.ended ≡ Some place → CallEnd es c place
call_end es h c place i e = record {
  event = x.event;
  there = there_at es (b.before ++ b.event ∷ x.mid) x.rest x.event place (end_split es c place b x) (end_size es c place b x);
  ends = subst (λ o. IsEndOf o x.event) (sym (ap (λ (z : Call). z.operation) b.is)) (at b.event x.event b.opens (end_is es h c place b x) x.answer);
}
  where
    b : Begun 0 0 es c
    b = begun_of es c i

    x : EndAt (process_of b.event) (suc c.begun) b.after place
    x = ended_at es c place b e

    at : (y z : Event) → IsBegin y → Ends y z → next_answer (process_of y) b.after ≡ answer_at z → IsEndOf (operation_at y b.after) z
    at (BeginUpdate p d) (BeginUpdate q f) o t n = t
    at (BeginUpdate p d) (BeginView q) o t n = t
    at (BeginUpdate p d) (EndUpdate q) o t n = tt
    at (BeginUpdate p d) (EndView q s) o t n = absurd t
    at (BeginView p) (BeginUpdate q f) o t n = t
    at (BeginView p) (BeginView q) o t n = t
    at (BeginView p) (EndUpdate q) o t n = t
    at (BeginView p) (EndView q s) o t n = n
    at (EndUpdate p) z o t n = absurd o
    at (EndView p s) z o t n = absurd o
