-- What a call answered, by the event that ends it.
use Rattle.std.proofs.Common.{◌≡◌, ℕ, true, List, slice_get, Option, Some, None, refl, sym, ap, ◌∙◌}
use Rattle.std.specs.Prelude.{is_some}
use Rattle.std.specs.List.{Contains}
use Rattle.std.specs.Option.{option_map, option_and_then}
use Rattle.snap_core.specs.declared.entry.Entry.{Entry}
use Rattle.snap_core.specs.declared.event.Event.{Event}
use Rattle.snap_core.specs.declared.event.Event.TheVariants.{BeginUpdate, BeginView, EndUpdate, EndView}
use Rattle.snap_core.specs.Ordered.{IsOrdered}
use Rattle.snap_core.specs.Calls.{Operation, Updates, Views, calls_of, is_view, is_answer, answer_at, entries_of, Call as SpecCall}
use Rattle.snap_core.proofs.Lists.{Contains-from_In}
use Rattle.snap_core.proofs.Ends.{IsEndOf, call_end, answered_part}
use Rattle.snap_index.specs.declared.call.Call.{Call}
use Rattle.snap_index.specs.IndexedCalls.{as_indexed, answered_by, answer_of}
use Rattle.snap_index.specs.Answered.{answered_at}
use Rattle.snap_index.proofs.IndexedCalls.{mapped_some}
use Rattle.snap_core.proofs.Members.{In-slice_get}

answer_of_end : (o : Operation) (x : Event) → IsEndOf o x → answered_by o ≡ answer_at x
answer_of_end (Updates d) (BeginUpdate p e) t = absurd t
answer_of_end (Updates d) (BeginView p) t = absurd t
answer_of_end (Updates d) (EndUpdate p) t = refl
answer_of_end (Updates d) (EndView p s) t = absurd t
answer_of_end (Views a) (BeginUpdate p e) t = absurd t
answer_of_end (Views a) (BeginView p) t = absurd t
answer_of_end (Views a) (EndUpdate p) t = absurd t
answer_of_end (Views a) (EndView p s) t = t

not_ended : (es : List Event) (c : SpecCall) → Contains (calls_of es) c → c.ended ≡ None → answer_of c ≡ None
unfolding is_view
not_ended es c i e = go c.operation refl
  where
    go : (o : Operation) → c.operation ≡ o → answered_by c.operation ≡ None
    go (Updates d) w = ap answered_by w
    go (Views None) w = ap answered_by w
    go (Views (Some s)) w = absurd (let x = answered_part es c (record { there = i; completed = ap is_answer w }) in let g : None ≡ Some x.place = sym e ∙ x.ends in cc)

-- what the event at the end of a call answers
pub ended_answer : (es : List Event) (c : SpecCall) (x : Call) → IsOrdered es → Contains (calls_of es) c → x ≡ as_indexed c → answered_at es x.ended ≡ answer_of c
ended_answer es c x h i is = ap (λ (z : Call). answered_at es z.ended) is ∙ go c.ended refl
  where
    go : (e : Option ℕ) → c.ended ≡ e → answered_at es e ≡ answer_of c
    go (Some end) e =
        let y = call_end es h.well_formed c end i e in
        ap (option_and_then answer_at) y.there ∙ sym (answer_of_end c.operation y.event y.ends)
    go None e = sym (not_ended es c i e)

-- a completed view is a call with an answer
pub view_by_answer : (o : Operation) → is_answer o ≡ is_some (answered_by o)
view_by_answer (Updates d) = refl
view_by_answer (Views a) = refl

pub entries_by_answer : (o : Operation) (s : List Entry) → answered_by o ≡ Some s → entries_of o ≡ s
entries_by_answer (Updates d) s h = absurd (cc)
entries_by_answer (Views a) s h = ap (λ z. entries_of (Views z)) h

call_there : (es : List Event) (c : ℕ) (r : SpecCall) → slice_get (calls_of es) c ≡ Some r → Contains (calls_of es) r
call_there es c r h = Contains-from_In (calls_of es) r (In-slice_get (calls_of es) c r h)

-- the answer of the call at a number, by what the index says of it
pub call_answer : (es : List Event) → IsOrdered es → (c : ℕ) (x : Call) → option_map as_indexed (slice_get (calls_of es) c) ≡ Some x → answered_at es x.ended ≡ option_and_then answer_of (slice_get (calls_of es) c)
call_answer es h c x e =
    let m = mapped_some as_indexed (slice_get (calls_of es) c) x e in
    ended_answer es m.from x h (call_there es c m.from m.is) (sym m.to) ∙ sym (ap (option_and_then answer_of) m.is)

pub no_answer : (x : Event) → ((p : ℕ) (s : List Entry) → x ≡ EndView p s → ⊥) → answer_at x ≡ None
no_answer (BeginUpdate p e) n = refl
no_answer (BeginView p) n = refl
no_answer (EndUpdate p) n = refl
no_answer (EndView p s) n = absurd (n p s refl)

-- what a completed view shows is its answer
pub shown_by : (o : Operation) → is_answer o ≡ true → answered_by o ≡ Some (entries_of o)
shown_by (Updates e) t = absurd (cc)
shown_by (Views None) t = absurd (cc)
shown_by (Views (Some s)) t = refl
