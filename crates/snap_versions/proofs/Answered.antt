-- The event at the end of a call tells its answer, whatever the events are.
use Rattle.std.proofs.Common.{◌≡◌, ◌<◌, ℕ, suc, Bool, true, false, cond, List, [], ◌∷◌, ◌++◌, append_assoc, length, map, get_or, slice_get, Some, refl, sym, ap, ◌∙◌, arith}
use Rattle.std.specs.Prelude.{◌==◌}
use Rattle.std.specs.Option.{option_and_then}
use Rattle.std.proofs.lemmas.List.{get_or_at, get_or-map, length-append}
use Rattle.std.proofs.lemmas.Option.{slice_get-get_or}
use Rattle.snap_core.specs.declared.event.Event.{Event}
use Rattle.snap_core.specs.declared.event.Event.TheVariants.{BeginUpdate, BeginView, EndUpdate, EndView}
use Rattle.snap_core.specs.Events.{process_of}
use Rattle.snap_core.specs.Calls.{Call, Updates, Views, answer_at, next_place, next_answer, calls_from, calls_of, call_numbered, nobody}
use Rattle.snap_core.proofs.Histories.{numbered_calls}
use Rattle.snap_index.specs.Answered.{answered_at}
use Rattle.snap_index.specs.IndexedCalls.{as_indexed}
use Rattle.snap_index.specs.declared.call.Call.{Call as IndexedCall}
use Rattle.snap_index.proofs.IndexedCalls.{count_is, indexed_read}
use Rattle.snap_versions.specs.inside.Listed.{call_told}

-- what is at the end of a front
there : (front : List Event) (e : Event) (es : List Event) → slice_get (front ++ e ∷ es) (length front) ≡ Some e
there front e es =
    slice_get-get_or (front ++ e ∷ es) (length front) e (omega (arith, length-append front (e ∷ es)))
    ∙ ap Some (get_or_at front e es e (length front) refl)

-- one more event stands in front
shifted : (front : List Event) (e : Event) → length (front ++ e ∷ []) ≡ suc (length front)
shifted front e = omega (arith, length-append front (e ∷ []))

next_behind : (p : ℕ) (front : List Event) (e : Event) (es : List Event) → answered_at ((front ++ e ∷ []) ++ es) (next_place p (length (front ++ e ∷ [])) es) ≡ next_answer p es →
    answered_at (front ++ e ∷ es) (next_place p (suc (length front)) es) ≡ next_answer p es
next_behind p front e es h =
    ap (λ z. answered_at z (next_place p (suc (length front)) es)) (sym (append_assoc front (e ∷ []) es))
    ∙ ap (λ n. answered_at ((front ++ e ∷ []) ++ es) (next_place p n es)) (sym (shifted front e))
    ∙ h

next_here : (p : ℕ) (front : List Event) (e : Event) (es : List Event) → answered_at (front ++ e ∷ es) (next_place p (suc (length front)) es) ≡ next_answer p es → (b : Bool) →
    answered_at (front ++ e ∷ es) (cond b (Some (length front)) (next_place p (suc (length front)) es)) ≡ cond b (answer_at e) (next_answer p es)
next_here p front e es h true = ap (option_and_then answer_at) (there front e es)
next_here p front e es h false = h

-- the answer of the next event of a process is that of the event at its next place
next_told : (p : ℕ) (front es : List Event) → answered_at (front ++ es) (next_place p (length front) es) ≡ next_answer p es
next_told p front [] = refl
next_told p front (e ∷ es) = next_here p front e es (next_behind p front e es (next_told p (front ++ e ∷ []) es)) (process_of e == p)

-- a call as its events tell it
abbrev told : List Event → Call → Call
told events c = call_told events c.number (as_indexed c)

abbrev AreTold : List Event → List Call → Type 0
AreTold events calls = map (told events) calls ≡ calls

told_behind : (m : ℕ) (front : List Event) (e : Event) (es : List Event) → AreTold ((front ++ e ∷ []) ++ es) (calls_from m (length (front ++ e ∷ [])) es) → AreTold (front ++ e ∷ es) (calls_from m (suc (length front)) es)
told_behind m front e es h =
    ap (λ z. map (told z) (calls_from m (suc (length front)) es)) (sym (append_assoc front (e ∷ []) es))
    ∙ ap (λ k. map (told ((front ++ e ∷ []) ++ es)) (calls_from m k es)) (sym (shifted front e))
    ∙ h
    ∙ ap (λ k. calls_from m k es) (shifted front e)

told_from : (n : ℕ) (front es : List Event) → AreTold (front ++ es) (calls_from n (length front) es)
told_from n front [] = refl
told_from n front (BeginUpdate p d ∷ es) =
    ap (λ z. record { number = n; process = p; operation = Updates d; begun = length front; ended = next_place p (suc (length front)) es } ∷ z)
    (told_behind (suc n) front (BeginUpdate p d) es (told_from (suc n) (front ++ BeginUpdate p d ∷ []) es))
told_from n front (BeginView p ∷ es) =
    ap (λ z. record { number = n; process = p; operation = Views z; begun = length front; ended = next_place p (suc (length front)) es } ∷ map (told (front ++ BeginView p ∷ es)) (calls_from (suc n) (suc (length front)) es))
    (next_behind p front (BeginView p) es (next_told p (front ++ BeginView p ∷ []) es))
    ∙ ap (λ z. record { number = n; process = p; operation = Views (next_answer p es); begun = length front; ended = next_place p (suc (length front)) es } ∷ z)
    (told_behind (suc n) front (BeginView p) es (told_from (suc n) (front ++ BeginView p ∷ []) es))
told_from n front (EndUpdate p ∷ es) = told_behind n front (EndUpdate p) es (told_from n (front ++ EndUpdate p ∷ []) es)
told_from n front (EndView p s ∷ es) = told_behind n front (EndView p s) es (told_from n (front ++ EndView p s ∷ []) es)

all_told : (es : List Event) → AreTold es (calls_of es)
unfolding calls_of
all_told es = told_from 0 [] es

-- a call that was listed without its answer is told by the events
pub told_there : (es : List Event) (calls : List IndexedCall) (j : ℕ) (d : IndexedCall) → calls ≡ map as_indexed (calls_of es) → j < length calls → call_told es j (get_or calls j d) ≡ get_or (calls_of es) j nobody
told_there es calls j d is l =
    let within : j < length (calls_of es) = omega (arith, l, count_is es calls is) in
    ap (call_told es j) (indexed_read es calls j d is l)
    ∙ ap (λ n. call_told es n (as_indexed (call_numbered (calls_of es) j))) (sym (numbered_calls es j nobody within))
    ∙ sym (get_or-map (told es) (calls_of es) j nobody nobody within)
    ∙ ap (λ z. get_or z j nobody) (all_told es)
