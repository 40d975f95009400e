-- The same events make the same calls, processes aside.
use Rattle.std.proofs.Common.{◌≡◌, ℕ, suc, ◌≤◌, Bool, true, false, cond, List, [], ◌∷◌, map, Option, Some, refl, sym, ap, ◌∙◌, arith}
use Rattle.std.specs.Prelude.{◌==◌}
use Rattle.snap_core.specs.declared.event.Event.{Event}
use Rattle.snap_core.specs.declared.event.Event.TheVariants.{BeginUpdate, BeginView, EndUpdate, EndView}
use Rattle.snap_core.specs.Events.{process_of}
use Rattle.snap_core.specs.Calls.{Call, Operation, Updates, Views, next_place, next_answer, answer_at, calls_from, calls_of}
use Rattle.snap_theory.specs.Processes.{anyones_event, AreSameCalls, SameEventsMakeSameCalls}

next_later : (p place : ℕ) (es : List Event) (n : ℕ) → next_place p place es ≡ Some n → place ≤ n
next_later p place [] n h = absurd (cc)
next_later p place (e ∷ es) n h = go (process_of e == p) h (next_later p (suc place) es n)
  where
    go : (b : Bool) → cond b (Some place) (next_place p (suc place) es) ≡ Some n → (next_place p (suc place) es ≡ Some n → suc place ≤ n) → place ≤ n
    go true s rest = let same : place ≡ n = cc in omega (arith, same)
    go false s rest = omega (arith, rest s)

-- what an event answers has nothing to do with its process
anyones_answer : (e : Event) → answer_at (anyones_event e) ≡ answer_at e
anyones_answer (BeginUpdate p d) = refl
anyones_answer (BeginView p) = refl
anyones_answer (EndUpdate p) = refl
anyones_answer (EndView p s) = refl

same_answer : (p q place : ℕ) (es os : List Event) → map anyones_event es ≡ map anyones_event os → next_place p place es ≡ next_place q place os → next_answer p es ≡ next_answer q os
same_answer p q place [] [] h n = refl
same_answer p q place [] (o ∷ os) h n = absurd (cc)
same_answer p q place (e ∷ es) [] h n = absurd (cc)
same_answer p q place (e ∷ es) (o ∷ os) h n = go (process_of e == p) (process_of o == q) n (same_answer p q (suc place) es os (cc))
  where
    head : anyones_event e ≡ anyones_event o
    head = cc

    go : (a b : Bool) → cond a (Some place) (next_place p (suc place) es) ≡ cond b (Some place) (next_place q (suc place) os)
        → (next_place p (suc place) es ≡ next_place q (suc place) os → next_answer p es ≡ next_answer q os)
        → cond a (answer_at e) (next_answer p es) ≡ cond b (answer_at o) (next_answer q os)
    go true true m rest = sym (anyones_answer e) ∙ ap answer_at head ∙ anyones_answer o
    go true false m rest = absurd (omega (arith, next_later q (suc place) os place (sym m)))
    go false true m rest = absurd (omega (arith, next_later p (suc place) es place m))
    go false false m rest = rest m

abbrev bare : ℕ → ℕ → Operation → Option ℕ → Call
bare number place operation ended = record { number = number; process = 0; operation = operation; begun = place; ended = ended }

joined : (number place : ℕ) (a b : Operation) (m n : Option ℕ) (xs ys : List Call) → a ≡ b → m ≡ n → xs ≡ ys → bare number place a m ∷ xs ≡ bare number place b n ∷ ys
joined number place a b m n xs ys e f g = ap (λ z. bare number place z m ∷ xs) e ∙ ap (λ z. bare number place b z ∷ xs) f ∙ ap (λ z. bare number place b n ∷ z) g

abbrev ends : List Call → List (Option ℕ)
ends calls = map (λ c. c.ended) calls

same_calls : (n place : ℕ) (es os : List Event) → map anyones_event es ≡ map anyones_event os → ends (calls_from n place es) ≡ ends (calls_from n place os) → AreSameCalls (calls_from n place es) (calls_from n place os)
same_calls n place [] [] h s = refl
same_calls n place [] (o ∷ os) h s = absurd (cc)
same_calls n place (e ∷ es) [] h s = absurd (cc)
same_calls n place (BeginUpdate p d ∷ es) (BeginUpdate q c ∷ os) h s =
    let entry : d ≡ c = cc in
    joined n place (Updates d) (Updates c) _ _ _ _ (ap Updates entry) (cc) (same_calls (suc n) (suc place) es os (cc) (cc))
same_calls n place (BeginView p ∷ es) (BeginView q ∷ os) h s =
    let end : next_place p (suc place) es ≡ next_place q (suc place) os = cc in
    joined n place _ _ _ _ _ _ (ap Views (same_answer p q (suc place) es os (cc) end)) end (same_calls (suc n) (suc place) es os (cc) (cc))
same_calls n place (EndUpdate p ∷ es) (EndUpdate q ∷ os) h s = same_calls n (suc place) es os (cc) s
same_calls n place (EndView p x ∷ es) (EndView q y ∷ os) h s = same_calls n (suc place) es os (cc) s
same_calls n place (BeginUpdate p d ∷ es) (BeginView q ∷ os) h s = absurd (cc)
same_calls n place (BeginUpdate p d ∷ es) (EndUpdate q ∷ os) h s = absurd (cc)
same_calls n place (BeginUpdate p d ∷ es) (EndView q y ∷ os) h s = absurd (cc)
same_calls n place (BeginView p ∷ es) (BeginUpdate q c ∷ os) h s = absurd (cc)
same_calls n place (BeginView p ∷ es) (EndUpdate q ∷ os) h s = absurd (cc)
same_calls n place (BeginView p ∷ es) (EndView q y ∷ os) h s = absurd (cc)
same_calls n place (EndUpdate p ∷ es) (BeginUpdate q c ∷ os) h s = absurd (cc)
same_calls n place (EndUpdate p ∷ es) (BeginView q ∷ os) h s = absurd (cc)
same_calls n place (EndUpdate p ∷ es) (EndView q y ∷ os) h s = absurd (cc)
same_calls n place (EndView p x ∷ es) (BeginUpdate q c ∷ os) h s = absurd (cc)
same_calls n place (EndView p x ∷ es) (BeginView q ∷ os) h s = absurd (cc)
same_calls n place (EndView p x ∷ es) (EndUpdate q ∷ os) h s = absurd (cc)

pub same_events_make_same_calls : SameEventsMakeSameCalls
unfolding calls_of
same_events_make_same_calls events others s = same_calls 0 0 events others s.each s.ends
