-- The calls of two lists of events, where the first leaves no call open.
use Rattle.std.proofs.Common.{◌≡◌, ℕ, suc, ◌+◌, ◌<◌, ◌≤◌, Bool, true, false, cond, List, [], ◌∷◌, ◌++◌, length, Option, Some, None, refl, sym, ap, ◌∙◌, subst, inl, inr, arith, length-append}
use Rattle.std.specs.Prelude.{◌==◌, is_some}
use Rattle.std.proofs.lemmas.Bool.{false≢true}
use Rattle.std.proofs.lemmas.List.Elements.{All-contains}
use Rattle.snap_core.specs.declared.event.Event.{Event}
use Rattle.snap_core.specs.declared.event.Event.TheVariants.{BeginUpdate, BeginView, EndUpdate, EndView}
use Rattle.snap_core.specs.Events.{process_of}
use Rattle.snap_core.specs.Ordered.{IsOrdered}
use Rattle.snap_core.specs.Calls.{Call, Operation, Views, next_place, next_answer, answer_at, calls_from, calls_of, precedes}
use Rattle.snap_core.specs.Orders.{is_completed}
use Rattle.snap_core.proofs.Lists.{In, Contains-from_In}
use Rattle.snap_core.proofs.Facts.{Ended, precedes_from}
use Rattle.snap_core.proofs.Begun.{Next, nothing, found, next, begins, operation_at, call_at, Begun, begun}
use Rattle.snap_core.proofs.Ordered.{AreOrderedCalls, are_ordered_calls}
use Rattle.snap_theory.specs.Windows.{IsQuiet}
use Rattle.snap_theory.proofs.Cuts.{IsCut}

pub ended : (c : Call) → is_completed c ≡ true → Ended c
unfolding is_completed
ended c h = go c.ended refl h
  where
    go : (o : Option ℕ) → c.ended ≡ o → is_some o ≡ true → Ended c
    go None e t = absurd (false≢true t)
    go (Some place) e t = record { place = place; ends = e }

-- what comes later does not change where a call ends, nor what it answers
next_place-append : (p place : ℕ) (xs ys : List Event) (n : ℕ) → next_place p place xs ≡ Some n → next_place p place (xs ++ ys) ≡ Some n
next_place-append p place [] ys n h = absurd (let g : None ≡ Some n = h in cc)
next_place-append p place (x ∷ xs) ys n h = go (process_of x == p) h (next_place-append p (suc place) xs ys n)
  where
    go : (b : Bool) → cond b (Some place) (next_place p (suc place) xs) ≡ Some n → (next_place p (suc place) xs ≡ Some n → next_place p (suc place) (xs ++ ys) ≡ Some n) → cond b (Some place) (next_place p (suc place) (xs ++ ys)) ≡ Some n
    go true g rest = g
    go false g rest = rest g

next_answer-append : (p place : ℕ) (xs ys : List Event) (n : ℕ) → next_place p place xs ≡ Some n → next_answer p (xs ++ ys) ≡ next_answer p xs
next_answer-append p place [] ys n h = absurd (let g : None ≡ Some n = h in cc)
next_answer-append p place (x ∷ xs) ys n h = go (process_of x == p) h (next_answer-append p (suc place) xs ys n)
  where
    go : (b : Bool) → cond b (Some place) (next_place p (suc place) xs) ≡ Some n → (next_place p (suc place) xs ≡ Some n → next_answer p (xs ++ ys) ≡ next_answer p xs) → cond b (answer_at x) (next_answer p (xs ++ ys)) ≡ cond b (answer_at x) (next_answer p xs)
    go true g rest = refl
    go false g rest = rest g

operation_same : (x : Event) (place : ℕ) (xs ys : List Event) (n : ℕ) → next_place (process_of x) place xs ≡ Some n → operation_at x (xs ++ ys) ≡ operation_at x xs
operation_same (BeginUpdate p e) place xs ys n h = refl
operation_same (BeginView p) place xs ys n h = ap Views (next_answer-append p place xs ys n h)
operation_same (EndUpdate p) place xs ys n h = refl
operation_same (EndView p s) place xs ys n h = refl

abbrev made : ℕ → ℕ → Event → Operation → Option ℕ → Call
made number place x operation end = record { number = number; process = process_of x; operation = operation; begun = place; ended = end }

call_same : (n place : ℕ) (x : Event) (xs ys : List Event) → is_completed (call_at n place x xs) ≡ true → call_at n place x (xs ++ ys) ≡ call_at n place x xs
call_same n place x xs ys h =
    let e = ended (call_at n place x xs) h in
    ap (λ z. made n place x z (next_place (process_of x) (suc place) (xs ++ ys))) (operation_same x (suc place) xs ys e.place e.ends)
    ∙ ap (λ z. made n place x (operation_at x xs) z) (next_place-append (process_of x) (suc place) xs ys e.place e.ends ∙ sym e.ends)

pub calls_from_same : (n m p q : ℕ) (es : List Event) → n ≡ m → p ≡ q → calls_from n p es ≡ calls_from m q es
calls_from_same n m p q es a b = ap (λ z. calls_from z p es) a ∙ ap (λ z. calls_from m z es) b

calls_from-append : (n place : ℕ) (xs ys : List Event) → ((c : Call) → In c (calls_from n place xs) → is_completed c ≡ true) → calls_from n place (xs ++ ys) ≡ calls_from n place xs ++ calls_from (n + begins xs) (place + length xs) ys
calls_from-append n place [] ys h = calls_from_same n (n + 0) place (place + 0) ys (omega arith) (omega arith)
calls_from-append n place (BeginUpdate p e ∷ xs) ys h =
    ap (λ z. z ∷ calls_from (suc n) (suc place) (xs ++ ys)) (call_same n place (BeginUpdate p e) xs ys (h _ (inl refl)))
    ∙ ap (λ z. call_at n place (BeginUpdate p e) xs ∷ z) (calls_from-append (suc n) (suc place) xs ys (λ c i. h c (inr i))
    ∙ ap (λ z. calls_from (suc n) (suc place) xs ++ z) (calls_from_same (suc n + begins xs) (n + (1 + begins xs)) (suc place + length xs) (place + suc (length xs)) ys (omega arith) (omega arith)))
calls_from-append n place (BeginView p ∷ xs) ys h =
    ap (λ z. z ∷ calls_from (suc n) (suc place) (xs ++ ys)) (call_same n place (BeginView p) xs ys (h _ (inl refl)))
    ∙ ap (λ z. call_at n place (BeginView p) xs ∷ z) (calls_from-append (suc n) (suc place) xs ys (λ c i. h c (inr i))
    ∙ ap (λ z. calls_from (suc n) (suc place) xs ++ z) (calls_from_same (suc n + begins xs) (n + (1 + begins xs)) (suc place + length xs) (place + suc (length xs)) ys (omega arith) (omega arith)))
calls_from-append n place (EndUpdate p ∷ xs) ys h =
    calls_from-append n (suc place) xs ys h
    ∙ ap (λ z. calls_from n (suc place) xs ++ z) (calls_from_same (n + begins xs) (n + (0 + begins xs)) (suc place + length xs) (place + suc (length xs)) ys (omega arith) (omega arith))
calls_from-append n place (EndView p s ∷ xs) ys h =
    calls_from-append n (suc place) xs ys h
    ∙ ap (λ z. calls_from n (suc place) xs ++ z) (calls_from_same (n + begins xs) (n + (0 + begins xs)) (suc place + length xs) (place + suc (length xs)) ys (omega arith) (omega arith))

-- where calls begin and end
begins_at : (n place : ℕ) (es : List Event) (c : Call) → In c (calls_from n place es) → place ≤ c.begun
begins_at n place es c i = let b = begun n place es c i in omega (arith, b.at_place)

ends_by : (n place : ℕ) (es : List Event) (c : Call) (end : ℕ) → In c (calls_from n place es) → c.ended ≡ Some end → end < place + length es
ends_by n place es c end i h = go (next (process_of b.event) (suc c.begun) b.after)
  where
    b : Begun n place es c
    b = begun n place es c i

    is : next_place (process_of b.event) (suc c.begun) b.after ≡ Some end
    is = sym (ap (λ (z : Call). z.ended) b.is) ∙ h

    go : Next (process_of b.event) (suc c.begun) b.after → end < place + length es
    go (nothing x y z) = absurd (let g : None ≡ Some end = sym x ∙ is in cc)
    go (found mid x rest s q none at ans) =
        let g : Some (suc c.begun + length mid) ≡ Some end = sym at ∙ is in
        let e : suc c.begun + length mid ≡ end = cc in
        omega (arith, e, b.at_place, ap length b.split ∙ length-append b.before (b.event ∷ b.after), ap length s ∙ length-append mid (x ∷ rest))

-- the calls after a moment, as the whole numbers them
abbrev pub back_of : List Event → List Event → List Call
back_of before after = calls_from (0 + begins before) (0 + length before) after

pub all_completed : (before : List Event) → IsQuiet before → (c : Call) → In c (calls_of before) → is_completed c ≡ true
all_completed before quiet c i = All-contains (λ z. is_completed z ≡ true) (calls_of before) c quiet (Contains-from_In _ _ i)

pub calls_split : (before after : List Event) → IsQuiet before → calls_of (before ++ after) ≡ calls_of before ++ back_of before after
unfolding calls_of
calls_split before after quiet = calls_from-append 0 0 before after (all_completed before quiet)

pub across : (before after : List Event) → IsQuiet before → (a b : Call) → In a (calls_of before) → In b (back_of before after) → precedes a b ≡ true
unfolding calls_of
across before after quiet a b i j =
    let e = ended a (all_completed before quiet a i) in
    precedes_from a b (record { place = e.place; ends = e.ends; before = omega (arith, ends_by 0 0 before a e.place i e.ends, begins_at (0 + begins before) (0 + length before) after b j) })

pub cut : (before after : List Event) → IsOrdered (before ++ after) → IsQuiet before → IsCut (calls_of before) (back_of before after)
cut before after h quiet = record {
  calls = subst AreOrderedCalls (calls_split before after quiet) (are_ordered_calls (before ++ after) h);
  completed = all_completed before quiet;
  across = across before after quiet;
}
