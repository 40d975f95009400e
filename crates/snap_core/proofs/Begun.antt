-- The calls of a list of events, each from the place where it begins.
use Rattle.std.proofs.Common.{get_or, ◌≡◌, ℕ, zero, suc, ◌+◌, ◌<◌, ◌≤◌, Bool, true, false, cond, List, [], ◌∷◌, ◌++◌, length, Some, None, refl, sym, ap, ◌∙◌, subst, inl, inr, arith}
use Rattle.std.specs.Prelude.{◌==◌}
use Rattle.std.specs.List.{count_by}
use Rattle.std.proofs.lemmas.Bool.{eqb-true, eq-eqb}
use Rattle.std.proofs.lemmas.List.Elements.{filter-append}
use Rattle.std.proofs.lemmas.List.Sums.{sum_by-append}
use Rattle.snap_core.specs.declared.entry.Entry.{Entry}
use Rattle.snap_core.specs.Events.{Event, BeginUpdate, BeginView, EndUpdate, EndView, process_of, IsBegin, Ends, TakeTurns, events_of, IsWellFormed, begins_update_of}
use Rattle.snap_core.specs.Calls.{Call, Operation, Updates, next_place, next_answer, answer_at, calls_from, Views}
use Rattle.snap_core.proofs.Lists.{In, Pairs, count-cons}

-- two splits of one list: at one place, or one inside the other
pub data Compared {X : Type 0} (xs : List X) (a : X) (ys : List X) (zs : List X) (b : X) (ws : List X) : Type 0 where
  alike : xs ≡ zs → a ≡ b → ys ≡ ws → Compared xs a ys zs b ws
  first : (mid : List X) → zs ≡ xs ++ a ∷ mid → ys ≡ mid ++ b ∷ ws → Compared xs a ys zs b ws
  second : (mid : List X) → xs ≡ zs ++ b ∷ mid → ws ≡ mid ++ a ∷ ys → Compared xs a ys zs b ws

pub compare_splits : {X : Type 0} (xs : List X) (a : X) (ys zs : List X) (b : X) (ws : List X) → xs ++ a ∷ ys ≡ zs ++ b ∷ ws → Compared xs a ys zs b ws
compare_splits [] a ys [] b ws e = alike refl (cc) (cc)
compare_splits [] a ys (z ∷ zs) b ws e = let h : a ≡ z = cc in first zs (ap (λ q. q ∷ zs) (sym h)) (cc)
compare_splits (x ∷ xs) a ys [] b ws e = let h : x ≡ b = cc in second xs (ap (λ q. q ∷ xs) h) (cc)
compare_splits (x ∷ xs) a ys (z ∷ zs) b ws e = go (compare_splits xs a ys zs b ws (cc))
  where
    h : x ≡ z
    h = cc

    go : Compared xs a ys zs b ws → Compared (x ∷ xs) a ys (z ∷ zs) b ws
    go (alike p q r) = alike (cc) q r
    go (first mid p q) = first mid (cc) q
    go (second mid p q) = second mid (cc) q

-- an end follows a begin of its process
pub not_end : (x b : Event) → Ends x b → IsBegin b → ⊥
not_end x (EndUpdate q) t i = i
not_end x (EndView q s) t i = i
not_end (BeginUpdate p e) (BeginUpdate q d) t i = t
not_end (BeginUpdate p e) (BeginView q) t i = t
not_end (BeginView p) (BeginUpdate q d) t i = t
not_end (BeginView p) (BeginView q) t i = t
not_end (EndUpdate p) (BeginUpdate q d) t i = t
not_end (EndUpdate p) (BeginView q) t i = t
not_end (EndView p s) (BeginUpdate q d) t i = t
not_end (EndView p s) (BeginView q) t i = t

turns : (xs : List Event) (b e : Event) (ys : List Event) → TakeTurns (xs ++ b ∷ e ∷ ys) → IsBegin b → Ends b e
turns [] b e ys t i = t.0
turns (x ∷ []) b e ys t i = absurd (not_end x b t.0 i)
turns (x ∷ y ∷ xs) b e ys t i = turns xs b e ys t.1 i

-- the next event of a process
pub data Next (p place : ℕ) (es : List Event) : Type 0 where
  nothing : next_place p place es ≡ None → events_of p es ≡ [] → next_answer p es ≡ None → Next p place es
  found : (mid : List Event) (x : Event) (rest : List Event) → es ≡ mid ++ x ∷ rest → process_of x ≡ p → events_of p mid ≡ [] → next_place p place es ≡ Some (place + length mid) → next_answer p es ≡ answer_at x → Next p place es

pub next : (p place : ℕ) (es : List Event) → Next p place es
next p place [] = nothing refl refl refl
next p place (e ∷ es) = go (process_of e == p) refl (next p (suc place) es)
  where
    go : (b : Bool) → (process_of e == p) ≡ b → Next p (suc place) es → Next p place (e ∷ es)
    go true t n =
        found [] e es refl (eqb-true _ _ t) refl
        (ap (λ b. cond b (Some place) (next_place p (suc place) es)) t ∙ (let q : place ≡ place + zero = omega arith in ap Some q))
        (ap (λ b. cond b (answer_at e) (next_answer p es)) t)
    go false t (nothing a b c) =
        nothing (ap (λ b. cond b (Some place) (next_place p (suc place) es)) t ∙ a)
        (ap (λ q. cond q (e ∷ events_of p es) (events_of p es)) t ∙ b)
        (ap (λ b. cond b (answer_at e) (next_answer p es)) t ∙ c)
    go false t (found mid x rest s q none a c) =
        found (e ∷ mid) x rest (ap (λ z. e ∷ z) s) q
        (ap (λ z. cond z (e ∷ events_of p mid) (events_of p mid)) t ∙ none)
        (ap (λ b. cond b (Some place) (next_place p (suc place) es)) t ∙ a ∙ (let r : suc place + length mid ≡ place + suc (length mid) = omega arith in ap Some r))
        (ap (λ b. cond b (answer_at e) (next_answer p es)) t ∙ c)

pub events_of-cons : (p : ℕ) (x : Event) (xs : List Event) → process_of x ≡ p → events_of p (x ∷ xs) ≡ x ∷ events_of p xs
events_of-cons p x xs e = ap (λ b. cond b (x ∷ events_of p xs) (events_of p xs)) (eq-eqb _ _ e)

-- what follows a begin of a process ends it
pub ends_it : (es : List Event) → IsWellFormed es → (before mid rest : List Event) (b x : Event) → es ≡ before ++ b ∷ (mid ++ x ∷ rest) → IsBegin b → process_of x ≡ process_of b → events_of (process_of b) mid ≡ [] → Ends b x
ends_it es w before mid rest b x split i same none =
    let p = process_of b in
    let inner : events_of p (mid ++ x ∷ rest) ≡ x ∷ events_of p rest =
    filter-append (λ e. process_of e == p) mid (x ∷ rest) ∙ ap (λ z. z ++ events_of p (x ∷ rest)) none ∙ events_of-cons p x rest same in
    let all : events_of p es ≡ events_of p before ++ b ∷ x ∷ events_of p rest =
    ap (events_of p) split ∙ filter-append (λ e. process_of e == p) before (b ∷ (mid ++ x ∷ rest))
    ∙ ap (λ z. events_of p before ++ z) (events_of-cons p b (mid ++ x ∷ rest) refl ∙ ap (λ z. b ∷ z) inner) in
    turns (events_of p before) b x (events_of p rest) (subst TakeTurns all (w p)) i

-- how many events are begins
abbrev pub begin_count : Event → ℕ
begin_count (BeginUpdate p e) = 1
begin_count (BeginView p) = 1
begin_count (EndUpdate p) = 0
begin_count (EndView p s) = 0

abbrev pub begins : List Event → ℕ
begins [] = 0
begins (e ∷ es) = begin_count e + begins es

pub begins-append : (xs ys : List Event) → begins (xs ++ ys) ≡ begins xs + begins ys
begins-append [] ys = omega arith
begins-append (x ∷ xs) ys = omega (arith, begins-append xs ys)

pub begin_one : (x : Event) → IsBegin x → begin_count x ≡ 1
begin_one (BeginUpdate p e) i = refl
begin_one (BeginView p) i = refl
begin_one (EndUpdate p) i = absurd i
begin_one (EndView p s) i = absurd i

abbrev pub operation_at : Event → List Event → Operation
operation_at (BeginUpdate p e) after = Updates e
operation_at (BeginView p) after = Views (next_answer p after)
operation_at (EndUpdate p) after = Views None
operation_at (EndView p s) after = Views None

abbrev pub call_at : ℕ → ℕ → Event → List Event → Call
call_at number place x after = record { number = number; process = process_of x; operation = operation_at x after; begun = place; ended = next_place (process_of x) (suc place) after }

-- where a call begins
pub record Begun (number place : ℕ) (es : List Event) (c : Call) : Type 0 where
  pub before : List Event
  pub event : Event
  pub after : List Event
  pub split : es ≡ before ++ event ∷ after
  pub opens : IsBegin event
  pub at_number : c.number ≡ number + begins before
  pub at_place : c.begun ≡ place + length before
  pub is : c ≡ call_at c.number c.begun event after

begun_here : (number place : ℕ) (x : Event) (es : List Event) → IsBegin x → Begun number place (x ∷ es) (call_at number place x es)
begun_here number place x es i = record { before = []; event = x; after = es; split = refl; opens = i; at_number = omega arith; at_place = omega arith; is = refl }

begun_later : (n m place : ℕ) (x : Event) (es : List Event) (c : Call) → m ≡ n + begin_count x → Begun m (suc place) es c → Begun n place (x ∷ es) c
begun_later n m place x es c e b = record {
  before = x ∷ b.before;
  event = b.event;
  after = b.after;
  split = ap (λ z. x ∷ z) b.split;
  opens = b.opens;
  at_number = omega (arith, b.at_number);
  at_place = omega (arith, b.at_place);
  is = b.is;
}

pub begun : (n place : ℕ) (es : List Event) (c : Call) → In c (calls_from n place es) → Begun n place es c
begun n place [] c i = absurd i
begun n place (BeginUpdate p e ∷ es) c (inl h) = subst (Begun n place (BeginUpdate p e ∷ es)) h (begun_here n place (BeginUpdate p e) es tt)
begun n place (BeginUpdate p e ∷ es) c (inr i) = begun_later n (suc n) place (BeginUpdate p e) es c (omega arith) (begun (suc n) (suc place) es c i)
begun n place (BeginView p ∷ es) c (inl h) = subst (Begun n place (BeginView p ∷ es)) h (begun_here n place (BeginView p) es tt)
begun n place (BeginView p ∷ es) c (inr i) = begun_later n (suc n) place (BeginView p) es c (omega arith) (begun (suc n) (suc place) es c i)
begun n place (EndUpdate p ∷ es) c i = begun_later n n place (EndUpdate p) es c (omega arith) (begun n (suc place) es c i)
begun n place (EndView p s ∷ es) c i = begun_later n n place (EndView p s) es c (omega arith) (begun n (suc place) es c i)

-- the call that begins at an event
pub record CallAt (calls : List Call) (event : Event) (after : List Event) : Type 0 where
  pub number : ℕ
  pub place : ℕ
  pub there : In (call_at number place event after) calls

same_call : (n m place spot : ℕ) (x : Event) (after : List Event) → n ≡ m → place ≡ spot → call_at n place x after ≡ call_at m spot x after
same_call n m place spot x after e f = ap (λ z. call_at z place x after) e ∙ ap (λ z. call_at m z x after) f

-- the call that begins at an event, by the begins and the events before it
pub call_placed : (n place m spot : ℕ) (before : List Event) (x : Event) (after : List Event) → IsBegin x → m ≡ n + begins before → spot ≡ place + length before → In (call_at m spot x after) (calls_from n place (before ++ x ∷ after))
call_placed n place m spot [] (BeginUpdate p e) after i a b = inl (same_call n m place spot (BeginUpdate p e) after (omega (arith, a)) (omega (arith, b)))
call_placed n place m spot [] (BeginView p) after i a b = inl (same_call n m place spot (BeginView p) after (omega (arith, a)) (omega (arith, b)))
call_placed n place m spot [] (EndUpdate p) after i a b = absurd i
call_placed n place m spot [] (EndView p s) after i a b = absurd i
call_placed n place m spot (BeginUpdate p e ∷ before) x after i a b = inr (call_placed (suc n) (suc place) m spot before x after i (omega (arith, a)) (omega (arith, b)))
call_placed n place m spot (BeginView p ∷ before) x after i a b = inr (call_placed (suc n) (suc place) m spot before x after i (omega (arith, a)) (omega (arith, b)))
call_placed n place m spot (EndUpdate p ∷ before) x after i a b = call_placed n (suc place) m spot before x after i (omega (arith, a)) (omega (arith, b))
call_placed n place m spot (EndView p s ∷ before) x after i a b = call_placed n (suc place) m spot before x after i (omega (arith, a)) (omega (arith, b))

pub call_there : (n place : ℕ) (before : List Event) (x : Event) (after : List Event) → IsBegin x → CallAt (calls_from n place (before ++ x ∷ after)) x after
call_there n place before x after i = record { number = n + begins before; place = place + length before; there = call_placed n place (n + begins before) (place + length before) before x after i refl refl }

number_from : (n place : ℕ) (es : List Event) (c : Call) → In c (calls_from n place es) → n ≤ c.number
number_from n place es c i = let b = begun n place es c i in omega (arith, b.at_number)

pub numbers_rise : (n place : ℕ) (es : List Event) → Pairs (λ a b. a.number < b.number) (calls_from n place es)
numbers_rise n place [] = tt
numbers_rise n place (BeginUpdate p e ∷ es) = (λ c i. number_from (suc n) (suc place) es c i, numbers_rise (suc n) (suc place) es)
numbers_rise n place (BeginView p ∷ es) = (λ c i. number_from (suc n) (suc place) es c i, numbers_rise (suc n) (suc place) es)
numbers_rise n place (EndUpdate p ∷ es) = numbers_rise n (suc place) es
numbers_rise n place (EndView p s ∷ es) = numbers_rise n (suc place) es

-- the call at a place of the list has that number
pub number_at_place : (n place : ℕ) (es : List Event) (j : ℕ) (d : Call) → j < length (calls_from n place es) → (get_or (calls_from n place es) j d).number ≡ n + j
number_at_place n place [] j d l = absurd (omega arith)
number_at_place n place (BeginUpdate p e ∷ es) zero d l = omega arith
number_at_place n place (BeginUpdate p e ∷ es) (suc j) d l = omega (arith, number_at_place (suc n) (suc place) es j d (omega arith))
number_at_place n place (BeginView p ∷ es) zero d l = omega arith
number_at_place n place (BeginView p ∷ es) (suc j) d l = omega (arith, number_at_place (suc n) (suc place) es j d (omega arith))
number_at_place n place (EndUpdate p ∷ es) j d l = number_at_place n (suc place) es j d l
number_at_place n place (EndView p s ∷ es) j d l = number_at_place n (suc place) es j d l

pub update_event : (x : Event) (after : List Event) (d : Entry) → operation_at x after ≡ Updates d → x ≡ BeginUpdate (process_of x) d
update_event (BeginUpdate p e) after d h = let g : e ≡ d = cc in ap (BeginUpdate p) g
update_event (BeginView p) after d h = absurd (cc)
update_event (EndUpdate p) after d h = absurd (cc)
update_event (EndView p s) after d h = absurd (cc)

pub count-append : (k : ℕ) (xs ys : List Event) → count_by (begins_update_of k) (xs ++ ys) ≡ count_by (begins_update_of k) xs + count_by (begins_update_of k) ys
count-append k xs ys = sum_by-append (λ x. cond (begins_update_of k x) 1 0) xs ys

-- the updates of a component before a later update are more
pub count_inside : (k : ℕ) (xs mid : List Event) (p : ℕ) (d : Entry) → d.component ≡ k → count_by (begins_update_of k) xs < count_by (begins_update_of k) (xs ++ BeginUpdate p d ∷ mid)
count_inside k xs mid p d h =
    let one : cond (d.component == k) 1 0 ≡ 1 = ap {B = ℕ} (λ b. cond b 1 0) (eq-eqb _ _ h) in
    omega (arith, count-append k xs (BeginUpdate p d ∷ mid), count-cons (begins_update_of k) (BeginUpdate p d) mid, one)

pub no_event : (p : ℕ) (xs : List Event) (x : Event) (ys : List Event) → process_of x ≡ p → events_of p (xs ++ x ∷ ys) ≡ [] → ⊥
no_event p xs x ys h e = go (events_of p xs) (sym (filter-append (λ z. process_of z == p) xs (x ∷ ys) ∙ ap (λ z. events_of p xs ++ z) (events_of-cons p x ys h)) ∙ e)
  where
    go : (zs : List Event) → zs ++ x ∷ events_of p ys ≡ [] → ⊥
    go [] g = cc
    go (z ∷ zs) g = cc
