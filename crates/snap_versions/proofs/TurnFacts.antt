-- An event is refused by what its process has begun exactly as by all events before it.
use Rattle.std.proofs.Common.{◌≡◌, ◌%◌, ℕ, suc, Bool, true, false, cond, List, [], ◌∷◌, ◌++◌, append-nil, length, Option, Some, None, refl, sym, ap, ◌∙◌, subst, arith}
use Rattle.std.specs.Prelude.{◌==◌, is_some}
use Rattle.std.proofs.lemmas.Bool.{eqb-true}
use Rattle.std.proofs.lemmas.List.Elements.{filter-append}
use Rattle.snap_core.specs.declared.event.Event.{Event}
use Rattle.snap_core.specs.declared.event.Event.TheVariants.{BeginUpdate, BeginView, EndUpdate, EndView}
use Rattle.snap_core.specs.declared.history.EventRefusal.{EventRefusal}
use Rattle.snap_core.specs.declared.history.EventRefusal.TheVariants as refusals
use Rattle.snap_core.specs.Events.{process_of, IsBegin, Ends, TakeTurns, events_of, IsWellFormed}
use Rattle.snap_core.specs.Refusals.{is_begin, has_open, last_event, ends_last}
use Rattle.snap_core.proofs.Pushes.{count_is, last_is, last_of, turn_tests, well_formed_back}
use Rattle.snap_versions.specs.Refused.{has_known_version, store_refusal}
use Rattle.snap_versions.specs.inside.Turns.{opened_by, opened_in, turn_refusal}

-- ---- what a process has open, by its events

ended : (b e : Event) → Ends b e → opened_by e ≡ None
ended (BeginUpdate p d) (EndUpdate q) h = refl
ended (BeginView p) (EndView q es) h = refl
ended (BeginUpdate p d) (BeginUpdate q c) h = absurd h
ended (BeginUpdate p d) (BeginView q) h = absurd h
ended (BeginUpdate p d) (EndView q es) h = absurd h
ended (BeginView p) (BeginUpdate q c) h = absurd h
ended (BeginView p) (BeginView q) h = absurd h
ended (BeginView p) (EndUpdate q) h = absurd h
ended (EndUpdate p) e h = absurd h
ended (EndView p s) e h = absurd h

begun : (b : Event) → IsBegin b → is_some (opened_by b) ≡ true
begun (BeginUpdate p d) h = refl
begun (BeginView p) h = refl
begun (EndUpdate p) h = absurd h
begun (EndView p s) h = absurd h

two_more : (n : ℕ) → (n % 2 == 1) ≡ (suc (suc n) % 2 == 1)
two_more n = let e : n % 2 ≡ suc (suc n) % 2 = omega arith in ap (λ m. m == 1) e

parity : (zs : List Event) (o : Option Event) → TakeTurns zs → opened_in o ≡ None → is_some (opened_in (last_of o zs)) ≡ (length zs % 2 == 1)
parity [] o t h = ap is_some h
parity (b ∷ []) o t h = begun b t
parity (b ∷ x ∷ rest) o t h = parity rest (Some x) t.1 (ended b x t.0) ∙ two_more (length rest)

has_open_is : (es : List Event) (p : ℕ) → IsWellFormed es → is_some (opened_in (last_event p None es)) ≡ has_open p es
has_open_is es p w = ap (λ o. is_some (opened_in o)) (last_is p None es) ∙ parity (events_of p es) None (w p) refl ∙ ap (λ n. n % 2 == 1) (count_is p es)

-- ---- the next turn

next_turn : (zs : List Event) (o : Option Event) (e : Event) → TakeTurns zs → opened_in o ≡ None → turn_refusal (opened_in (last_of o zs)) e ≡ None → TakeTurns (zs ++ e ∷ [])
next_turn [] o e t h r = first e (sym (ap (λ z. turn_refusal z e) h) ∙ r)
  where
    first : (e : Event) → turn_refusal None e ≡ None → IsBegin e
    first (BeginUpdate p d) r = tt
    first (BeginView p) r = tt
    first (EndUpdate p) r = cc
    first (EndView p s) r = cc
next_turn (b ∷ []) o e t h r = (second b e t r, tt)
  where
    second : (b e : Event) → IsBegin b → turn_refusal (opened_by b) e ≡ None → Ends b e
    second (BeginUpdate p d) (EndUpdate q) t r = tt
    second (BeginView p) (EndView q s) t r = tt
    second (BeginUpdate p d) (BeginUpdate q c) t r = cc
    second (BeginUpdate p d) (BeginView q) t r = cc
    second (BeginUpdate p d) (EndView q s) t r = cc
    second (BeginView p) (BeginUpdate q c) t r = cc
    second (BeginView p) (BeginView q) t r = cc
    second (BeginView p) (EndUpdate q) t r = cc
    second (EndUpdate p) e t r = absurd t
    second (EndView p s) e t r = absurd t
next_turn (b ∷ x ∷ rest) o e t h r = (t.0, next_turn rest (Some x) e t.1 (ended b x t.0) r)

pub taken_turn : (es : List Event) (e : Event) → IsWellFormed es → turn_refusal (opened_in (last_event (process_of e) None es)) e ≡ None → IsWellFormed (es ++ e ∷ [])
taken_turn es e w r p = go (process_of e == p) refl
  where
    go : (b : Bool) → (process_of e == p) ≡ b → TakeTurns (events_of p (es ++ e ∷ []))
    go true t =
        let h : process_of e ≡ p = eqb-true _ _ t in
        let last : opened_in (last_event (process_of e) None es) ≡ opened_in (last_of None (events_of p es)) = ap opened_in (ap (λ q. last_event q None es) h ∙ last_is p None es) in
        subst TakeTurns (sym (filter-append (λ x. process_of x == p) es (e ∷ []) ∙ ap (λ b. events_of p es ++ cond b (e ∷ []) []) t))
        (next_turn (events_of p es) None e (w p) refl (sym (ap (λ z. turn_refusal z e) last) ∙ r))
    go false t = subst TakeTurns (sym (filter-append (λ x. process_of x == p) es (e ∷ []) ∙ ap (λ b. events_of p es ++ cond b (e ∷ []) []) t ∙ append-nil (events_of p es))) (w p)

-- ---- the refusal after all events

pub turn_taken : (es : List Event) (e : Event) → IsWellFormed es → turn_refusal (opened_in (last_event (process_of e) None es)) e ≡ None → has_known_version es e ≡ false → store_refusal es e ≡ None
turn_taken es e w r v =
    let tests = turn_tests es e (well_formed_back es e (taken_turn es e w r)).1 in
    rw (tests.0, tests.1, tests.2, v) refl

pub known_version : (es : List Event) (e : Event) → IsWellFormed es → turn_refusal (opened_in (last_event (process_of e) None es)) e ≡ None → has_known_version es e ≡ true → store_refusal es e ≡ Some refusals.Number
known_version es e w r v =
    let tests = turn_tests es e (well_formed_back es e (taken_turn es e w r)).1 in
    rw (tests.0, tests.1, tests.2, v) refl

busy : (es : List Event) (e : Event) → is_begin e ≡ true → has_open (process_of e) es ≡ true → store_refusal es e ≡ Some refusals.Busy
busy es e b h = rw (b, h) refl

idle : (es : List Event) (e : Event) → is_begin e ≡ false → has_open (process_of e) es ≡ false → store_refusal es e ≡ Some refusals.Idle
idle es e b h = rw (b, h) refl

other : (es : List Event) (e : Event) → is_begin e ≡ false → has_open (process_of e) es ≡ true → ends_last (last_event (process_of e) None es) e ≡ false → store_refusal es e ≡ Some refusals.OtherOp
other es e b h l = rw (b, h, l) refl

refused : (es : List Event) (e : Event) (refusal : EventRefusal) (o : Option Event) → last_event (process_of e) None es ≡ o → turn_refusal (opened_in o) e ≡ Some refusal → is_some (opened_in o) ≡ has_open (process_of e) es → store_refusal es e ≡ Some refusal
refused es (BeginUpdate p d) refusal (Some (BeginUpdate q c)) l r h = busy es (BeginUpdate p d) refl (sym h) ∙ r
refused es (BeginUpdate p d) refusal (Some (BeginView q)) l r h = busy es (BeginUpdate p d) refl (sym h) ∙ r
refused es (BeginUpdate p d) refusal (Some (EndUpdate q)) l r h = cc
refused es (BeginUpdate p d) refusal (Some (EndView q s)) l r h = cc
refused es (BeginUpdate p d) refusal None l r h = cc
refused es (BeginView p) refusal (Some (BeginUpdate q c)) l r h = busy es (BeginView p) refl (sym h) ∙ r
refused es (BeginView p) refusal (Some (BeginView q)) l r h = busy es (BeginView p) refl (sym h) ∙ r
refused es (BeginView p) refusal (Some (EndUpdate q)) l r h = cc
refused es (BeginView p) refusal (Some (EndView q s)) l r h = cc
refused es (BeginView p) refusal None l r h = cc
refused es (EndUpdate p) refusal (Some (BeginUpdate q c)) l r h = cc
refused es (EndUpdate p) refusal (Some (BeginView q)) l r h = other es (EndUpdate p) refl (sym h) (ap (λ z. ends_last z (EndUpdate p)) l) ∙ r
refused es (EndUpdate p) refusal (Some (EndUpdate q)) l r h = idle es (EndUpdate p) refl (sym h) ∙ r
refused es (EndUpdate p) refusal (Some (EndView q s)) l r h = idle es (EndUpdate p) refl (sym h) ∙ r
refused es (EndUpdate p) refusal None l r h = idle es (EndUpdate p) refl (sym h) ∙ r
refused es (EndView p t) refusal (Some (BeginUpdate q c)) l r h = other es (EndView p t) refl (sym h) (ap (λ z. ends_last z (EndView p t)) l) ∙ r
refused es (EndView p t) refusal (Some (BeginView q)) l r h = cc
refused es (EndView p t) refusal (Some (EndUpdate q)) l r h = idle es (EndView p t) refl (sym h) ∙ r
refused es (EndView p t) refusal (Some (EndView q s)) l r h = idle es (EndView p t) refl (sym h) ∙ r
refused es (EndView p t) refusal None l r h = idle es (EndView p t) refl (sym h) ∙ r

pub turn_refused : (es : List Event) (e : Event) (refusal : EventRefusal) → IsWellFormed es → turn_refusal (opened_in (last_event (process_of e) None es)) e ≡ Some refusal → store_refusal es e ≡ Some refusal
turn_refused es e refusal w r = refused es e refusal (last_event (process_of e) None es) refl r (has_open_is es (process_of e) w)
