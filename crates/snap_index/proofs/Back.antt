-- The calls of a list of events, from its end.
use Rattle.std.proofs.Common.{◌≡◌, ◌<◌, ◌≤◌, ◌+◌, ◌-◌, ℕ, suc, cond, List, [], ◌∷◌, ◌++◌, length, map, reverse, drop, set, get_or, Option, Some, None, refl, sym, ap, ◌∙◌, inl, inr, arith, get_or-set_same, get_or-set_other}
use Rattle.std.specs.Prelude.{◌==◌}
use Rattle.std.proofs.lemmas.List.{drop_more, reverse-append}
use Rattle.std.proofs.lemmas.Bool.{eq-eqb, ne_eqb, cases_eq}
use Rattle.snap_core.specs.declared.event.Event.{Event}
use Rattle.snap_core.specs.declared.event.Event.TheVariants.{BeginUpdate, BeginView, EndUpdate, EndView}
use Rattle.snap_core.specs.Events.{process_of}
use Rattle.snap_core.specs.Calls.{Views, calls_from, next_place, next_answer}
use Rattle.snap_index.specs.declared.call.CallOp.TheVariants.{Update, View}
use Rattle.snap_index.specs.declared.call.Call.{Call}
use Rattle.snap_index.specs.IndexedCalls.{as_indexed, begun_by}
use Rattle.snap_index.specs.declared.call.CallOp.{CallOp}

-- the number of a call stands in no bare call
pub indexed_numbers : (n m place : ℕ) (es : List Event) → map as_indexed (calls_from n place es) ≡ map as_indexed (calls_from m place es)
indexed_numbers n m place [] = refl
indexed_numbers n m place (BeginUpdate p e ∷ es) = ap (λ z. record { process = p; op = Update e; begun = place; ended = next_place p (suc place) es } ∷ z) (indexed_numbers (suc n) (suc m) (suc place) es)
indexed_numbers n m place (BeginView p ∷ es) = ap (λ z. as_indexed record { number = n; process = p; operation = Views (next_answer p es); begun = place; ended = next_place p (suc place) es } ∷ z) (indexed_numbers (suc n) (suc m) (suc place) es)
indexed_numbers n m place (EndUpdate p ∷ es) = indexed_numbers n m (suc place) es
indexed_numbers n m place (EndView p s ∷ es) = indexed_numbers n m (suc place) es

pub dropped : (events : List Event) (i : ℕ) (e : Event) → 0 < i → i ≤ length events → e ≡ get_or events (i - 1) e → drop (i - 1) events ≡ e ∷ drop i events
dropped events i e l m h =
    let n : i - 1 + 1 ≡ i = omega arith in
    drop_more events (i - 1) e (omega arith) ∙ ap (λ z. z ∷ drop (i - 1 + 1) events) (sym h) ∙ ap (λ z. e ∷ drop z events) n

-- the places of the next events, one event further to the front
pub placed : (next : List (Option ℕ)) (events : List Event) (i : ℕ) (e : Event) (q : ℕ) → q < length next → q ≡ process_of e → 0 < i → i ≤ length events → e ≡ get_or events (i - 1) e →
    (p : ℕ) → get_or next p None ≡ next_place p i (drop i events) → get_or (set next q (Some (i - 1))) p None ≡ next_place p (i - 1) (drop (i - 1) events)
placed next events i e q fits is pos within read p before = elim (cases_eq q p) [
  | inl same ↦ at same
  | inr other ↦ away other
]
  where
    n : suc (i - 1) ≡ i
    n = omega arith

    rest : next_place p (i - 1) (drop (i - 1) events) ≡ cond (process_of e == p) (Some (i - 1)) (next_place p i (drop i events))
    rest = ap (next_place p (i - 1)) (dropped events i e pos within read) ∙ ap (λ z. cond (process_of e == p) (Some (i - 1)) (next_place p z (drop i events))) n

    at : q ≡ p → get_or (set next q (Some (i - 1))) p None ≡ next_place p (i - 1) (drop (i - 1) events)
    at same =
        ap (λ z. get_or (set next q (Some (i - 1))) z None) (sym same) ∙ get_or-set_same next q (Some (i - 1)) None fits
        ∙ sym (rest ∙ ap (λ b. cond b (Some (i - 1)) (next_place p i (drop i events))) (eq-eqb (process_of e) p (sym is ∙ same)))

    away : (q ≡ p → ⊥) → get_or (set next q (Some (i - 1))) p None ≡ next_place p (i - 1) (drop (i - 1) events)
    away other =
        get_or-set_other next q p (Some (i - 1)) None (λ h. other (sym h)) ∙ before
        ∙ sym (rest ∙ ap (λ b. cond b (Some (i - 1)) (next_place p i (drop i events))) (ne_eqb (process_of e) p (λ h. other (is ∙ h))))

-- what an event adds to the calls
abbrev pub head_of : ℕ → Option CallOp → ℕ → Option ℕ → List Call
head_of p None place ended = []
head_of p (Some op) place ended = record { process = p; op = op; begun = place; ended = ended } ∷ []

headed : (place : ℕ) (e : Event) (es : List Event) → map as_indexed (calls_from 0 place (e ∷ es)) ≡ head_of (process_of e) (begun_by e) place (next_place (process_of e) (suc place) es) ++ map as_indexed (calls_from 0 (suc place) es)
headed place (BeginUpdate p e) es = ap (λ z. record { process = p; op = Update e; begun = place; ended = next_place p (suc place) es } ∷ z) (indexed_numbers 1 0 (suc place) es)
headed place (BeginView p) es = ap (λ z. record { process = p; op = View; begun = place; ended = next_place p (suc place) es } ∷ z) (indexed_numbers 1 0 (suc place) es)
headed place (EndUpdate p) es = refl
headed place (EndView p s) es = refl

reverse_head : (p : ℕ) (o : Option CallOp) (place : ℕ) (ended : Option ℕ) → reverse (head_of p o place ended) ≡ head_of p o place ended
reverse_head p None place ended = refl
reverse_head p (Some op) place ended = refl

-- the calls so far, one event further to the front
pub so_far_more : (events : List Event) (i : ℕ) (e : Event) (q : ℕ) (op : Option CallOp) (ended : Option ℕ) (old new : List Call) → 0 < i → i ≤ length events → e ≡ get_or events (i - 1) e → q ≡ process_of e → op ≡ begun_by e →
    ended ≡ next_place q i (drop i events) → new ≡ old ++ head_of q op (i - 1) ended → reverse old ≡ map as_indexed (calls_from 0 i (drop i events)) → reverse new ≡ map as_indexed (calls_from 0 (i - 1) (drop (i - 1) events))
so_far_more events i e q op ended old new pos within read is begins ends more before =
    let n : suc (i - 1) ≡ i = omega arith in
    let left : reverse new ≡ head_of q op (i - 1) ended ++ map as_indexed (calls_from 0 i (drop i events)) =
    ap reverse more ∙ reverse-append old (head_of q op (i - 1) ended) ∙ ap (λ z. z ++ reverse old) (reverse_head q op (i - 1) ended) ∙ ap (λ z. head_of q op (i - 1) ended ++ z) before in
    let right : map as_indexed (calls_from 0 (i - 1) (drop (i - 1) events)) ≡ head_of (process_of e) (begun_by e) (i - 1) (next_place (process_of e) i (drop i events)) ++ map as_indexed (calls_from 0 i (drop i events)) =
    ap (λ z. map as_indexed (calls_from 0 (i - 1) z)) (dropped events i e pos within read) ∙ headed (i - 1) e (drop i events)
    ∙ ap (λ z. head_of (process_of e) (begun_by e) (i - 1) (next_place (process_of e) z (drop i events)) ++ map as_indexed (calls_from 0 z (drop i events))) n in
    let head : head_of q op (i - 1) ended ≡ head_of (process_of e) (begun_by e) (i - 1) (next_place (process_of e) i (drop i events)) =
    ap (λ z. head_of q op (i - 1) z) ends ∙ ap (λ z. head_of q z (i - 1) (next_place q i (drop i events))) begins
    ∙ ap (λ z. head_of z (begun_by e) (i - 1) (next_place z i (drop i events))) is in
    left ∙ ap (λ z. z ++ map as_indexed (calls_from 0 i (drop i events))) head ∙ sym right
