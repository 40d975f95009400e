-- Reading the records under the header in turn.
use Rattle.std.proofs.Common.{◌≡◌, ◌<◌, ◌≤◌, ◌+◌, ◌++◌, cond, not, inl, inr, ℕ, suc, Bool, true, false, List, [], ◌∷◌, length, get_or, take, drop, Option, Some, None, Ok, refl, arith, ◌∙◌, sym, ap, add-one}
use Rattle.snap_core.specs.declared.limit.Limit.{Limit}
use Rattle.std.specs.Prelude.{◌==◌, ◌≢◌, ◌⊎◌, MatchOption, nat_le, option_and_then}
use Rattle.std.specs.Global.{Vec}
use Rattle.std.specs.List.{range_with_len}
use borrow.Author.Count.{below_more}
use Rattle.std.proofs.lemmas.Bool.{cases_lt, le-leb}
use Rattle.std.proofs.lemmas.Bool.Decides.{nat_tests}
use Rattle.std.proofs.lemmas.List.{drop_all, length-append, length-drop, take_all}
use Rattle.std.proofs.lemmas.List.Elements.{filter_map-append}
use Rattle.std.proofs.Math.Seq.{drop-cons, take-suc}
use Rattle.snap_core.proofs.Picks.{refused_full}
use Rattle.snap_core.specs.Limited.{LimitedEvents}
use Rattle.snap_core.specs.declared.event.Event.{Event}
use Rattle.snap_core.specs.declared.history.EventRefusal.{EventRefusal}
use Rattle.snap_core.specs.declared.history.EventRefusal.TheVariants as reasons
use Rattle.snap_core.specs.Refusals.{refusal_of}
use Rattle.snap_text.specs.declared.fault.TextFault.{TextFault}
use Rattle.snap_text.specs.declared.fault.TextFault.TheVariants as faults
use Rattle.snap_format.specs.declared.refusal.ReadRefusal.{ReadRefusal}
use Rattle.snap_format.specs.declared.refusal.ReadRefusal.TheVariants as refusals
use Rattle.snap_text.specs.Fields.{Fields, event_of, row_event}
use Rattle.snap_format.specs.Layout.{is_header_row, is_stamped_header_row}
use Rattle.snap_format.specs.Faults.{event_in, events_in, fault_of, fault_with, fault_at, row_fault}
use Rattle.snap_format.specs.Texts.{RowsFault}
use Rattle.snap_format.specs.Stamping.{AnswersStamps, RefusesStamps}
use Rattle.snap_format.specs.Taking.{AnswersNumbered, FailsFields, Midway, RefusesFault, RefusesRow, RefusesRows, TakesRest, TakesRow}

-- ---- one record

pub row_short : (limit : Limit) (old : List Event) (r : Fields) → length r ≢ 4 → row_fault limit old r ≡ Some faults.Fields
unfolding row_fault
row_short limit old r h = let test : (length r == 4) ≡ false = grind (arith, nat_tests) in rw test refl

four_long : (r : Fields) (a p o d : List ℕ) → r ≡ a ∷ p ∷ o ∷ d ∷ [] → (length r == 4) ≡ true
four_long r a p o d e = rw e refl

pub row_full : (limit : Limit) (old : List Event) (r : Fields) (a p o d : List ℕ) → r ≡ a ∷ p ∷ o ∷ d ∷ [] → limit.events ≤ length old → row_fault limit old r ≡ Some faults.TooMany
unfolding row_fault
row_full limit old r a p o d e h =
    let test : nat_le limit.events (length old) ≡ true = le-leb _ _ h in
    rw (four_long r a p o d e, test) refl

pub row_fits : (limit : Limit) (old : List Event) (r : Fields) (a p o d : List ℕ) → r ≡ a ∷ p ∷ o ∷ d ∷ [] → length old < limit.events → row_fault limit old r ≡ fault_with limit old (event_of a p o d)
unfolding row_fault row_event
row_fits limit old r a p o d e h =
    let test : nat_le limit.events (length old) ≡ false = grind (arith, nat_tests) in
    rw (four_long r a p o d e, test, e) refl

pub event_is : (r : Fields) (a p o d : List ℕ) → r ≡ a ∷ p ∷ o ∷ d ∷ [] → row_event r ≡ event_of a p o d
unfolding row_event
event_is r a p o d e = rw e refl

pub row_fails : (limit : Limit) (place : ℕ) (old : List Event) (r : Fields) (a p o d : List ℕ) (e : ReadRefusal) → r ≡ a ∷ p ∷ o ∷ d ∷ [] → length old < limit.events
    → FailsFields place e (event_of a p o d) → RefusesRow limit place old r e
row_fails limit place old r a p o d (refusals.Text q f) e h g = (g.0, row_fits limit old r a p o d e h ∙ rw g.1 refl)
row_fails limit place old r a p o d refusals.Device e h g = g
row_fails limit place old r a p o d refusals.Memory e h g = tt

-- a record that spells an event has four fields
pub four_of : (r : Fields) (x : Event) → row_event r ≡ Ok x → (a : List ℕ) × (p : List ℕ) × (o : List ℕ) × (d : List ℕ) × (r ≡ a ∷ p ∷ o ∷ d ∷ []) × (event_of a p o d ≡ Ok x)
unfolding row_event
four_of [] x h = absurd cc
four_of (a ∷ []) x h = absurd cc
four_of (a ∷ p ∷ []) x h = absurd cc
four_of (a ∷ p ∷ o ∷ []) x h = absurd cc
four_of (a ∷ p ∷ o ∷ d ∷ []) x h = (a, p, o, d, refl, h)
four_of (a ∷ p ∷ o ∷ d ∷ e ∷ r) x h = absurd cc

-- the fault of a record that spells an event is the first refusal of that event
pub row_within : (limit : Limit) (old : List Event) (r : Fields) (x : Event) → row_event r ≡ Ok x → row_fault limit old r ≡ option_and_then fault_of (refusal_of limit old x)
row_within limit old r x h =
    let (a, p, o, d, is, spells) = four_of r x h in
    elim (cases_lt (length old) limit.events) [
      | inl lt ↦ row_fits limit old r a p o d is lt ∙ rw spells refl
      | inr le ↦ row_full limit old r a p o d is le ∙ rw (refused_full limit old x le) refl
    ]

-- what a refused event is answered as
pub refused_as : (place : ℕ) (first : Option EventRefusal) (why : EventRefusal) (e : ReadRefusal) → (first ≡ Some why) ⊎ (why ≡ reasons.Memory) → MatchOption (fault_of why) (e ≡ refusals.Memory) (λ f. e ≡ refusals.Text place f) → RefusesFault place (option_and_then fault_of first) e
refused_as place first why e reason answer = go (fault_of why) refl answer
  where
    go : (o : Option TextFault) → fault_of why ≡ o → MatchOption o (e ≡ refusals.Memory) (λ f. e ≡ refusals.Text place f) → RefusesFault place (option_and_then fault_of first) e
    go None none is = rw is tt
    go (Some f) some is = rw is (
      refl,
      elim reason [
        | inl g ↦ rw g some
        | inr g ↦ absurd (let h = sym some ∙ ap fault_of g in cc)
      ],
    )

pub row_refused : (limit : Limit) (place : ℕ) (old : List Event) (r : Fields) (x : Event) (why : EventRefusal) (e : ReadRefusal) → row_event r ≡ Ok x → (refusal_of limit old x ≡ Some why) ⊎ (why ≡ reasons.Memory)
    → MatchOption (fault_of why) (e ≡ refusals.Memory) (λ f. e ≡ refusals.Text place f) → RefusesRow limit place old r e
row_refused limit place old r x why e h reason answer = rw (row_within limit old r x h) (refused_as place (refusal_of limit old x) why e reason answer)

pub row_taken : (limit : Limit) (place : ℕ) (old new : List Event) (r : Fields) (x : Event) → row_event r ≡ Ok x → refusal_of limit old x ≡ None → new ≡ old ++ x ∷ [] → TakesRow limit place old new r (Ok tt)
row_taken limit place old new r x h none longer = (row_within limit old r x h ∙ rw none refl, x, h, longer)

pub full_fails : (b c : Bool) (x y : TextFault) (o : Option TextFault) → c ≡ true → cond (not b) (Some x) (cond c (Some y) o) ≡ None → ⊥
full_fails true true x y o e h = cc
full_fails true false x y o e h = cc
full_fails false true x y o e h = cc
full_fails false false x y o e h = cc

-- a record is taken only where the history is not full
pub has_room : (limit : Limit) (old : List Event) (r : Fields) → row_fault limit old r ≡ None → length old < limit.events
unfolding row_fault
has_room limit old r h = elim (cases_lt (length old) limit.events) [
  | inl lt ↦ lt
  | inr le ↦ absurd (full_fails (length r == 4) (nat_le limit.events (length old)) faults.Fields faults.TooMany (fault_with limit old (row_event r)) (le-leb _ _ le) h)
]

-- ---- one record after the other

pub at_drop : (xs : List Fields) (i : ℕ) (r : Fields) (rest : List Fields) → drop i xs ≡ r ∷ rest → (i < length xs) × (get_or xs i [] ≡ r) × (drop (i + 1) xs ≡ rest)
at_drop xs i r rest e = elim (cases_lt i (length xs)) [
  | inl lt ↦
      let here = drop-cons xs i [] lt in
      let both : get_or xs i [] ∷ drop (suc i) xs ≡ r ∷ rest = sym here ∙ e in
      let next : drop (i + 1) xs ≡ rest = rw add-one (cc) in
      (lt, cc, next)
  | inr le ↦ let none = drop_all i xs le in absurd (cc)
]

pub begun : (limit : Limit) (rows : List Fields) (Left : List Fields → Type 0) (head : Fields) (events : List Event) → (rest : List Fields) × (rows ≡ head ∷ rest) × Left rest → is_header_row head ≡ true → events ≡ [] → Midway limit rows Left events 0
begun limit rows Left head events (rest, e, s) h none = record {
  head = head;
  later = rest;
  whole = e;
  header = h;
  left = s;
  within = omega arith;
  fine = λ j lt. absurd (omega arith);
  history = none;
  count = rw none refl;
  room = omega arith;
}

pub done : (limit : Limit) (rows : List Fields) (Left : List Fields → Type 0) (h : LimitedEvents) (i : ℕ) (m : Midway limit rows Left h.events i) → drop i m.later ≡ [] → h.limit ≡ limit → TakesRest limit rows h (Ok tt)
done limit rows Left h i m e same =
    let len : length m.later ≤ i = omega (arith, length-drop i m.later, ap length e) in
    let all : take i m.later ≡ m.later = take_all i m.later len in
    let count : length h.events ≡ length m.later = omega (arith, m.count, m.within) in
    rw m.whole ((inl (m.header, λ j lt. m.fine j (omega (arith, m.within)), rw all at m.history), same), inl (m.header, ap (range_with_len 2) count))

fault_here : (limit : Limit) (rows : List Fields) (Left : List Fields → Type 0) (events : List Event) (i : ℕ) (m : Midway limit rows Left events i) (row : Fields) → get_or m.later i [] ≡ row
    → fault_at limit m.later i ≡ row_fault limit events row
fault_here limit rows Left events i m row e = rw (e, ← m.history) refl

pub stopped : (limit : Limit) (rows : List Fields) (Left : List Fields → Type 0) (events : List Event) (i : ℕ) (m : Midway limit rows Left events i) (row : Fields) (rest : List Fields) (e : ReadRefusal)
    → drop i m.later ≡ row ∷ rest → RefusesRow limit (i + 2) events row e → RefusesRows limit rows e
stopped limit rows Left events i m row rest (refusals.Text p f) d t =
    let (lt, here, next) = at_drop m.later i row rest d in
    rw m.whole (inr (inl (m.header, i, t.0, record { place = lt; fault = fault_here limit rows Left events i m row here ∙ t.1; first = m.fine })))
stopped limit rows Left events i m row rest refusals.Device d t = t
stopped limit rows Left events i m row rest refusals.Memory d t = tt

fine_more : (limit : Limit) (later : List Fields) (i : ℕ) → ((j : ℕ) → j < i → fault_at limit later j ≡ None) → fault_at limit later i ≡ None → (j : ℕ) → j < i + 1 → fault_at limit later j ≡ None
fine_more limit later i h here = below_more (λ j. fault_at limit later j ≡ None) i h here

pub more : (limit : Limit) (rows : List Fields) (A B : List Fields → Type 0) (old new : List Event) (i : ℕ) (m : Midway limit rows A old i) (row : Fields)
    → (rest : List Fields) × (drop i m.later ≡ row ∷ rest) × B rest → TakesRow limit (i + 2) old new row (Ok tt) → Midway limit rows B new (i + 1)
more limit rows A B old new i m row (rest, d, s) (none, x, is, longer) =
    let (lt, here, next) = at_drop m.later i row rest d in
    let taken : take (i + 1) m.later ≡ take i m.later ++ row ∷ [] = rw (add-one, take-suc m.later i [] lt, here) refl in
    let events : new ≡ events_in (take (i + 1) m.later) = rw (longer, taken, filter_map-append (λ r. event_in (row_event r)) (take i m.later) (row ∷ []), m.history, is) refl in
    record {
      head = m.head;
      later = m.later;
      whole = m.whole;
      header = m.header;
      left = rw next s;
      within = omega arith;
      fine = fine_more limit m.later i m.fine (fault_here limit rows A old i m row here ∙ none);
      history = events;
      count = rw longer (omega (arith, length-append old (x ∷ []), m.count));
      room = omega (arith, has_room limit old row none, m.count);
    }

pub no_rows : (limit : Limit) (rows : List Fields) → rows ≡ [] → RowsFault limit rows 1 faults.Header
no_rows limit rows e = rw e (refl, refl)

pub no_header : (limit : Limit) (rows : List Fields) (head : Fields) (rest : List Fields) → rows ≡ head ∷ rest → is_header_row head ≡ false → is_stamped_header_row head ≡ false → RowsFault limit rows 1 faults.Header
no_header limit rows head rest e h s = rw e (inl (h, s, refl, refl))

-- the answer to the records under the header of a text with stamps
pub with_stamps : (limit : Limit) (rows : List Fields) (head : Fields) (rest : List Fields) (events : LimitedEvents) (records : Vec ℕ) → rows ≡ head ∷ rest → is_stamped_header_row head ≡ true → AnswersStamps limit rest (Ok (events, records))
    → AnswersNumbered limit rows (Ok (events, Some records))
with_stamps limit rows head rest events records e s a = rw e ((inr (s, a.0), a.2), inr (s, a.0.sorted, a.0.order, a.1))

pub without_stamps : (limit : Limit) (rows : List Fields) (head : Fields) (rest : List Fields) (e : ReadRefusal) → rows ≡ head ∷ rest → is_stamped_header_row head ≡ true → RefusesStamps limit rest e → RefusesRows limit rows e
without_stamps limit rows head rest (refusals.Text p f) e s a = rw e (inr (inr (s, a)))
without_stamps limit rows head rest refusals.Device e s a = a
without_stamps limit rows head rest refusals.Memory e s a = tt
