-- What a recording says, once a line of it was read, or the first event that waits was given to the judge.
use Rattle.std.proofs.Common.{◌≡◌, ◌≤◌, ◌<◌, ◌+◌, ◌⊎◌, ℕ, Bool, true, false, List, [], ◌∷◌, ◌++◌, length, length-append, arith, append_assoc, append-nil, map, flat_map, Option, Some, None, Ok, refl, sym, ap, ◌∙◌, subst, inl, inr}
use Rattle.std.specs.List.{range_with_len}
use Rattle.std.specs.List.Sorted.{IsPermutation}
use Rattle.std.proofs.lemmas.Bool.{false≢true}
use Rattle.std.proofs.lemmas.List.{map-append}
use Rattle.std.proofs.lemmas.List.Elements.{All-append, All-cons, All-nil}
use Rattle.std.proofs.lemmas.List.FromFn.{map-range_with_len_more}
use Rattle.std.proofs.lemmas.List.Sorted.{IsPermutation-refl}
use Rattle.snap_core.specs.declared.event.Event.{Event}
use Rattle.snap_format.specs.Rows.{rows_of}
use Rattle.snap_format.specs.Stamps.{stamped_in, stamped_row}
use Rattle.snap_format.specs.declared.stamped.Stamped.{Stamped as StampedEvent}
use Rattle.snap_text.specs.Fields.{Fields, row_event}
use Rattle.snap_windows.specs.Taken.{HasTaken}
use Rattle.snap_follow.specs.declared.follow.Follow.{Follow}
use Rattle.snap_follow.specs.declared.form.Form.{Form}
use Rattle.snap_follow.specs.declared.form.Form.TheVariants.{Plain, Stamped}
use Rattle.snap_follow.specs.declared.span.Place.{Place}
use Rattle.snap_follow.specs.declared.waiting.Turn.{Turn}
use Rattle.snap_follow.specs.Followed.{AllSpell, AreWaiting, IsFormOf, IsLate, IsNext, IsPlain, IsPlaceOf, ReadsLine, SaysSoFar, TakesFirst}
use Rattle.snap_follow.specs.Misses.{MissesNext}
use Rattle.snap_follow.specs.Spans.{HasOneMore, stop}
use Rattle.snap_follow.specs.Turns.{IsStamped, RiseFrom, SpellsIn, after, after_given, events_of, is_header_of, place_in, stamps_of, turn_in}
use Rattle.snap_follow.specs.inside.Counts.{CountsOpen}
use Rattle.snap_follow.specs.inside.Headers.{IsAgreed}
use Rattle.snap_follow.specs.inside.Waits.{IsAdded, TakesTurn}
use Rattle.snap_follow.proofs.Reading.{KeepsJudge, KeepsRule, ReadsNone, form_as, none_reads, place_next, place_stays, reads_none, reads_one, reads_then, rows_more, says_as, waits_as}
use Rattle.snap_follow.proofs.Rising.{after_both, rise_added, stamped_more, turns_added}

-- the same header and the same that waits, at the same place
abbrev pub IsSame : Follow → Follow → Type 0
IsSame f g = (g.headed ≡ f.headed) × (g.form ≡ f.form) × (g.waiting ≡ f.waiting) × (g.given ≡ f.given) × (g.place ≡ f.place)

-- a line without a record
pub nothing_more : (f g : Follow) (line : List ℕ) → KeepsJudge f g → IsSame f g → rows_of line ≡ [] → ReadsLine f g line
nothing_more f g line keeps same none = none_reads f g (line ∷ []) (reads_none f g (line ∷ []) keeps (λ form texts lines earlier here is all says waits place. (
  form,
  form_as f g form texts same.1 same.0 same.3 is,
  all,
  says_as f g form (length texts) lines (lines ++ line ∷ []) (here ++ f.waiting.turns.items) (here ++ g.waiting.turns.items) same.0 (rows_more lines line ∙ ap (λ z. flat_map rows_of lines ++ z) none ∙ append-nil (flat_map rows_of lines)) (ap (λ z. here ++ z.turns.items) same.2) says,
  waits_as form f g (earlier ++ here) same.2 same.3 waits,
  place_stays f g texts lines line same.4 none place,
)))

-- nothing waits, so nothing was taken
pub nothing_taken : (f g : Follow) → KeepsJudge f g → IsSame f g → TakesFirst f g
nothing_taken f g keeps same = none_reads f g [] (reads_none f g [] keeps (λ form texts lines earlier here is all says waits place. (
  form,
  form_as f g form texts same.1 same.0 same.3 is,
  all,
  says_as f g form (length texts) lines (lines ++ []) (here ++ f.waiting.turns.items) (here ++ g.waiting.turns.items) same.0 (ap (flat_map rows_of) (append-nil lines)) (ap (λ z. here ++ z.turns.items) same.2) says,
  waits_as form f g (earlier ++ here) same.2 same.3 waits,
  subst (IsPlaceOf g.place texts) (sym (append-nil lines)) (subst (λ z. IsPlaceOf z texts lines) (sym same.4) place),
)))

-- ---- the header

some_ahead : (t : Turn) (turns : List Turn) → t ∷ turns ≡ [] → ⊥
some_ahead t turns none = omega (arith, ap length none)

pub both_none : (xs ys : List Turn) → xs ++ ys ≡ [] → (xs ≡ []) × (ys ≡ [])
both_none [] ys none = (refl, none)
both_none (x ∷ xs) ys none = absurd (some_ahead x (xs ++ ys) none)

said_nothing : (f : Follow) (form : Form) (n : ℕ) (lines : List (List ℕ)) (turns : List Turn) → f.headed ≡ false → SaysSoFar f form n lines turns → (flat_map rows_of lines ≡ []) × (turns ≡ [])
said_nothing f form n lines turns old (inl (unheaded, none, nothing)) = (none, nothing)
said_nothing f form n lines turns old (inr (headed, spells)) = absurd (false≢true (sym old ∙ headed))

form_kept : (f : Follow) (was form : Form) (texts : List (List (List ℕ))) → IsFormOf f was texts → IsAgreed f.form form → (was ≡ form) ⊎ ((texts ≡ []) × (f.given ≡ None))
form_kept f was form texts (inl (is, some)) agreed = inl (subst (λ z. IsAgreed z form) is agreed)
form_kept f was form texts (inr (is, unheaded, none, given)) agreed = inr (none, given)

texts_as : (was form : Form) (texts : List (List (List ℕ))) (earlier : List Turn) → (was ≡ form) ⊎ (texts ≡ []) → AllSpell was 0 texts earlier → AllSpell form 0 texts earlier
texts_as was form texts earlier (inl same) all = subst (λ z. AllSpell z 0 texts earlier) same all
texts_as was form texts earlier (inr none) all = subst (λ z. AllSpell form 0 z earlier) (sym none) (subst (λ z. AllSpell was 0 z earlier) none all)

waits_none : (form : Form) (g : Follow) (taken : List Turn) → taken ≡ [] → g.waiting.turns.items ≡ [] → g.given ≡ None → AreWaiting form g taken
waits_none Plain g taken none nothing given = nothing
waits_none Stamped g taken none nothing given = (subst (λ z. RiseFrom 0 (stamps_of z)) (sym (ap (λ z. z ++ g.waiting.turns.items) none ∙ nothing)) tt, ap after_given given ∙ ap (λ z. after 0 (stamps_of z)) (sym none))

spells_nothing : (form : Form) (n : ℕ) → SpellsIn form n [] []
spells_nothing Plain n = (refl, refl)
spells_nothing Stamped n = (All-nil IsStamped, IsPermutation-refl [])

header_waits : (f g : Follow) (was form : Form) (texts : List (List (List ℕ))) (earlier here : List Turn) → (was ≡ form) ⊎ ((texts ≡ []) × (f.given ≡ None)) → g.waiting ≡ f.waiting → g.given ≡ f.given → here ++ f.waiting.turns.items ≡ [] → AllSpell was 0 texts earlier → AreWaiting was f (earlier ++ here) → AreWaiting form g (earlier ++ here)
header_waits f g was form texts earlier here (inl same) waiting given none all waits = subst (λ z. AreWaiting z g (earlier ++ here)) same (waits_as was f g (earlier ++ here) waiting given waits)
header_waits f g was form texts earlier here (inr (empty, nothing)) waiting given none all waits =
    let both = both_none here f.waiting.turns.items none in
    let first : earlier ≡ [] = subst (λ z. AllSpell was 0 z earlier) empty all in
    waits_none form g (earlier ++ here) (ap (λ z. z ++ here) first ∙ both.0) (ap (λ z. z.turns.items) waiting ∙ both.1) (given ∙ nothing)

texts_kept : (f : Follow) (was form : Form) (texts : List (List (List ℕ))) → (was ≡ form) ⊎ ((texts ≡ []) × (f.given ≡ None)) → (was ≡ form) ⊎ (texts ≡ [])
texts_kept f was form texts (inl same) = inl same
texts_kept f was form texts (inr (none, given)) = inr none

pub header_read : (f g : Follow) (line : List ℕ) (first : Fields) (form : Form) → f.headed ≡ false → g.headed ≡ true → g.form ≡ Some form → IsAgreed f.form form → g.waiting ≡ f.waiting → g.given ≡ f.given → KeepsJudge f g → IsNext f.place g.place → rows_of line ≡ first ∷ [] → is_header_of form first ≡ true → ReadsLine f g line
header_read f g line first form old new form_is agreed waiting given keeps next rows header = none_reads f g (line ∷ []) (reads_none f g (line ∷ []) keeps (λ was texts lines earlier here is all says waits place.
    let none = said_nothing f was (length texts) lines (here ++ f.waiting.turns.items) old says in
    let kept = form_kept f was form texts is agreed in
    let turns : here ++ g.waiting.turns.items ≡ [] = ap (λ z. here ++ z.turns.items) waiting ∙ none.1 in (
      form,
      inl (form_is, inl new),
      texts_as was form texts earlier (texts_kept f was form texts kept) all,
      inr (
        new,
        record {
          head = first;
          later = [];
          whole = rows_more lines line ∙ ap (λ z. z ++ rows_of line) none.0 ∙ rows;
          header = header;
          spelled = subst (SpellsIn form (length texts) []) (sym turns) (spells_nothing form (length texts));
        },
      ),
      header_waits f g was form texts earlier here kept waiting given none.1 all waits,
      place_next f g texts lines line first next rows place,
    )))

-- ---- an event

-- the place of the record that was read last
place_same : (p : Place) (texts : List (List (List ℕ))) (lines : List (List ℕ)) (count : ℕ) → IsPlaceOf p texts lines → length (flat_map rows_of lines) ≡ count → p ≡ place_in (length texts) count
place_same p texts lines count h is = λ i. record { text = h.text_is i; number = (h.record_is ∙ ap stop is) i }

count_rows : (lines : List (List ℕ)) (line : List ℕ) (head row : Fields) (later : List Fields) → flat_map rows_of lines ≡ head ∷ later → rows_of line ≡ row ∷ [] → length (flat_map rows_of (lines ++ line ∷ [])) ≡ 2 + length later
count_rows lines line head row later whole rows = omega (arith, ap length (rows_more lines line ∙ ap (λ z. z ++ rows_of line) whole ∙ ap (λ z. (head ∷ later) ++ z) rows), length-append (head ∷ later) (row ∷ []))

-- without stamps
plain_says : (n : ℕ) (later : List Fields) (row : Fields) (here : List Turn) (turn : Turn) → row_event row ≡ Ok turn.event → turn.place ≡ place_in n (2 + length later) → SpellsIn Plain n later here → SpellsIn Plain n (later ++ row ∷ []) (here ++ turn ∷ [])
plain_says n later row here turn event place says = (
  map-append row_event later (row ∷ []) ∙ ap (λ z. z ++ row_event row ∷ []) says.0 ∙ ap (λ z. map Ok (events_of here) ++ z ∷ []) event ∙ sym (map-append Ok (events_of here) (turn.event ∷ [])) ∙ ap (map Ok) (sym (map-append (λ t. t.event) here (turn ∷ []))),
  map-append (λ t. t.place) here (turn ∷ []) ∙ ap (λ z. z ++ turn.place ∷ []) says.1 ∙ ap (λ z. map (place_in n) (range_with_len 2 (length later)) ++ z ∷ []) place
      ∙ sym (map-range_with_len_more (place_in n) 2 (length later) (2 + length later) refl) ∙ ap (λ z. map (place_in n) (range_with_len 2 z)) (sym (length-append later (row ∷ []))),
)

plain_step : (f g : Follow) (line : List ℕ) (row : Fields) (turn : Turn) → f.headed ≡ true → IsPlain f → g.headed ≡ f.headed → g.form ≡ f.form → g.waiting ≡ f.waiting → g.given ≡ f.given → rows_of line ≡ row ∷ [] → row_event row ≡ Ok turn.event → turn.place ≡ g.place → IsNext f.place g.place →
    (form : Form) (texts : List (List (List ℕ))) (lines : List (List ℕ)) (earlier here : List Turn) → IsFormOf f form texts → SaysSoFar f form (length texts) lines (here ++ f.waiting.turns.items) → AreWaiting form f (earlier ++ here) → IsPlaceOf f.place texts lines →
    IsFormOf g form texts × SaysSoFar g form (length texts) (lines ++ line ∷ []) ((here ++ turn ∷ []) ++ g.waiting.turns.items) × AreWaiting form g (earlier ++ (here ++ turn ∷ [])) × IsPlaceOf g.place texts (lines ++ line ∷ [])
plain_step f g line row turn old plain headed form_same waiting given rows event turn_place next Stamped texts lines earlier here (inl (is, some)) says waits place = absurd (plain is)
plain_step f g line row turn old plain headed form_same waiting given rows event turn_place next Stamped texts lines earlier here (inr (is, unheaded, empty, rest)) says waits place = absurd (false≢true (sym unheaded ∙ old))
plain_step f g line row turn old plain headed form_same waiting given rows event turn_place next Plain texts lines earlier here is (inl (unheaded, none, nothing)) waits place = absurd (false≢true (sym unheaded ∙ old))
plain_step f g line row turn old plain headed form_same waiting given rows event turn_place next Plain texts lines earlier here is (inr (h, s)) waits place = (
  form_as f g Plain texts form_same headed given is,
  inr (
    headed ∙ old,
    record {
      head = s.head;
      later = s.later ++ row ∷ [];
      whole = rows_more lines line ∙ ap (λ z. z ++ rows_of line) s.whole ∙ ap (λ z. (s.head ∷ s.later) ++ z) rows;
      header = s.header;
      spelled = subst (SpellsIn Plain (length texts) (s.later ++ row ∷ [])) (sym all) (plain_says (length texts) s.later row here turn event (turn_place ∙ place_same g.place texts (lines ++ line ∷ []) (2 + length s.later) now (count_rows lines line s.head row s.later s.whole rows))
          (subst (SpellsIn Plain (length texts) s.later) (ap (λ z. here ++ z) waits ∙ append-nil here) s.spelled));
    },
  ),
  nothing,
  now,
)
  where
    nothing : g.waiting.turns.items ≡ []
    nothing = ap (λ z. z.turns.items) waiting ∙ waits

    all : (here ++ turn ∷ []) ++ g.waiting.turns.items ≡ here ++ turn ∷ []
    all = ap (λ z. (here ++ turn ∷ []) ++ z) nothing ∙ append-nil (here ++ turn ∷ [])

    now : IsPlaceOf g.place texts (lines ++ line ∷ [])
    now = place_next f g texts lines line row next rows place

pub event_read : (f g : Follow) (line : List ℕ) (row : Fields) (x : Event) → f.headed ≡ true → IsPlain f → g.headed ≡ f.headed → g.form ≡ f.form → g.waiting ≡ f.waiting → g.given ≡ f.given → rows_of line ≡ row ∷ [] → row_event row ≡ Ok x →
    KeepsRule f g → IsNext f.place g.place → CountsOpen f.open_calls x g.open_calls → HasOneMore f.span x g.place g.span → MissesNext f.judge x f.span.missed g.place g.span.missed → ((before since : List Event) → HasTaken f.judge before since → HasTaken g.judge before (since ++ x ∷ [])) → ReadsLine f g line
event_read f g line row x old plain headed form_same waiting given rows event keeps next counts one misses taken =
    reads_one f g (record { at = 0; place = g.place; event = x }) (line ∷ []) keeps counts one misses taken
    (λ form texts lines earlier here is all says waits place. plain_step f g line row (record { at = 0; place = g.place; event = x }) old plain headed form_same waiting given rows event refl next form texts lines earlier here is says waits place)

-- with a stamp the event waits
in_time : (given : Option ℕ) (at : ℕ) → ¬ IsLate given at → after_given given ≤ at
in_time None at h = omega arith
in_time (Some last) at h = omega (arith, h)

other_form : (x : Option Form) → x ≡ Some Stamped → x ≡ Some Plain → ⊥
other_form x one two = different (sym one ∙ two)
  where
    is_stamped : Option Form → Bool
    is_stamped None = false
    is_stamped (Some Plain) = false
    is_stamped (Some Stamped) = true

    different : Some Stamped ≡ Some Plain → ⊥
    different is = false≢true (sym (ap is_stamped is))

one_stamped : (row : Fields) → IsStamped row → (k : ℕ) (d : Fields) → k < 1 → IsStamped row
one_stamped row is k d l = is

stamped_says : (n : ℕ) (later : List Fields) (row : Fields) (here waiting new : List Turn) (turn : Turn) → stamped_row row ≡ Ok (turn.at, turn.event) → turn.place ≡ place_in n (2 + length later) → SpellsIn Stamped n later (here ++ waiting) →
    IsPermutation (map (turn_in n) (stamped_in later) ++ turn ∷ []) (here ++ new) → SpellsIn Stamped n (later ++ row ∷ []) (here ++ new)
stamped_says n later row here waiting new turn is place says same = (
  All-append IsStamped later (row ∷ []) says.0 (All-cons IsStamped row [] ((turn.at, turn.event), is) (All-nil IsStamped)),
  subst (λ z. IsPermutation z (here ++ new)) (sym all) same,
)
  where
    last : StampedEvent
    last = record { at = turn.at; place = 2 + length later; event = turn.event }

    last_is : turn_in n last ≡ turn
    last_is = ap (λ z. record { at = turn.at; place = z; event = turn.event }) (sym place)

    all : map (turn_in n) (stamped_in (later ++ row ∷ [])) ≡ map (turn_in n) (stamped_in later) ++ turn ∷ []
    all = ap (map (turn_in n)) (stamped_more 2 (2 + length later) later row (turn.at, turn.event) is refl) ∙ map-append (turn_in n) (stamped_in later) (last ∷ []) ∙ ap (λ z. map (turn_in n) (stamped_in later) ++ z ∷ []) last_is

stamped_step : (f g b : Follow) (line : List ℕ) (row : Fields) (at : ℕ) (x : Event) → f.headed ≡ true → f.form ≡ Some Stamped → g.headed ≡ f.headed → g.form ≡ f.form → g.waiting ≡ f.waiting → g.given ≡ f.given → rows_of line ≡ row ∷ [] → stamped_row row ≡ Ok (at, x) → IsNext f.place g.place → IsAdded g at x b →
    (form : Form) (texts : List (List (List ℕ))) (lines : List (List ℕ)) (earlier here : List Turn) → IsFormOf f form texts → AllSpell form 0 texts earlier → SaysSoFar f form (length texts) lines (here ++ f.waiting.turns.items) → AreWaiting form f (earlier ++ here) → IsPlaceOf f.place texts lines →
    (new : Form) × IsFormOf b new texts × AllSpell new 0 texts earlier × SaysSoFar b new (length texts) (lines ++ line ∷ []) (here ++ b.waiting.turns.items) × AreWaiting new b (earlier ++ here) × IsPlaceOf b.place texts (lines ++ line ∷ [])
stamped_step f g b line row at x old stamped headed form_same waiting given rows event next added Plain texts lines earlier here (inl (is, some)) all says waits place = absurd (other_form f.form stamped is)
stamped_step f g b line row at x old stamped headed form_same waiting given rows event next added Plain texts lines earlier here (inr (is, unheaded, empty, rest)) all says waits place = absurd (false≢true (sym unheaded ∙ old))
stamped_step f g b line row at x old stamped headed form_same waiting given rows event next added Stamped texts lines earlier here is all (inl (unheaded, none, nothing)) waits place = absurd (false≢true (sym unheaded ∙ old))
stamped_step f g b line row at x old stamped headed form_same waiting given rows event next added Stamped texts lines earlier here is all (inr (h, s)) waits place = (
  Stamped,
  form_as f b Stamped texts (added.same.1 ∙ form_same) (added.same.2 ∙ headed) (added.same.4 ∙ given) is,
  all,
  inr (
    added.same.2 ∙ headed ∙ old,
    record {
      head = s.head;
      later = s.later ++ row ∷ [];
      whole = rows_more lines line ∙ ap (λ z. z ++ rows_of line) s.whole ∙ ap (λ z. (s.head ∷ s.later) ++ z) rows;
      header = s.header;
      spelled = stamped_says (length texts) s.later row here g.waiting.turns.items b.waiting.turns.items turn event (place_same g.place texts (lines ++ line ∷ []) (2 + length s.later) now (count_rows lines line s.head row s.later s.whole rows)) spelled
          (turns_added (map (turn_in (length texts)) (stamped_in s.later)) here g.waiting.turns.items b.waiting.turns.items turn spelled.1 added.adds);
    },
  ),
  (
    rise_added (earlier ++ here) g.waiting.turns.items b.waiting.turns.items turn (subst (λ z. RiseFrom 0 (stamps_of ((earlier ++ here) ++ z.turns.items))) (sym waiting) waits.0) low added.adds,
    ap after_given (added.same.4 ∙ given) ∙ waits.1,
  ),
  subst (λ z. IsPlaceOf z texts (lines ++ line ∷ [])) (sym added.same.3) now,
)
  where
    turn : Turn
    turn = record { at = at; place = g.place; event = x }

    now : IsPlaceOf g.place texts (lines ++ line ∷ [])
    now = place_next f g texts lines line row next rows place

    spelled : SpellsIn Stamped (length texts) s.later (here ++ g.waiting.turns.items)
    spelled = subst (λ z. SpellsIn Stamped (length texts) s.later (here ++ z.turns.items)) (sym waiting) s.spelled

    low : after 0 (stamps_of (earlier ++ here)) ≤ at
    low = subst (λ z. z ≤ at) (ap after_given given ∙ waits.1) (in_time g.given at added.in_time)

pub stamped_read : (f g b : Follow) (line : List ℕ) (row : Fields) (at : ℕ) (x : Event) → f.headed ≡ true → f.form ≡ Some Stamped → g.headed ≡ f.headed → g.form ≡ f.form → g.waiting ≡ f.waiting → g.given ≡ f.given → KeepsJudge f g → rows_of line ≡ row ∷ [] → stamped_row row ≡ Ok (at, x) → IsNext f.place g.place → IsAdded g at x b → ReadsNone f b (line ∷ [])
stamped_read f g b line row at x old stamped headed form_same waiting given keeps rows event next added =
    reads_none f b (line ∷ []) (added.same.0 ∙ keeps.0, added.same.7 ∙ keeps.1, added.same.5 ∙ keeps.2, added.same.6 ∙ keeps.3)
    (stamped_step f g b line row at x old stamped headed form_same waiting given rows event next added)

-- and the first of those that wait may go to the judge
pub turn_read : (f g new : Follow) (line : List ℕ) (row : Fields) (at : ℕ) (x : Event) → f.headed ≡ true → f.form ≡ Some Stamped → g.headed ≡ f.headed → g.form ≡ f.form → g.waiting ≡ f.waiting → g.given ≡ f.given → KeepsJudge f g → rows_of line ≡ row ∷ [] → stamped_row row ≡ Ok (at, x) → IsNext f.place g.place → TakesTurn g at x new → ReadsLine f new line
turn_read f g new line row at x old stamped headed form_same waiting given keeps rows event next (b, added, inl same) =
    subst (λ z. ReadsLine f z line) (sym same) (none_reads f b (line ∷ []) (stamped_read f g b line row at x old stamped headed form_same waiting given keeps rows event next added))
turn_read f g new line row at x old stamped headed form_same waiting given keeps rows event next (b, added, inr takes) =
    reads_then f b new (line ∷ []) (stamped_read f g b line row at x old stamped headed form_same waiting given keeps rows event next added) takes

-- ---- the first event that waits

first_step : (f g : Follow) (turn : Turn) → g.headed ≡ f.headed → g.form ≡ f.form → g.place ≡ f.place → f.waiting.turns.items ≡ turn ∷ g.waiting.turns.items → g.given ≡ Some turn.at →
    (form : Form) (texts : List (List (List ℕ))) (lines : List (List ℕ)) (earlier here : List Turn) → IsFormOf f form texts → SaysSoFar f form (length texts) lines (here ++ f.waiting.turns.items) → AreWaiting form f (earlier ++ here) → IsPlaceOf f.place texts lines →
    IsFormOf g form texts × SaysSoFar g form (length texts) (lines ++ []) ((here ++ turn ∷ []) ++ g.waiting.turns.items) × AreWaiting form g (earlier ++ (here ++ turn ∷ [])) × IsPlaceOf g.place texts (lines ++ [])
first_step f g turn headed form_same place_is first given Plain texts lines earlier here is says waits place = absurd (some_ahead turn g.waiting.turns.items (sym first ∙ waits))
first_step f g turn headed form_same place_is first given Stamped texts lines earlier here is says waits place = (
  go is says,
  says_as f g Stamped (length texts) lines (lines ++ []) (here ++ f.waiting.turns.items) ((here ++ turn ∷ []) ++ g.waiting.turns.items) headed (ap (flat_map rows_of) (append-nil lines)) (append_assoc here (turn ∷ []) g.waiting.turns.items ∙ ap (λ z. here ++ z) (sym first)) says,
  (
    subst (λ z. RiseFrom 0 (stamps_of z)) (sym moved) waits.0,
    ap after_given given ∙ sym last,
  ),
  subst (IsPlaceOf g.place texts) (sym (append-nil lines)) (subst (λ z. IsPlaceOf z texts lines) (sym place_is) place),
)
  where
    go : IsFormOf f Stamped texts → SaysSoFar f Stamped (length texts) lines (here ++ f.waiting.turns.items) → IsFormOf g Stamped texts
    go (inl (is, inl here)) says = inl (form_same ∙ is, inl (headed ∙ here))
    go (inl (is, inr some)) says = inl (form_same ∙ is, inr some)
    go (inr (is, unheaded, empty, rest)) (inl (u, none, nothing)) = absurd (some_ahead turn g.waiting.turns.items (sym first ∙ (both_none here f.waiting.turns.items nothing).1))
    go (inr (is, unheaded, empty, rest)) (inr (h, s)) = absurd (false≢true (sym unheaded ∙ h))

    moved : (earlier ++ (here ++ turn ∷ [])) ++ g.waiting.turns.items ≡ (earlier ++ here) ++ f.waiting.turns.items
    moved = ap (λ z. z ++ g.waiting.turns.items) (sym (append_assoc earlier here (turn ∷ []))) ∙ append_assoc (earlier ++ here) (turn ∷ []) g.waiting.turns.items ∙ ap (λ z. (earlier ++ here) ++ z) (sym first)

    last : after 0 (stamps_of (earlier ++ (here ++ turn ∷ []))) ≡ turn.at + 1
    last = ap (λ z. after 0 (stamps_of z)) (sym (append_assoc earlier here (turn ∷ []))) ∙ ap (after 0) (map-append (λ t. t.at) (earlier ++ here) (turn ∷ [])) ∙ after_both 0 (stamps_of (earlier ++ here)) (turn.at ∷ [])

pub first_taken : (f g : Follow) (turn : Turn) → g.headed ≡ f.headed → g.form ≡ f.form → g.place ≡ f.place → f.waiting.turns.items ≡ turn ∷ g.waiting.turns.items → g.given ≡ Some turn.at →
    KeepsRule f g → CountsOpen f.open_calls turn.event g.open_calls → HasOneMore f.span turn.event turn.place g.span → MissesNext f.judge turn.event f.span.missed turn.place g.span.missed → ((before since : List Event) → HasTaken f.judge before since → HasTaken g.judge before (since ++ turn.event ∷ [])) → TakesFirst f g
first_taken f g turn headed form_same place_is first given keeps counts one misses taken =
    reads_one f g turn [] keeps counts one misses taken (λ form texts lines earlier here is all says waits place. first_step f g turn headed form_same place_is first given form texts lines earlier here is says waits place)
