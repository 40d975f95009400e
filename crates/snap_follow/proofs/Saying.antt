-- Lines say one list of events.
use Rattle.std.proofs.Common.{◌≡◌, ◌≢◌, ◌≤◌, ◌<◌, ◌⊎◌, ◌++◌, ◌+◌, ◌∙◌, ℕ, Bool, true, false, List, [], ◌∷◌, Option, Some, None, Ok, length, length-append, append_assoc, append-nil, flat_map, map, ap, subst, sym, refl, inl, inr, arith}
use Rattle.std.proofs.lemmas.Bool.{false≢true}
use Rattle.std.proofs.lemmas.List.{length-map, map-append}
use Rattle.snap_core.specs.declared.limit.Limit.{Limit}
use Rattle.snap_core.specs.declared.event.Event.{Event}
use Rattle.snap_core.specs.Bounded.{IsHistoryBy}
use Rattle.snap_format.specs.Layout.{is_header_row, is_stamped_header_row}
use Rattle.snap_format.specs.Rows.{rows_of}
use Rattle.snap_text.specs.Fields.{Fields, row_event}
use Rattle.snap_theory.proofs.Sides.{history_front}
use Rattle.snap_follow.specs.declared.follow.Follow.{Follow}
use Rattle.snap_follow.specs.declared.form.Form.{Form}
use Rattle.snap_follow.specs.declared.form.Form.TheVariants.{Plain, Stamped}
use Rattle.snap_follow.specs.declared.waiting.Turn.{Turn}
use Rattle.snap_follow.specs.Followed.{AllSpell, AreEvents, AreWaiting, GoesOn, HasRead, IsFormOf, IsPlain, SaysSoFar, StopsAt}
use Rattle.snap_follow.specs.Turns.{Spells, events_of}
use Rattle.snap_follow.specs.inside.Courses.{HaveStamps}
use Rattle.snap_follow.proofs.Cutting.{both, first, others}
use Rattle.snap_follow.proofs.Refusing.{event_or}
use Rattle.snap_follow.proofs.Steps.{both_none}

none_ahead : {A : Type 0} (x : A) (xs : List A) → [] ≡ x ∷ xs → ⊥
none_ahead x xs is = omega (arith, ap length is)

-- an event that a record spells is one
same_event : (row : Fields) (x y : Event) → row_event row ≡ Ok x → row_event row ≡ Ok y → x ≡ y
same_event row x y one two = sym (ap (event_or x) one) ∙ ap (event_or x) two

-- of one list of answers, one list of events is a front of the other
front_said : (xs : List Event) (rows : List Fields) (ys : List Event) (front : List Fields) → map row_event front ≡ map Ok xs → map row_event (front ++ rows) ≡ map Ok ys →
    (more : List Event) × (ys ≡ xs ++ more) × (map row_event rows ≡ map Ok more)
front_said [] rows ys [] one two = (ys, refl, two)
front_said [] rows ys (f ∷ front) one two = absurd (none_ahead _ _ (sym one))
front_said (x ∷ xs) rows ys [] one two = absurd (none_ahead _ _ one)
front_said (x ∷ xs) rows [] (f ∷ front) one two = absurd (none_ahead _ _ (sym two))
front_said (x ∷ xs) rows (y ∷ ys) (f ∷ front) one two =
    let rest = front_said xs rows ys front (ap others one) (ap others two) in
    (rest.0, both y x ys (xs ++ rest.0) (same_event f y x (ap (first (row_event f)) two) (ap (first (row_event f)) one)) rest.1, rest.2)

none_more : (more : List Event) → map row_event [] ≡ map Ok more → more ≡ []
none_more [] is = refl
none_more (x ∷ more) is = absurd (none_ahead _ _ is)

one_said : (rows : List Fields) (xs ys : List Event) → map row_event rows ≡ map Ok xs → map row_event rows ≡ map Ok ys → xs ≡ ys
one_said rows xs ys one two =
    let more = front_said xs [] ys rows one (ap (map row_event) (append-nil rows) ∙ two) in
    sym (append-nil xs) ∙ ap (λ z. xs ++ z) (sym (none_more more.0 more.2)) ∙ sym more.1

-- no record is both headers
two_headers : (row : Fields) → is_header_row row ≡ true → is_stamped_header_row row ≡ true → ⊥
two_headers [] one two = false≢true one
two_headers (a ∷ []) one two = false≢true one
two_headers (a ∷ b ∷ []) one two = false≢true one
two_headers (a ∷ b ∷ c ∷ []) one two = false≢true one
two_headers (a ∷ b ∷ c ∷ d ∷ []) one two = false≢true two
two_headers (a ∷ b ∷ c ∷ d ∷ e ∷ r) one two = false≢true one

pub two_forms : (n m : ℕ) (rows more : List Fields) (xs ys : List Turn) → Spells Stamped n rows xs → Spells Plain m (rows ++ more) ys → ⊥
two_forms n m rows more xs ys one two =
    let same : two.head ≡ one.head = ap (first two.head) (sym two.whole ∙ ap (λ z. z ++ more) one.whole) in
    two_headers one.head (subst (λ z. is_header_row z ≡ true) same two.header) one.header

one_spelled : (form : Form) (n : ℕ) (rows : List Fields) (xs ys : List Turn) → Spells form n rows xs → Spells Plain n rows ys → events_of xs ≡ events_of ys
one_spelled Plain n rows xs ys one two = one_said one.later (events_of xs) (events_of ys) one.spelled.0 (ap (λ z. map row_event z) (ap others (sym one.whole ∙ two.whole)) ∙ two.spelled.0)
one_spelled Stamped n rows xs ys one two = absurd (two_forms n n rows [] xs ys one (subst (λ z. Spells Plain n z ys) (sym (append-nil rows)) two))

parts_said : (turns here later : List Turn) → turns ≡ here ++ later → events_of turns ≡ events_of here ++ events_of later
parts_said turns here later is = ap events_of is ∙ map-append (λ t. t.event) here later

one_of_all : (form : Form) (n : ℕ) (texts : List (List (List ℕ))) (xs ys : List Turn) → AllSpell form n texts xs → AllSpell Plain n texts ys → events_of xs ≡ events_of ys
one_of_all form n [] xs ys one two = ap events_of (one ∙ sym two)
one_of_all form n (text ∷ texts) xs ys one two =
    parts_said xs one.0 one.1 one.2 ∙ ap (λ z. z ++ events_of one.1) (one_spelled form n (flat_map rows_of text) one.0 two.0 one.3 two.3) ∙ ap (λ z. events_of two.0 ++ z) (one_of_all form (n + 1) texts one.1 two.1 one.4 two.4) ∙ sym (parts_said ys two.0 two.1 two.2)

-- texts with one among them
pub all_before : (form : Form) (n m : ℕ) (texts : List (List (List ℕ))) (text : List (List ℕ)) (later : List (List (List ℕ))) (turns : List Turn) → m ≡ n + length texts → AllSpell form n (texts ++ text ∷ later) turns →
    (before : List Turn) × (here : List Turn) × (behind : List Turn) × (turns ≡ before ++ (here ++ behind)) × AllSpell form n texts before × Spells form m (flat_map rows_of text) here
all_before form n m [] text later turns is all = ([], all.0, all.1, all.2, refl, subst (λ z. Spells form z (flat_map rows_of text) all.0) (omega (arith, is)) all.3)
all_before form n m (t ∷ texts) text later turns is all =
    let rest = all_before form (n + 1) m texts text later all.1 (omega (arith, is)) all.4 in
    (all.0 ++ rest.0, rest.1, rest.2, all.2 ∙ ap (λ z. all.0 ++ z) rest.3 ∙ sym (append_assoc all.0 rest.0 (rest.1 ++ rest.2)), (all.0, rest.0, refl, all.3, rest.4), rest.5)

-- the text at hand in a recording that can be followed: its lines, with the events before it, of it and after it
pub record IsAmong (most : Limit) (earlier : List (List (List ℕ))) (lines : List (List ℕ)) (IsLast : Type 0) : Type 0 where
  pub before : List Turn
  pub here : List Turn
  pub behind : List Turn
  pub history : IsHistoryBy most.writers (events_of (before ++ (here ++ behind)))
  pub few : length (before ++ (here ++ behind)) ≤ most.events
  pub texts_say : AllSpell Plain 0 earlier before
  pub lines_say : Spells Plain (length earlier) (flat_map rows_of lines) here ⊎ ((earlier ≢ []) × (flat_map rows_of lines ≡ []) × (here ≡ []) × IsLast)

-- lines whose records have stamps are not among those
pub not_stamped : (most : Limit) (earlier : List (List (List ℕ))) (lines : List (List ℕ)) (IsLast : Type 0) → IsAmong most earlier lines IsLast → HaveStamps (length earlier) lines → ⊥
not_stamped most earlier lines IsLast among stamps = go among.lines_say
  where
    go : Spells Plain (length earlier) (flat_map rows_of lines) among.here ⊎ ((earlier ≢ []) × (flat_map rows_of lines ≡ []) × (among.here ≡ []) × IsLast) → ⊥
    go (inl spells) = two_forms (length earlier) (length earlier) (flat_map rows_of lines) [] stamps.0 among.here stamps.1 (subst (λ z. Spells Plain (length earlier) z among.here) (sym (append-nil (flat_map rows_of lines))) spells)
    go (inr (some, none, nothing, last)) = none_ahead stamps.1.head stamps.1.later (sym none ∙ stamps.1.whole)

-- what some lines said, and what the others say
abbrev SaysMore : Follow → ℕ → List Fields → List Event → Type 0
SaysMore f n rows more = ((f.headed ≡ false) × (turns : List Turn) × (more ≡ events_of turns) × Spells Plain n rows turns) ⊎ (((f.headed ≡ false) × (rows ≡ []) × (more ≡ [])) ⊎ ((f.headed ≡ true) × (map row_event rows ≡ map Ok more)))

says_more : (f : Follow) (n : ℕ) (lines : List (List ℕ)) (rows : List Fields) (xs ys : List Turn) (whole : List Fields) → whole ≡ flat_map rows_of lines ++ rows → SaysSoFar f Plain n lines xs → Spells Plain n whole ys →
    (more : List Event) × (events_of ys ≡ events_of xs ++ more) × SaysMore f n rows more
says_more f n lines rows xs ys whole parts (inl (unheaded, none, nothing)) spells =
    (events_of ys, ap (λ z. events_of z ++ events_of ys) (sym nothing), inl (unheaded, ys, refl, subst (λ z. Spells Plain n z ys) (parts ∙ ap (λ z. z ++ rows) none) spells))
says_more f n lines rows xs ys whole parts (inr (headed, said)) spells =
    let same : spells.later ≡ said.later ++ rows = ap others (sym spells.whole ∙ parts ∙ ap (λ z. z ++ rows) said.whole) in
    let more = front_said (events_of xs) rows (events_of ys) said.later said.spelled.0 (ap (map row_event) (sym same) ∙ spells.spelled.0) in
    (more.0, more.1, inr (inr (headed, more.2)))

says_none : (f : Follow) (n : ℕ) (lines : List (List ℕ)) (rows : List Fields) (xs : List Turn) (whole : List Fields) → whole ≡ flat_map rows_of lines ++ rows → SaysSoFar f Plain n lines xs → whole ≡ [] →
    (f.headed ≡ false) × (xs ≡ []) × (rows ≡ [])
says_none f n lines rows xs whole parts (inl (unheaded, none, nothing)) is = (unheaded, nothing, ap (λ z. z ++ rows) (sym none) ∙ sym parts ∙ is)
says_none f n lines rows xs whole parts (inr (headed, said)) is = absurd (none_ahead said.head (said.later ++ rows) (sym is ∙ parts ∙ ap (λ z. z ++ rows) said.whole))

-- a recording that can be followed has no stamps
form_differs : Plain ≡ Stamped → ⊥
form_differs is = false≢true (ap is_stamped is)
  where
    is_stamped : Form → Bool
    is_stamped Plain = false
    is_stamped Stamped = true

abbrev form_or : Option Form → Form
form_or None = Plain
form_or (Some form) = form

some_form : {form : Form} → Some form ≡ Some Stamped → form ≡ Stamped
some_form is = ap form_or is

no_form : None ≡ Some Stamped → ⊥
no_form is = form_differs (ap form_or is)

plain_texts : (form : Form) (texts : List (List (List ℕ))) (xs ys : List Turn) → form ≡ Stamped → texts ≢ [] → AllSpell form 0 texts xs → AllSpell Plain 0 texts ys → ⊥
plain_texts form [] xs ys is some one two = some refl
plain_texts Plain (text ∷ texts) xs ys is some one two = absurd (form_differs is)
plain_texts Stamped (text ∷ texts) xs ys is some one two = two_forms 0 0 (flat_map rows_of text) [] one.0 two.0 one.3 (subst (λ z. Spells Plain 0 z two.0) (sym (append-nil (flat_map rows_of text))) two.3)

no_texts : (texts : List (List (List ℕ))) (P : Type 0) → (texts ≢ [] → P) → (texts ≡ [] → P) → P
no_texts [] P some none = none refl
no_texts (t ∷ texts) P some none = some (λ is. none_ahead t texts (sym is))

pub plain_by : (f : Follow) (least : ℕ) (most : Limit) (earlier : List (List (List ℕ))) (lines all : List (List ℕ)) (rows : List Fields) (events : List Event) (IsLast : Type 0) → flat_map rows_of all ≡ flat_map rows_of lines ++ rows → HasRead f least most earlier lines events → IsAmong most earlier all IsLast → IsPlain f
plain_by f least most earlier lines all rows events IsLast whole h among is = go h.form_is
  where
    headed : h.form ≡ Stamped → f.headed ≡ true → earlier ≡ [] → SaysSoFar f h.form (length earlier) lines (h.here ++ f.waiting.turns.items) → ⊥
    headed form is none (inl (unheaded, empty, nothing)) = false≢true (sym unheaded ∙ is)
    headed form is none (inr (h', spells)) = last form spells among.lines_say
      where
        last : h.form ≡ Stamped → Spells h.form (length earlier) (flat_map rows_of lines) (h.here ++ f.waiting.turns.items) → Spells Plain (length earlier) (flat_map rows_of all) among.here ⊎ ((earlier ≢ []) × (flat_map rows_of all ≡ []) × (among.here ≡ []) × IsLast) → ⊥
        last form spells (inl plain) = two_forms (length earlier) (length earlier) (flat_map rows_of lines) rows (h.here ++ f.waiting.turns.items) among.here (subst (λ z. Spells z (length earlier) (flat_map rows_of lines) (h.here ++ f.waiting.turns.items)) form spells) (subst (λ z. Spells Plain (length earlier) z among.here) whole plain)
        last form spells (inr (some, rows_none, nothing, at_end)) = some none

    begun : h.form ≡ Stamped → (f.headed ≡ true) ⊎ (earlier ≢ []) → ⊥
    begun form (inr some) = plain_texts h.form earlier h.earlier among.before form some h.texts_say among.texts_say
    begun form (inl is) = no_texts earlier ⊥ (λ some. plain_texts h.form earlier h.earlier among.before form some h.texts_say among.texts_say) (λ none. headed form is none h.lines_say)

    go : IsFormOf f h.form earlier → ⊥
    go (inl (known, some)) = begun (some_form (sym known ∙ is)) some
    go (inr (none, unheaded, empty, given)) = no_form (sym none ∙ is)

-- what was read without stamps
abbrev pub IsReadPlain : Follow → ℕ → List (List ℕ) → List Turn → Type 0
IsReadPlain f n lines here = SaysSoFar f Plain n lines here × (f.waiting.turns.items ≡ [])

plain_part : (f : Follow) (form : Form) (n : ℕ) (texts : List (List (List ℕ))) (lines : List (List ℕ)) (taken here : List Turn) → IsPlain f → IsFormOf f form texts → SaysSoFar f form n lines (here ++ f.waiting.turns.items) → AreWaiting form f taken → IsReadPlain f n lines here
plain_part f Plain n texts lines taken here plain is says waits = (subst (SaysSoFar f Plain n lines) (ap (λ z. here ++ z) waits ∙ append-nil here) says, waits)
plain_part f Stamped n texts lines taken here plain (inl (is, some)) says waits = absurd (plain is)
plain_part f Stamped n texts lines taken here plain (inr (is, unheaded, empty, given)) (inl (u, none, nothing)) waits =
    let both = both_none here f.waiting.turns.items nothing in
    (inl (u, none, both.0), both.1)
plain_part f Stamped n texts lines taken here plain (inr (is, unheaded, empty, given)) (inr (h, s)) waits = absurd (false≢true (sym unheaded ∙ h))

-- one more record, of those that say the rest
next_goes_on : (f : Follow) (n : ℕ) (events more later : List Event) (row : Fields) (rows : List Fields) → IsPlain f → SaysMore f n (row ∷ rows) more → IsHistoryBy f.judge.most.writers (events ++ (more ++ later)) → GoesOn f events (row ∷ [])
next_goes_on f n events more later row rows plain (inl (unheaded, turns, is, spells)) history =
    inr (inl (unheaded, plain, row, refl, ap is_header_row (ap (first row) spells.whole) ∙ spells.header))
next_goes_on f n events more later row rows plain (inr (inl (unheaded, none, nothing))) history = absurd (none_ahead row rows (sym none))
next_goes_on f n events [] later row rows plain (inr (inr (headed, says))) history = absurd (none_ahead _ _ (sym says))
next_goes_on f n events (x ∷ more) later row rows plain (inr (inr (headed, says))) history =
    inr (inr (headed, plain, row, x, refl, ap (first (row_event row)) says, history_front f.judge.most.writers (events ++ x ∷ []) (more ++ later) (subst (IsHistoryBy f.judge.most.writers) (sym (append_assoc events (x ∷ []) (more ++ later))) history)))

-- the next line of a recording that can be followed goes on with what was read
goes_on : (f : Follow) (n : ℕ) (events more later : List Event) (line : List ℕ) (rows : List Fields) → IsPlain f → (rows_of line ≡ []) ⊎ ((row : Fields) × (rows_of line ≡ row ∷ [])) → SaysMore f n (rows_of line ++ rows) more → IsHistoryBy f.judge.most.writers (events ++ (more ++ later)) → GoesOn f events (rows_of line)
goes_on f n events more later line rows plain (inl none) says history = inl none
goes_on f n events more later line rows plain (inr (row, one)) says history =
    subst (GoesOn f events) (sym one) (next_goes_on f n events more later row rows plain (subst (λ z. SaysMore f n (z ++ rows) more) one says) history)

-- a line that is to be an event says one
some_said : (row : Fields) (rows : List Fields) (said : List Event) → map row_event (row ∷ rows) ≡ map Ok said → 0 < length said
some_said row rows [] says = absurd (none_ahead _ _ (sym says))
some_said row rows (x ∷ said) says = omega arith

event_said : (f : Follow) (n : ℕ) (line : List ℕ) (rows : List Fields) (said : List Event) → (rows_of line ≡ []) ⊎ ((row : Fields) × (rows_of line ≡ row ∷ [])) → AreEvents f (rows_of line) → SaysMore f n (rows_of line ++ rows) said → 0 < length said
event_said f n line rows said one event (inl (unheaded, turns, is, spells)) = absurd (false≢true (sym unheaded ∙ event.0))
event_said f n line rows said one event (inr (inl (unheaded, none, nothing))) = absurd (false≢true (sym unheaded ∙ event.0))
event_said f n line rows said (inl none) event (inr (inr (headed, says))) = absurd (event.1 none)
event_said f n line rows said (inr (row, is)) event (inr (inr (headed, says))) = some_said row rows said (subst (λ z. map row_event (z ++ rows) ≡ map Ok said) is says)

-- so it does not stop, since the window has room for what it says
room_left : (events more later since before : List Event) (most : ℕ) → events ≡ before ++ since → length (events ++ (more ++ later)) ≤ most → most ≤ length since → 0 < length more → ⊥
room_left events more later since before most parts few full some = omega (arith, few, full, some, ap length parts, length-append before since, length-append events (more ++ later), length-append more later)

pub does_not_stop : (f : Follow) (least : ℕ) (most : Limit) (earlier : List (List (List ℕ))) (lines all : List (List ℕ)) (line : List ℕ) (rows : List Fields) (events : List Event) (IsLast : Type 0) →
    flat_map rows_of all ≡ flat_map rows_of lines ++ (rows_of line ++ rows) → (rows_of line ≡ []) ⊎ ((row : Fields) × (rows_of line ≡ row ∷ [])) →
    HasRead f least most earlier lines events → IsAmong most earlier all IsLast → StopsAt f line → ⊥
does_not_stop f least most earlier lines all line rows events IsLast whole one h among stops = go among.lines_say
  where
    plain : IsPlain f
    plain = plain_by f least most earlier lines all (rows_of line ++ rows) events IsLast whole h among

    part : IsReadPlain f (length earlier) lines h.here
    part = plain_part f h.form (length earlier) earlier lines (h.earlier ++ h.here) h.here plain h.form_is h.lines_say h.waiting

    same : events_of h.earlier ≡ events_of among.before
    same = one_of_all h.form 0 earlier h.earlier among.before h.texts_say among.texts_say

    told : events_of (among.before ++ (among.here ++ among.behind)) ≡ events_of among.before ++ (events_of among.here ++ events_of among.behind)
    told = map-append (λ t. t.event) among.before (among.here ++ among.behind) ∙ ap (λ z. events_of among.before ++ z) (map-append (λ t. t.event) among.here among.behind)

    on : (said : List Event) → events_of among.here ≡ events_of h.here ++ said → SaysMore f (length earlier) (rows_of line ++ rows) said → ⊥
    on said parts says =
        let behind = events_of among.behind in
        let is : events_of (among.before ++ (among.here ++ among.behind)) ≡ events ++ (said ++ behind) =
        told ∙ ap (λ z. z ++ (events_of among.here ++ behind)) (sym same) ∙ ap (λ z. events_of h.earlier ++ (z ++ behind)) parts ∙ ap (λ z. events_of h.earlier ++ z) (append_assoc (events_of h.here) said behind)
        ∙ sym (append_assoc (events_of h.earlier) (events_of h.here) (said ++ behind)) ∙ ap (λ z. z ++ (said ++ behind)) (sym (h.said ∙ map-append (λ t. t.event) h.earlier h.here)) in
        let few : length (events ++ (said ++ behind)) ≤ most.events = omega (arith, among.few, ap length is, length-map (among.before ++ (among.here ++ among.behind)) (λ t. t.event)) in
        let stop = stops least most earlier lines events h (goes_on f (length earlier) events said behind line rows plain one says (subst (λ l. IsHistoryBy l.writers (events ++ (said ++ behind))) (sym h.most_is) (subst (IsHistoryBy most.writers) is among.history))) in
        room_left events said behind h.since h.before most.events h.windows few stop.0 (event_said f (length earlier) line rows said one stop.1 says)

    go : Spells Plain (length earlier) (flat_map rows_of all) among.here ⊎ ((earlier ≢ []) × (flat_map rows_of all ≡ []) × (among.here ≡ []) × IsLast) → ⊥
    go (inl spells) = let next = says_more f (length earlier) lines (rows_of line ++ rows) h.here among.here (flat_map rows_of all) whole part.0 spells in on next.0 next.1 next.2
    go (inr (some, none, nothing, last)) =
        let says = says_none f (length earlier) lines (rows_of line ++ rows) h.here (flat_map rows_of all) whole part.0 none in
        on [] (ap events_of (nothing ∙ sym says.1) ∙ sym (append-nil (events_of h.here))) (inr (inl (says.0, says.2, refl)))
