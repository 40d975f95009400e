-- What the lines of a recording say.
use Rattle.std.specs.Prelude.{⊤, ℕ, true, false, not, List, [], ◌∷◌, ◌++◌, ◌+◌, ◌-◌, ◌^◌, min, ◌≡◌, ◌≢◌, ◌⊎◌, ◌↔◌, ◌≤◌, ◌<◌, Ok, Option, Some, None, slice_index_or, count_by, flat_map, length}
use Rattle.snap_core.specs.declared.limit.Limit.{Limit}
use Rattle.snap_core.specs.declared.event.Event.{Event}
use Rattle.snap_core.specs.Calls.{calls_of}
use Rattle.snap_core.specs.Bounded.{IsHistoryBy}
use Rattle.snap_core.specs.declared.writers.Writers.{Writers}
use Rattle.snap_core.specs.Refusals.{is_begin}
use Rattle.snap_core.specs.Regular.{IsRegular}
use Rattle.snap_format.specs.Layout.{is_header_row}
use Rattle.snap_format.specs.Rows.{rows_of}
use Rattle.snap_format.specs.Stamps.{stamped_row}
use Rattle.snap_text.specs.Fields.{Fields, row_event}
use Rattle.snap_follow.specs.Misses.{AreMissed}
use Rattle.snap_follow.specs.Places.{IsSpanIn}
use Rattle.snap_follow.specs.Spans.{IsSpanOf}
use Rattle.snap_follow.specs.Turns.{RiseFrom, Spells, after, after_given, events_of, places_of, stamps_of}
use Rattle.snap_follow.specs.declared.follow.Ended.{Ended}
use Rattle.snap_follow.specs.declared.follow.Ended.TheVariants.{Refused, Late, Memory}
use Rattle.snap_follow.specs.declared.follow.Follow.{Follow}
use Rattle.snap_follow.specs.declared.form.Form.{Form}
use Rattle.snap_follow.specs.declared.form.Form.TheVariants.{Plain, Stamped}
use Rattle.snap_follow.specs.declared.span.Place.{Place}
use Rattle.snap_follow.specs.declared.waiting.Turn.{Turn}
use Rattle.snap_text.specs.declared.fault.TextFault.TheVariants.{Repeated, TooMany}
use Rattle.snap_theory.specs.Versions.{IsAtomicBy}
use Rattle.snap_theory.specs.Windows.{IsQuiet}
use Rattle.snap_windows.specs.Taken.{HasTaken}
use Rattle.snap_windows.specs.declared.judge.WindowJudge.{WindowJudge}

-- texts from this number on, each the list of its lines, whose records spell these events, one text after the other
abbrev pub AllSpell : Form → ℕ → List (List (List ℕ)) → List Turn → Type 0
AllSpell form n [] turns = turns ≡ []
AllSpell form n (text ∷ texts) turns = (here : List Turn) × (later : List Turn) × (turns ≡ here ++ later) × Spells form n (flat_map rows_of text) here × AllSpell form (n + 1) texts later

-- what the lines of the text at hand say, whether its header was read or not
abbrev pub SaysSoFar : Follow → Form → ℕ → List (List ℕ) → List Turn → Type 0
SaysSoFar follow form n lines turns =
    ((follow.headed ≡ false) × (flat_map rows_of lines ≡ []) × (turns ≡ [])) ⊎ ((follow.headed ≡ true) × Spells form n (flat_map rows_of lines) turns)

-- the texts have this header; none was read if none is known
abbrev pub IsFormOf : Follow → Form → List (List (List ℕ)) → Type 0
IsFormOf follow form texts = ((follow.form ≡ Some form) × ((follow.headed ≡ true) ⊎ (texts ≢ []))) ⊎ ((follow.form ≡ None) × (follow.headed ≡ false) × (texts ≡ []) × (follow.given ≡ None))

-- records wait only if they have stamps. All stamps rise, and those of the events that the judge was given are below all that wait
abbrev pub AreWaiting : Form → Follow → List Turn → Type 0
AreWaiting Plain follow taken = follow.waiting.turns.items ≡ []
AreWaiting Stamped follow taken = RiseFrom 0 (stamps_of (taken ++ follow.waiting.turns.items)) × (after_given follow.given ≡ after 0 (stamps_of taken))

-- how many more calls these events begin than they end
abbrev pub open_after : List Event → ℕ
open_after events = count_by is_begin events - count_by (λ x. not (is_begin x)) events

-- a place is that of the last record of these lines, after these texts. Its numbers stop at 2 ^ 64 - 1
pub record IsPlaceOf (place : Place) (texts : List (List (List ℕ))) (lines : List (List ℕ)) : Type 0 where
  pub text_is : place.text ≡ min (length texts) (2 ^ 64 - 1)
  pub record_is : place.number ≡ min (length (flat_map rows_of lines)) (2 ^ 64 - 1)

-- the record after one of the same text
abbrev pub IsNext : Place → Place → Type 0
IsNext place next = (next.text ≡ place.text) × (next.number ≡ min (place.number + 1) (2 ^ 64 - 1))

-- a recording was followed so far: the records of some whole texts, and of the lines of the text at hand, spell these events, and those
-- that wait. Its judge has taken them. A window ends from `least` events on, and `most` is its limit
pub record HasRead (follow : Follow) (least : ℕ) (most : Limit) (texts : List (List (List ℕ))) (lines : List (List ℕ)) (events : List Event) : Type 0 where
  pub least_is : follow.least ≡ least
  pub most_is : follow.judge.most ≡ most
  -- no more calls count as open than are open
  pub opened : follow.open_calls ≤ open_after events
  pub before : List Event
  pub since : List Event
  pub taken : HasTaken follow.judge before since
  pub windows : events ≡ before ++ since
  pub span_is : IsSpanOf follow.span since
  pub form : Form
  pub form_is : IsFormOf follow form texts
  -- the events of the texts before, and those of the text at hand that the judge was given
  pub earlier : List Turn
  pub here : List Turn
  pub said : events ≡ events_of (earlier ++ here)
  pub places : List Place
  pub places_are : places ≡ places_of (earlier ++ here)
  pub span_in : IsSpanIn follow.span places (length before) (length since)
  pub missed : AreMissed places before since follow.span.missed
  pub texts_say : AllSpell form 0 texts earlier
  -- the others wait
  pub lines_say : SaysSoFar follow form (length texts) lines (here ++ follow.waiting.turns.items)
  pub waiting : AreWaiting form follow (earlier ++ here)
  pub place_is : IsPlaceOf follow.place texts lines

-- lines more were read: the judge was given nothing more, or one event of the window at hand
abbrev pub ReadsMore : Follow → Follow → List (List ℕ) → Type 0
ReadsMore old new added = (least : ℕ) (most : Limit) (texts : List (List (List ℕ))) (lines : List (List ℕ)) (events : List Event) (h : HasRead old least most texts lines events) →
    (more : List Event) × (length more ≤ 1) × (n : HasRead new least most texts (lines ++ added) (events ++ more)) × (n.before ≡ h.before) × (n.since ≡ h.since ++ more) × (places : List Place) × (n.places ≡ h.places ++ places)

abbrev pub ReadsLine : Follow → Follow → List ℕ → Type 0
ReadsLine old new line = ReadsMore old new (line ∷ [])

-- the judge was given the first event that waits, if one does
abbrev pub TakesFirst : Follow → Follow → Type 0
TakesFirst old new = ReadsMore old new []

-- no header with stamps was read
abbrev pub IsPlain : Follow → Type 0
IsPlain follow = follow.form ≢ Some Stamped

-- records that go on with a recording of these events without stamps. There are none, or they are the header alone if none was read. If
-- one was, they are one record that spells an event with which the events are a history
abbrev pub GoesOn : Follow → List Event → List Fields → Type 0
GoesOn follow events rows = (rows ≡ []) ⊎ (((follow.headed ≡ false) × IsPlain follow × (head : Fields) × (rows ≡ head ∷ []) × (is_header_row head ≡ true))
    ⊎ ((follow.headed ≡ true) × IsPlain follow × (row : Fields) × (x : Event) × (rows ≡ row ∷ []) × (row_event row ≡ Ok x) × IsHistoryBy follow.judge.most.writers (events ++ x ∷ [])))

-- the window of these events has as many as it may have, or memory ran out
abbrev pub IsLack : WindowJudge → List Event → Ended → Type 0
IsLack judge since (Refused place fault) = (fault ≡ TooMany) × (judge.most.events ≤ length since)
IsLack judge since (Late place) = ⊥
IsLack judge since Memory = ⊤

-- records are to be events: the header was read, and there are some
abbrev pub AreEvents : Follow → List Fields → Type 0
AreEvents follow rows = (follow.headed ≡ true) × (rows ≢ [])

-- a line that goes on with the recording is refused for such a lack alone, and one without an event only if memory ran out
abbrev pub RefusesLine : Follow → List ℕ → Ended → Type 0
RefusesLine old line why = (least : ℕ) (most : Limit) (texts : List (List (List ℕ))) (lines : List (List ℕ)) (events : List Event) (h : HasRead old least most texts lines events) →
    GoesOn old events (rows_of line) → IsLack old.judge h.since why × ((why ≡ Memory) ⊎ AreEvents old (rows_of line))

-- a stamp is not above the last that the judge was given
abbrev pub IsLate : Option ℕ → ℕ → Type 0
IsLate None at = ⊥
IsLate (Some last) at = at ≤ last

-- one of these turns has a stamp
abbrev pub HasStamp : List Turn → ℕ → Type 0
HasStamp turns at = (i : ℕ) × (i < length turns) × ((d : Turn) → (slice_index_or turns i d).at ≡ at)

-- A record with a stamp is refused only if the stamp comes too late, or if one with this stamp waits. Otherwise as many wait as may, so
-- that an event went to the judge, or memory ran out.
abbrev pub RefusesStamp : Option ℕ → List Turn → ℕ → ℕ → Ended → Type 0
RefusesStamp given turns late at (Late place) = IsLate given at ⊎ (late ≤ length turns)
RefusesStamp given turns late at (Refused place fault) = ((fault ≡ Repeated) × HasStamp turns at) ⊎ (late ≤ length turns)
RefusesStamp given turns late at Memory = ⊤

abbrev pub RefusesStamped : Follow → List ℕ → Ended → Type 0
RefusesStamped old line why = (row : Fields) (at : ℕ) (x : Event) → old.headed ≡ true → old.form ≡ Some Stamped → rows_of line ≡ row ∷ [] → stamped_row row ≡ Ok (at, x) → RefusesStamp old.given old.waiting.turns.items old.late at why

-- no more records wait than may
abbrev pub WaitsWithin : Follow → Follow → Type 0
WaitsWithin old new = (new.late ≡ old.late) × (length old.waiting.turns.items ≤ old.late → length new.waiting.turns.items ≤ old.late)

-- a line stops a recording: it does not go on with it, or the window at hand has no room for its event
abbrev pub StopsAt : Follow → List ℕ → Type 0
StopsAt follow line = (least : ℕ) (most : Limit) (texts : List (List (List ℕ))) (lines : List (List ℕ)) (events : List Event) (h : HasRead follow least most texts lines events) →
    GoesOn follow events (rows_of line) → (most.events ≤ length h.since) × AreEvents follow (rows_of line)

-- the text at hand has no record so far
abbrev pub HasNoRecord : Follow → Type 0
HasNoRecord follow = (least : ℕ) (most : Limit) (texts : List (List (List ℕ))) (lines : List (List ℕ)) (events : List Event) → HasRead follow least most texts lines events → flat_map rows_of lines ≡ []

-- no window is overdue: if no call is open after these events, the window at hand has fewer than `least` of them, or none
abbrev pub IsInTime : ℕ → List Event → List Event → Type 0
IsInTime least events since = IsQuiet events → (length since < least) ⊎ (since ≡ [])

-- the text at hand has ended, of which nothing waits, and the next one begins, in the same window
abbrev pub EndsText : Follow → Follow → Type 0
EndsText old new = (least : ℕ) (most : Limit) (texts : List (List (List ℕ))) (lines : List (List ℕ)) (events : List Event) (h : HasRead old least most texts lines events) → old.waiting.turns.items ≡ [] →
    (n : HasRead new least most (texts ++ lines ∷ []) [] events) × (n.before ≡ h.before) × (n.since ≡ h.since) × (n.places ≡ h.places)

-- the exit status of a recording of these events; where a component has many writers, it is atomic by their versions
pub record IsStatusOf (writers : Writers) (events : List Event) (code : ℕ) : Type 0 where
  pub atomic : code ≡ 0 ↔ IsAtomicBy writers (calls_of events)
  pub only_regular : code ≡ 1 ↔ IsRegular (calls_of events) × ¬ IsAtomicBy writers (calls_of events)
  pub neither : code ≡ 2 ↔ ¬ IsRegular (calls_of events) × ¬ IsAtomicBy writers (calls_of events)
