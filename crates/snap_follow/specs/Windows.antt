-- The windows of a recording, and what is written about them.
use Rattle.std.specs.Prelude.{◌≡◌, ◌≢◌, ◌≤◌, ◌<◌, ◌==◌, ◌++◌, ◌+◌, ℕ, Bool, if◌then◌else◌, List, [], ◌∷◌, length, Option, Some, None, codes, count_by, decimal, find, flat_map, slice_get, sum_by}
use Rattle.std.specs.Global.{Vec}
use Rattle.snap_core.specs.declared.limit.Limit.{Limit}
use Rattle.snap_core.specs.declared.entry.Entry.{Entry}
use Rattle.snap_core.specs.declared.event.Event.{Event}
use Rattle.snap_names.specs.Shown.{shown}
use Rattle.snap_report.specs.Lines.{entry_word}
use Rattle.snap_theory.specs.Windows.{IsQuiet}
use Rattle.snap_windows.specs.Verdicts.{IsVerdict}
use Rattle.snap_windows.specs.declared.judge.Verdict.{Verdict}
use Rattle.snap_follow.specs.Misses.{AreMissed}
use Rattle.snap_follow.specs.Places.{IsSpanIn}
use Rattle.snap_follow.specs.Spans.{IsSpanOf, ends_view, stop}
use Rattle.snap_follow.specs.declared.span.Place.{Place}
use Rattle.snap_follow.specs.declared.follow.Window.{Window}

-- a window that was written: its number, its events, what was found of it, and the names of the texts that were begun
pub record Told : Type 0 where
  pub number : ℕ
  pub events : List Event
  pub window : Window
  pub names : List (Vec ℕ)

-- the events of windows, one window after the other
abbrev pub events_of : List Told → List Event
events_of told = flat_map (λ t. t.events) told

-- a window ends at the first moment without an open call from `least` events on: none before its end is one
abbrev pub EndsFirst : ℕ → List Event → List Event → Type 0
EndsFirst least before window = (front rest : List Event) → window ≡ front ++ rest → front ≢ [] → rest ≢ [] → IsQuiet (before ++ front) → length front < least

-- a window that has ended: it has `least` events, and no call is open after it
abbrev pub HasEnded : ℕ → List Event → List Event → Type 0
HasEnded least before window = (least ≤ length window) × IsQuiet (before ++ window)

-- a window after others has their number and one more. It has the counts of its own events, the places of the first and the last of
-- them, what their views miss, and the verdict on them from what the others left
pub record IsToldAfter (least : ℕ) (most : Limit) (stands : List Place) (front : List Told) (t : Told) : Type 0 where
  pub number : t.number ≡ stop (length front + 1)
  pub span : IsSpanOf t.window.span t.events
  pub places : IsSpanIn t.window.span stands (length (events_of front)) (length t.events)
  pub missed : AreMissed stands (events_of front) t.events t.window.span.missed
  pub verdict : IsVerdict most.writers t.window.verdict (events_of front) t.events
  pub first : EndsFirst least (events_of front) t.events
  pub some : 0 < least → t.events ≢ []

-- windows are those of these events, which stand at these places: they have all of them, and each but the last has ended
pub record AreWindowsOf (least : ℕ) (most : Limit) (places : List Place) (events : List Event) (told : List Told) : Type 0 where
  pub all : events_of told ≡ events
  pub each : (front behind : List Told) (t : Told) → told ≡ front ++ t ∷ behind → IsToldAfter least most places front t
  pub ended : (front behind : List Told) (t : Told) → told ≡ front ++ t ∷ behind → behind ≢ [] → HasEnded least (events_of front) t.events

-- The line of a window.

abbrev pub name_text : Option (Vec ℕ) → List ℕ
name_text None = []
name_text (Some name) = codes " of " ++ shown name.items

-- the number of a record, and the name of its text if that has one
abbrev pub place_text : List (Vec ℕ) → Place → List ℕ
place_text names place = decimal place.number ++ name_text (slice_get names place.text)

-- what a view of a window misses, and the record that ends the view
abbrev pub missed_text : List (Vec ℕ) → Option (Entry × Place) → List ℕ
missed_text names None = []
missed_text names (Some missed) = codes " misses " ++ entry_word missed.0 ++ codes " in record " ++ place_text names missed.1

abbrev pub kind_word : Verdict → List ℕ
kind_word verdict = if verdict.atomic then codes "atomic" else if verdict.regular then codes "only-regular" else codes "not-regular"

abbrev pub window_text : ℕ → Window → List (Vec ℕ) → List ℕ
window_text number window names =
    codes "window " ++ decimal number ++ codes " events " ++ decimal window.span.events ++ codes " " ++ kind_word window.verdict
    ++ codes " from " ++ place_text names window.span.first ++ codes " to " ++ place_text names window.span.last ++ missed_text names window.span.missed ++ codes "\n"

abbrev pub line_of : Told → List ℕ
line_of t = window_text t.number t.window t.names

-- The lines of the sums.

-- the exit status of a window alone
abbrev pub verdict_code : Verdict → ℕ
verdict_code verdict = if verdict.atomic then 0 else if verdict.regular then 1 else 2

abbrev pub has_code : ℕ → Told → Bool
has_code code t = verdict_code t.window.verdict == code

abbrev pub first_text : Option Told → List ℕ
first_text None = []
first_text (Some t) = codes " first " ++ decimal t.number

-- the line of a kind: its word, the number of windows of this kind, and the first of them
abbrev pub kind_text : List ℕ → ℕ → List Told → List ℕ
kind_text word code told = word ++ codes " " ++ decimal (stop (count_by (has_code code) told)) ++ first_text (find (has_code code) told) ++ codes "\n"

-- the number of the completed views of windows
abbrev pub views_of : List Told → ℕ
views_of told = stop (sum_by (λ t. count_by ends_view t.events) told)

-- the numbers of windows, of their events and of their completed views, and the lines of the kinds
abbrev pub sums_text : List Told → List ℕ
sums_text told =
    codes "windows " ++ decimal (stop (length told)) ++ codes " events " ++ decimal (stop (sum_by (λ t. length t.events) told))
    ++ codes " views " ++ decimal (views_of told) ++ codes "\n"
    ++ kind_text (codes "atomic") 0 told ++ kind_text (codes "only-regular") 1 told ++ kind_text (codes "not-regular") 2 told
    ++ kind_text (codes "refused") 3 told ++ kind_text (codes "failed") 4 told
