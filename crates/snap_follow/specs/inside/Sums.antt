-- The sums of the windows so far, and the lines that are still to be written.
use Rattle.std.specs.Prelude.{◌≡◌, ◌<◌, ◌⊎◌, ◌+◌, ◌++◌, ◌∷◌, [], ℕ, List, Option, Some, None, count_by, find, flat_map, length, sum_by}
use Rattle.snap_core.specs.declared.limit.Limit.{Limit}
use Rattle.snap_core.specs.declared.event.Event.{Event}
use Rattle.snap_follow.specs.Spans.{IsSpanOf, ends_view, stop}
use Rattle.snap_follow.specs.Windows.{AreWindowsOf, HasEnded, IsToldAfter, Told, events_of, has_code, line_of}
use Rattle.snap_follow.specs.declared.answers.Answers.{Answers}
use Rattle.snap_follow.specs.declared.span.Place.{Place}
use Rattle.snap_follow.specs.declared.follow.Window.{Window}
use Rattle.snap_follow.specs.declared.sums.Count.{Count}
use Rattle.snap_follow.specs.declared.sums.Sums.{Sums}

-- the number of the first window of a kind, if there is one
abbrev pub IsFirst : ℕ → List Told → Option ℕ → Type 0
IsFirst code told None = find (has_code code) told ≡ None
IsFirst code told (Some number) = (t : Told) × (find (has_code code) told ≡ Some t) × (t.number ≡ number)

-- the number of the windows of a kind, and the first of them
pub record IsCount (code : ℕ) (told : List Told) (count : Count) : Type 0 where
  pub code_is : count.code ≡ code
  pub windows_are : count.windows ≡ stop (count_by (has_code code) told)
  pub first : IsFirst code told count.first

-- the number of windows, and those of each kind
pub record AreCounts (told : List Told) (sums : Sums) : Type 0 where
  pub windows_are : sums.windows ≡ stop (length told)
  pub atomic : IsCount 0 told sums.atomic
  pub only_regular : IsCount 1 told sums.only_regular
  pub not_regular : IsCount 2 told sums.not_regular
  pub refused : IsCount 3 told sums.refused
  pub failed : IsCount 4 told sums.failed

pub record AreSums (told : List Told) (sums : Sums) : Type 0 where
  pub counts : AreCounts told sums
  pub events_are : sums.events ≡ stop (sum_by (λ t. length t.events) told)
  pub views_are : sums.views ≡ stop (sum_by (λ t. count_by ends_view t.events) told)

-- these bytes have gone out, and the lines of the windows are these bytes and those that are still to be written
pub record HasAnswered (answers : Answers) (gone : List ℕ) (told : List Told) : Type 0 where
  pub written : gone ++ answers.lines ≡ flat_map line_of told
  pub sums_are : AreSums told answers.sums

-- the next window was answered, of these events
abbrev pub AddsWindow : Answers → Answers → Window → Type 0
AddsWindow old new window = (gone : List ℕ) (told : List Told) (events : List Event) → IsSpanOf window.span events → HasAnswered old gone told →
    (t : Told) × (t.window ≡ window) × (t.events ≡ events) × (t.number ≡ stop (length told + 1)) × HasAnswered new gone (told ++ t ∷ [])

-- the last window was answered, if it has events
abbrev pub AddsLast : Answers → Answers → Window → Type 0
AddsLast old new window = ((window.span.events ≡ 0) × (new ≡ old)) ⊎ ((0 < window.span.events) × AddsWindow old new window)

-- these lines were to be written, and were written
abbrev pub WritesLines : Answers → Answers → List ℕ → Type 0
WritesLines old new out = (old.lines ≡ out) × (new.lines ≡ []) × (new.sums ≡ old.sums)

-- the windows that have ended were answered, and all that they have are these events
pub record HasTold (answers : Answers) (gone : List ℕ) (least : ℕ) (most : Limit) (places : List Place) (before : List Event) : Type 0 where
  pub told : List Told
  pub answered : HasAnswered answers gone told
  pub all : events_of told ≡ before
  pub each : (front behind : List Told) (t : Told) → told ≡ front ++ t ∷ behind → IsToldAfter least most places front t
  pub ended : (front behind : List Told) (t : Told) → told ≡ front ++ t ∷ behind → HasEnded least (events_of front) t.events

-- all windows were answered
pub record HasToldAll (answers : Answers) (gone : List ℕ) (least : ℕ) (most : Limit) (places : List Place) (events : List Event) : Type 0 where
  pub told : List Told
  pub answered : HasAnswered answers gone told
  pub windows : AreWindowsOf least most places events told
