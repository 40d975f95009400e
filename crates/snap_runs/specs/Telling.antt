-- The JSON object of a history.
use Rattle.snap_theory.specs.Versions.{IsAtomicBy}
use Rattle.snap_core.specs.declared.writers.Writers.{Writers}
use Rattle.std.specs.Prelude.{◌≡◌, ◌<◌, ◌≤◌, ◌⊎◌, ◌↔◌, ℕ, List, IsTrue, length}
use Rattle.std.specs.Str.Lossy.{utf8_lossy}
use Rattle.snap_core.specs.declared.event.Event.{Event}
use Rattle.snap_core.specs.Calls.{calls_of, views_of}
use Rattle.snap_core.specs.Monotone.{IsMonotone}
use Rattle.snap_core.specs.Regular.{IsRegular}
use Rattle.snap_conditions.specs.declared.tally.Tally.{Tally}
use Rattle.snap_conditions.specs.Tally.{tally_of}
use Rattle.snap_report.specs.Reports.{has_no_fault, has_no_local_fault, has_no_stale_view}
use Rattle.snap_check.specs.declared.status.Status.{Status}
use Rattle.snap_check.specs.declared.status.Status.TheVariants.{Refused}
use Rattle.snap_check.specs.Statuses.{code_of}
use Rattle.snap_check.specs.Verdicts.{HasStatus}
use Rattle.snap_json.specs.Objects.{few_views_json, history_json}
use Rattle.snap_json.specs.Values.{IsLineOf}

-- A name in an object, which is Unicode. U+FFFD replaces each sequence of bytes that is not UTF-8.
abbrev pub object_name : List ℕ → List ℕ
object_name name = utf8_lossy name

-- the tally of all completed views
abbrev pub whole_tally : List Event → Tally
whole_tally events = tally_of (calls_of events) (views_of (calls_of events))

-- the status of a history, and its object by the records of its events. The three truth values in the object are the verdicts on
-- the calls
pub record IsToldHistory (name : List ℕ) (writers : Writers) (events : List Event) (records : List ℕ) (status : Status) (out : List ℕ) : Type 0 where
  pub answers : HasStatus writers events status
  pub regular_exactly : IsTrue (has_no_local_fault (whole_tally events)) ↔ IsRegular (calls_of events)
  pub monotone_exactly : IsTrue (has_no_stale_view (whole_tally events)) ↔ IsMonotone (calls_of events)
  pub atomic_exactly : IsTrue (has_no_fault (whole_tally events)) ↔ IsAtomicBy writers (calls_of events)
  pub line : IsLineOf (history_json name (code_of status) events (whole_tally events) records) out

-- a history with fewer completed views than it needs has no verdict
pub record IsToldFew (name : List ℕ) (least : ℕ) (events : List Event) (status : Status) (out : List ℕ) : Type 0 where
  pub few : length (views_of (calls_of events)) < least
  pub answers : status ≡ Refused
  pub line : IsLineOf (few_views_json name (code_of status) (length (views_of (calls_of events))) least) out

abbrev pub TellsHistory : List ℕ → ℕ → Writers → List Event → List ℕ → Status → List ℕ → Type 0
TellsHistory name least writers events records status out =
    IsToldFew name least events status out ⊎ ((least ≤ length (views_of (calls_of events))) × IsToldHistory name writers events records status out)
