-- What a check with options writes.
use Rattle.std.specs.Prelude.{◌≡◌, ◌<◌, ◌≤◌, ◌⊎◌, ℕ, Bool, true, false, List, [], length, Option, Some, None}
use Rattle.snap_core.specs.declared.event.Event.{Event}
use Rattle.snap_core.specs.declared.writers.Writers.{Writers}
use Rattle.snap_core.specs.Calls.{calls_of, views_of}
use Rattle.snap_format.specs.Texts.{IsText}
use Rattle.snap_check.specs.declared.status.Status.{Status}
use Rattle.snap_check.specs.Reports.{IsRefused}
use Rattle.snap_check.specs.Verdicts.{IsBriefVerdict, IsVerdict}
use Rattle.snap_check.specs.declared.options.CheckOptions.{CheckOptions}

-- the status of a history and its report; if quiet, only the lines of the report's verdicts
abbrev pub IsWritten : Bool → Writers → List Event → Status → List ℕ → Type 0
IsWritten false writers events status out = IsVerdict writers events status out
IsWritten true writers events status out = IsBriefVerdict writers events status out

-- No status if and only if the history has fewer completed views than are asked for. Then nothing is written.
abbrev pub IsVerdictWith : CheckOptions → Writers → List Event → Option Status → List ℕ → Type 0
IsVerdictWith options writers events (Some status) out = (options.views ≤ length (views_of (calls_of events))) × IsWritten options.quiet writers events status out
IsVerdictWith options writers events None out = (length (views_of (calls_of events)) < options.views) × (out ≡ [])

-- a text without a fault is a history within the limit
pub record IsJudgedWith (options : CheckOptions) (text : List ℕ) (answer : Option Status) (out : List ℕ) : Type 0 where
  pub events : List Event
  pub history : IsText options.limit text events
  pub verdict : IsVerdictWith options options.limit.writers events answer out

-- a text with a fault is refused as without options, but by the chosen limit
abbrev pub IsRefusedWith : CheckOptions → List ℕ → Option Status → List ℕ → Type 0
IsRefusedWith options text (Some status) out = IsRefused options.limit text status out
IsRefusedWith options text None out = ⊥

abbrev pub IsReportWith : CheckOptions → List ℕ → Option Status → List ℕ → Type 0
IsReportWith options text answer out = IsRefusedWith options text answer out ⊎ IsJudgedWith options text answer out
