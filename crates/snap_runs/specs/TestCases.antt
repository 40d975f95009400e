-- The test case of a text.
use Rattle.snap_theory.specs.Versions.{IsAtomicBy}
use Rattle.snap_core.specs.declared.writers.Writers.{Writers}
use Rattle.std.specs.Prelude.{◌≡◌, ◌<◌, ◌≤◌, ◌++◌, ℕ, List, Option, Some, None, codes, decimal, length}
use Rattle.snap_core.specs.declared.limit.Limit.{Limit}
use Rattle.snap_core.specs.declared.event.Event.{Event}
use Rattle.snap_core.specs.Calls.{calls_of, views_of}
use Rattle.snap_text.specs.declared.fault.TextFault.{TextFault}
use Rattle.snap_check.specs.declared.status.Status.{Status}
use Rattle.snap_check.specs.Verdicts.{HasStatus}
use Rattle.snap_explain.specs.declared.test_case.Ending.TheVariants.{Failure, Error}
use Rattle.snap_explain.specs.declared.view.Entries.TheVariants.{OfFault}
use Rattle.snap_explain.specs.Explanations.{IsExplanation}
use Rattle.snap_explain.specs.Refusals.{IsRefusalExplanation}
use Rattle.snap_explain.specs.TestCases.{ended_case, passed_case}

-- the case of a history fails with its explanation
pub record ExplainsFailure (name : List ℕ) (events : List Event) (records : List ℕ) (out : List ℕ) : Type 0 where
  pub said : List ℕ
  pub explained : IsExplanation OfFault records (calls_of events) said
  pub case_is : out ≡ ended_case Failure name said

-- the status of a history, and its case by the records of its events: it passes if and only if the history is atomic
pub record IsJudgedCase (name : List ℕ) (writers : Writers) (events : List Event) (records : List ℕ) (status : Status) (out : List ℕ) : Type 0 where
  pub answers : HasStatus writers events status
  pub passes : IsAtomicBy writers (calls_of events) → out ≡ passed_case name
  pub fails : (IsAtomicBy writers (calls_of events) → ⊥) → ExplainsFailure name events records out

-- the sentence on a history with fewer completed views than it needs
abbrev pub few_views_text : ℕ → List ℕ
few_views_text least = codes "refused: fewer than " ++ decimal least ++ codes " views\n"

-- no status if and only if the history has fewer completed views than it needs
abbrev pub IsHistoryCase : List ℕ → ℕ → Writers → List Event → List ℕ → Option Status → List ℕ → Type 0
IsHistoryCase name least writers events records (Some status) out = (least ≤ length (views_of (calls_of events))) × IsJudgedCase name writers events records status out
IsHistoryCase name least writers events records None out = (length (views_of (calls_of events)) < least) × (out ≡ ended_case Failure name (few_views_text least))

-- the case of a text that is not a history has an error, which explains its first fault
pub record IsRefusalCase (name : List ℕ) (limit : Limit) (text : List ℕ) (place : ℕ) (fault : TextFault) (out : List ℕ) : Type 0 where
  pub said : List ℕ
  pub explained : IsRefusalExplanation limit text place fault said
  pub case_is : out ≡ ended_case Error name said
