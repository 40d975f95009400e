-- What is answered to a text of a store, once its updates are cut.
use Rattle.std.specs.Prelude.{ℕ, List, [], ◌∷◌, ◌≡◌, ◌⊎◌, true, false, Option, Some, codes, decimal}
use Rattle.snap_core.specs.declared.event.Event.{Event}
use Rattle.snap_core.specs.declared.limit.Limit.{Limit}
use Rattle.snap_core.specs.declared.writers.Writers.TheVariants.{Many}
use Rattle.snap_core.specs.Limited.{LimitedEvents}
use Rattle.snap_text.specs.declared.fault.TextFault.{TextFault}
use Rattle.snap_format.specs.declared.stamped.Stamped.{Stamped}
use Rattle.snap_format.specs.StampedTexts.{IsStampedText}
use Rattle.snap_check.specs.declared.status.Status.{Status}
use Rattle.snap_check.specs.declared.status.Status.TheVariants.{Irregular, Refused}
use Rattle.snap_check.specs.Options.{IsWritten}
use Rattle.snap_report.specs.Lines.{Line, line_text}
use Rattle.snap_report.specs.Refusals.{refusal_line}
use Rattle.snap_runs.specs.declared.asked.Asked.{Asked}
use Rattle.snap_runs.specs.declared.asked.Asked.TheVariants.{Report, Verdicts, Answer}
use Rattle.snap_runs.specs.Answers.{IsAlwaysAnswered, IsAnswerOf, IsCertain}
use Rattle.snap_runs.specs.StoreTexts.{HasStoreFault, TellsContradiction, TellsHistory}

-- contradiction ended record E begun record B
abbrev pub contradiction_line : ℕ → ℕ → Line
contradiction_line ended begun = codes "contradiction" ∷ codes "ended" ∷ codes "record" ∷ decimal ended ∷ codes "begun" ∷ codes "record" ∷ decimal begun ∷ []

-- what is answered to the cut history, of many writers, by the records of its events
abbrev pub IsAskedOf : Asked → List Event → List ℕ → Option Status → List ℕ → Type 0
IsAskedOf Report events records = IsCertain (IsWritten false Many events)
IsAskedOf Verdicts events records = IsCertain (IsWritten true Many events)
IsAskedOf (Answer question) events records = IsAnswerOf question Many events records

-- the text tells a history, and that is answered
pub record AnswersCut (asked : Asked) (limit : Limit) (text : List ℕ) (answer : Option Status) (out : List ℕ) : Type 0 where
  pub sorted : List Stamped
  pub is : IsStampedText limit text sorted
  pub history : LimitedEvents
  pub records : List ℕ
  pub tells : TellsHistory limit sorted history records
  pub answered : IsAskedOf asked history.events records answer out

-- the text tells a contradiction, and its line says so
pub record AnswersContradiction (limit : Limit) (text : List ℕ) (answer : Option Status) (out : List ℕ) : Type 0 where
  pub sorted : List Stamped
  pub is : IsStampedText limit text sorted
  pub ended : ℕ
  pub begun : ℕ
  pub tells : TellsContradiction sorted ended begun
  pub status : answer ≡ Some Irregular
  pub said : out ≡ line_text (contradiction_line ended begun)

-- the text has a fault, and its line says so
pub record RefusesStoreText (limit : Limit) (text : List ℕ) (answer : Option Status) (out : List ℕ) : Type 0 where
  pub place : ℕ
  pub fault : TextFault
  pub first : HasStoreFault limit text place fault
  pub status : answer ≡ Some Refused
  pub said : out ≡ line_text (refusal_line place fault)

-- the status of a text of a store and what is written of it
abbrev pub IsStoreAnswer : Asked → Limit → List ℕ → Option Status → List ℕ → Type 0
IsStoreAnswer asked limit text answer out = RefusesStoreText limit text answer out ⊎ (AnswersContradiction limit text answer out ⊎ AnswersCut asked limit text answer out)

-- what is asked has an answer, whatever the history is
abbrev pub IsCertainlyAsked : Asked → Type 0
IsCertainlyAsked Report = Unit {0}
IsCertainlyAsked Verdicts = Unit {0}
IsCertainlyAsked (Answer question) = IsAlwaysAnswered question
