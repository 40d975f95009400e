-- What the program answers to a question about a text.
use Rattle.snap_core.specs.declared.writers.Writers.{Writers}
use Rattle.std.specs.Prelude.{◌≡◌, ◌⊎◌, ⊤, ℕ, List, Option, Some, None}
use Rattle.snap_core.specs.declared.limit.Limit.{Limit}
use Rattle.snap_core.specs.declared.event.Event.{Event}
use Rattle.snap_text.specs.declared.fault.TextFault.{TextFault}
use Rattle.snap_format.specs.Records.{HaveRecords}
use Rattle.snap_format.specs.Texts.{HasFault}
use Rattle.snap_check.specs.Statuses.{code_of}
use Rattle.snap_check.specs.declared.status.Status.{Status}
use Rattle.snap_check.specs.declared.status.Status.TheVariants.{Refused}
use Rattle.snap_draw.specs.declared.window.Place.TheVariants.{Faults}
use Rattle.snap_draw.specs.Window.{usual_lines}
use Rattle.snap_explain.specs.Refusals.{IsRefusalExplanation}
use Rattle.snap_json.specs.Objects.{refusal_json}
use Rattle.snap_json.specs.Values.{IsLineOf}
use Rattle.snap_options.specs.declared.limits.TheConstants.{MOST_CALLS}
use Rattle.snap_report.specs.Lines.{line_text}
use Rattle.snap_report.specs.Refusals.{refusal_line}
use Rattle.snap_runs.specs.declared.question.Question.{Question}
use Rattle.snap_runs.specs.declared.question.Question.TheVariants.{Explanation, ExplanationDrawn, Object, TestCase, Witness, WitnessDrawn, WitnessMap, Page, Svg, Lines, Counts}
use Rattle.snap_runs.specs.declared.markup.Said.TheVariants.{Sentences, Whole}
use Rattle.snap_runs.specs.Drawing.{AnswersHistory}
use Rattle.snap_runs.specs.Explaining.{ExplainsHistory}
use Rattle.snap_runs.specs.Mapping.{MapsHistory}
use Rattle.snap_runs.specs.Markups.{is_lines, is_page, is_svg}
use Rattle.snap_runs.specs.Shrinking.{ShrinksHistory}
use Rattle.snap_runs.specs.Stats.{CountsHistory}
use Rattle.snap_runs.specs.Telling.{TellsHistory, object_name}
use Rattle.snap_runs.specs.TestCases.{IsHistoryCase, IsRefusalCase}
use Rattle.snap_runs.specs.WitnessDrawing.{DrawsWitness}

-- an answer that has a status
abbrev pub IsCertain : (Status → List ℕ → Type 0) → Option Status → List ℕ → Type 0
IsCertain Is (Some status) out = Is status out
IsCertain Is None out = ⊥

-- the status of a history whose components have so many writers, and what is written of it, by the records of its events
abbrev pub IsAnswerOf : Question → Writers → List Event → List ℕ → Option Status → List ℕ → Type 0
IsAnswerOf (Explanation detail) writers events records = IsCertain (ExplainsHistory detail writers events records)
IsAnswerOf (ExplanationDrawn listed) writers events records = AnswersHistory usual_lines 0 (Whole listed) is_lines writers events records
IsAnswerOf (Object named) writers events records = IsCertain (TellsHistory (object_name named.name.now) named.views writers events records)
IsAnswerOf (TestCase named) writers events records = IsHistoryCase named.name.now named.views writers events records
IsAnswerOf Witness writers events records = IsCertain (ShrinksHistory writers events)
IsAnswerOf WitnessDrawn writers events records = IsCertain (DrawsWitness writers events)
IsAnswerOf WitnessMap writers events records = IsCertain (MapsHistory writers events records)
IsAnswerOf (Page scheme window) writers events records = AnswersHistory window MOST_CALLS Sentences is_page writers events records
IsAnswerOf (Svg scheme window) writers events records = AnswersHistory window 0 Sentences is_svg writers events records
IsAnswerOf (Lines window) writers events records = AnswersHistory window 0 Sentences is_lines writers events records
IsAnswerOf (Counts None) writers events records = IsCertain (CountsHistory None events)
IsAnswerOf (Counts (Some name)) writers events records = IsCertain (CountsHistory (Some name.now) events)

-- the object of a text that is not a history
abbrev pub IsRefusedObject : List ℕ → ℕ → TextFault → List ℕ → Type 0
IsRefusedObject name place fault out = IsLineOf (refusal_json (object_name name) (code_of Refused) place fault) out

-- the line of the report of a text that is not a history
abbrev pub IsRefusalLine : ℕ → TextFault → List ℕ → Type 0
IsRefusalLine place fault out = out ≡ line_text (refusal_line place fault)

-- what is written of a text that is not a history, by its first fault and the place of that, within a limit
abbrev pub IsRefusalOf : Question → Limit → List ℕ → ℕ → TextFault → List ℕ → Type 0
IsRefusalOf (Explanation detail) limit text place fault = IsRefusalExplanation limit text place fault
IsRefusalOf (ExplanationDrawn listed) limit text place fault = IsRefusalExplanation limit text place fault
IsRefusalOf (Object named) limit text place fault = IsRefusedObject named.name.now place fault
IsRefusalOf (TestCase named) limit text place fault = IsRefusalCase named.name.now limit text place fault
IsRefusalOf Witness limit text place fault = IsRefusalLine place fault
IsRefusalOf WitnessDrawn limit text place fault = IsRefusalLine place fault
IsRefusalOf WitnessMap limit text place fault = IsRefusalLine place fault
IsRefusalOf (Page scheme window) limit text place fault = IsRefusalExplanation limit text place fault
IsRefusalOf (Svg scheme window) limit text place fault = IsRefusalExplanation limit text place fault
IsRefusalOf (Lines window) limit text place fault = IsRefusalExplanation limit text place fault
IsRefusalOf (Counts None) limit text place fault = IsRefusalLine place fault
IsRefusalOf (Counts (Some name)) limit text place fault = IsRefusedObject name.now place fault

-- The answer to a text that is a history within a limit. `Is` says what is answered to the events of a history, by their records and
-- by how many processes may write a component.
pub record IsOfHistory (Is : Writers → List Event → List ℕ → Option Status → List ℕ → Type 0) (limit : Limit) (text : List ℕ) (answer : Option Status) (out : List ℕ) : Type 0 where
  pub events : List Event
  pub records : List ℕ
  pub history : HaveRecords limit text events records
  pub answered : Is limit.writers events records answer out

-- A text with a fault is refused. `Is` says what is written of a text by its first fault and the place of that.
pub record IsOfRefusal (Is : Limit → List ℕ → ℕ → TextFault → List ℕ → Type 0) (limit : Limit) (text : List ℕ) (answer : Option Status) (out : List ℕ) : Type 0 where
  pub place : ℕ
  pub fault : TextFault
  pub first : HasFault limit text place fault
  pub refused : answer ≡ Some Refused
  pub said : Is limit text place fault out

-- the status of a text and what is written of it
abbrev pub AnswersBy : (Writers → List Event → List ℕ → Option Status → List ℕ → Type 0) → (Limit → List ℕ → ℕ → TextFault → List ℕ → Type 0) → Limit → List ℕ → Option Status → List ℕ → Type 0
AnswersBy OfHistory OfRefusal limit text answer out = IsOfRefusal OfRefusal limit text answer out ⊎ IsOfHistory OfHistory limit text answer out

-- the answer to a question about a text
abbrev pub IsAnswerTo : Question → Limit → List ℕ → Option Status → List ℕ → Type 0
IsAnswerTo question = AnswersBy (IsAnswerOf question) (IsRefusalOf question)

-- the answers to questions with a name

-- the object of a text with a name, whose history needs this number of completed views
abbrev pub IsObject : List ℕ → ℕ → Limit → List ℕ → Option Status → List ℕ → Type 0
IsObject name views = AnswersBy (λ writers events records. IsCertain (TellsHistory (object_name name) views writers events records)) (λ limit text. IsRefusedObject name)

-- its test case
abbrev pub IsTestCase : List ℕ → ℕ → Limit → List ℕ → Option Status → List ℕ → Type 0
IsTestCase name views = AnswersBy (IsHistoryCase name views) (IsRefusalCase name)

-- what its history has shown, as an object
abbrev pub IsCountsObject : List ℕ → Limit → List ℕ → Option Status → List ℕ → Type 0
IsCountsObject name = AnswersBy (λ writers events records. IsCertain (CountsHistory (Some name) events)) (λ limit text. IsRefusedObject name)

-- The questions whose answer has a status, whatever the history is. A window may name a call that the history lacks, and a test case
-- may need more completed views than the history has.
abbrev pub IsAlwaysAnswered : Question → Type 0
IsAlwaysAnswered (Explanation detail) = ⊤
IsAlwaysAnswered (ExplanationDrawn listed) = ⊤
IsAlwaysAnswered (Object named) = ⊤
IsAlwaysAnswered (TestCase named) = ⊥
IsAlwaysAnswered Witness = ⊤
IsAlwaysAnswered WitnessDrawn = ⊤
IsAlwaysAnswered WitnessMap = ⊤
IsAlwaysAnswered (Page scheme window) = window.place ≡ Faults
IsAlwaysAnswered (Svg scheme window) = window.place ≡ Faults
IsAlwaysAnswered (Lines window) = window.place ≡ Faults
IsAlwaysAnswered (Counts name) = ⊤
