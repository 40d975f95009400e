-- The answer to a text that is a history, and to one that is not.
use Rattle.std.proofs.Common.{◌≡◌, ◌<◌, ◌∙◌, inl, inr, ℕ, zero, suc, List, Option, Some, None, refl, subst, arith}
use Rattle.snap_core.specs.declared.limit.Limit.{Limit}
use Rattle.std.specs.Prelude.{IfSome}
use Rattle.snap_core.specs.declared.event.Event.{Event}
use Rattle.snap_text.specs.declared.fault.TextFault.{TextFault}
use Rattle.snap_format.specs.declared.refusal.ReadRefusal.{ReadRefusal}
use Rattle.snap_format.specs.declared.refusal.ReadRefusal.TheVariants as refusals
use Rattle.snap_csv.specs.Answers.{RefusalLeaves, RefusesText}
use Rattle.snap_format.specs.Records.{HaveRecords}
use Rattle.snap_explain.specs.Refusals.{IsRefusalExplanation, refusal_explanation}
use Rattle.snap_check.specs.declared.status.Status.{Status}
use Rattle.snap_check.specs.declared.status.Status.TheVariants.{Refused}
use Rattle.snap_runs.specs.declared.question.Question.{Question}
use Rattle.snap_runs.specs.declared.question.Question.TheVariants.{Explanation, ExplanationDrawn, Object, TestCase, Witness, WitnessDrawn, WitnessMap, Page, Svg, Lines, Counts}
use Rattle.snap_runs.specs.Answers.{IsAnswerOf, IsAnswerTo, IsRefusalOf}

pub answered_text : (question : Question) (limit : Limit) (text : List ℕ) (es : List Event) (records given : List ℕ) (answer : Option Status) (out : List ℕ) → HaveRecords limit text es records → given ≡ records → IsAnswerOf question limit.writers es given answer out → IsAnswerTo question limit text answer out
answered_text question limit text es records given answer out have same e =
    inr (record { events = es; records = records; history = have; answered = subst (λ rs. IsAnswerOf question limit.writers es rs answer out) same e })

-- the record at a place is looked up in the room, which has the text if there may be such a record
explained_there : (limit : Limit) (text room : List ℕ) (place : ℕ) (fault : TextFault) (out : List ℕ) → (0 < place → room ≡ text) → IsRefusalExplanation limit room place fault out → IsRefusalExplanation limit text place fault out
unfolding refusal_explanation
explained_there limit text room zero fault out leaves e = e
explained_there limit text room (suc n) fault out leaves e = subst (λ t. IsRefusalExplanation limit t (suc n) fault out) (leaves (omega arith)) e

-- so what is said of the room is said of the text
said_there : (question : Question) (limit : Limit) (text room : List ℕ) (place : ℕ) (fault : TextFault) (out : List ℕ) → (0 < place → room ≡ text) → IsRefusalOf question limit room place fault out → IsRefusalOf question limit text place fault out
said_there (Explanation detail) limit text room place fault out leaves e = explained_there limit text room place fault out leaves e
said_there (ExplanationDrawn listed) limit text room place fault out leaves e = explained_there limit text room place fault out leaves e
said_there (Object named) limit text room place fault out leaves e = e
said_there (TestCase named) limit text room place fault out leaves e =
    record { said = e.said; explained = explained_there limit text room place fault e.said leaves e.explained; case_is = e.case_is }
said_there Witness limit text room place fault out leaves e = e
said_there WitnessDrawn limit text room place fault out leaves e = e
said_there WitnessMap limit text room place fault out leaves e = e
said_there (Page scheme window) limit text room place fault out leaves e = explained_there limit text room place fault out leaves e
said_there (Svg scheme window) limit text room place fault out leaves e = explained_there limit text room place fault out leaves e
said_there (Lines window) limit text room place fault out leaves e = explained_there limit text room place fault out leaves e
said_there (Counts None) limit text room place fault out leaves e = e
said_there (Counts (Some name)) limit text room place fault out leaves e = e

pub refused_text : (question : Question) (limit : Limit) (known : Option (List ℕ)) (room given : List ℕ) (refusal : ReadRefusal) (place : ℕ) (fault : TextFault) (out : List ℕ) →
    IfSome known (λ text. RefusesText limit text refusal) → IfSome known (λ text. RefusalLeaves text room refusal) → refusal ≡ refusals.Text place fault → given ≡ room →
    IsRefusalOf question limit given place fault out → IfSome known (λ text. IsAnswerTo question limit text (Some Refused) out)
refused_text question limit None room given refusal place fault out first leaves is same e = tt
refused_text question limit (Some text) room given refusal place fault out first leaves is same e =
    let left : 0 < place → room ≡ text = subst (λ r. RefusalLeaves text room r) is leaves in
    inl (record {
      place = place;
      fault = fault;
      first = subst (λ r. RefusesText limit text r) is first;
      refused = refl;
      said = said_there question limit text given place fault out (λ some. same ∙ left some) e;
    })
