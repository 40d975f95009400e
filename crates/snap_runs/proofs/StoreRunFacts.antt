-- The answer to a text of a store, by what the text tells.
use Rattle.std.proofs.Common.{◌≡◌, ◌++◌, [], ℕ, List, append_assoc, append-nil, inl, inr, Option, Some, None, Result, Ok, Err, refl}
use Rattle.std.specs.Prelude.{IfOk, IfSome}
use Rattle.std.specs.Global.{Vec}
use Rattle.std.specs.declared.alloc.AllocError.{AllocError}
use Rattle.snap_core.specs.Bounded.{IsHistoryBy}
use Rattle.snap_core.specs.Limited.{LimitedEvents}
use Rattle.snap_core.specs.declared.event.Event.{Event}
use Rattle.snap_core.specs.declared.limit.Limit.{Limit}
use Rattle.snap_core.specs.declared.writers.Writers.{Writers}
use Rattle.snap_core.specs.declared.writers.Writers.TheVariants.{Many}
use Rattle.snap_text.specs.declared.fault.TextFault.{TextFault}
use Rattle.snap_format.specs.declared.refusal.ReadRefusal.TheVariants as refusals
use Rattle.snap_format.specs.Stamps.{events_of}
use Rattle.snap_theory.proofs.Versioned.{versions_are_ordered}
use Rattle.snap_check.specs.declared.status.Status.{Status}
use Rattle.snap_check.specs.declared.status.Status.TheVariants.{Irregular, Refused}
use Rattle.snap_report.specs.Lines.{line_text}
use Rattle.snap_report.specs.Refusals.{refusal_line}
use Rattle.snap_runs.specs.declared.asked.Asked.{Asked}
use Rattle.snap_runs.specs.declared.asked.Asked.TheVariants.{Answer}
use Rattle.snap_runs.specs.declared.question.Question.{Question}
use Rattle.snap_runs.specs.declared.store_text.StoreText.TheVariants.{History, Contradiction}
use Rattle.snap_runs.specs.Answers.{IsAnswerOf}
use Rattle.snap_runs.specs.StoreAnswers.{IsAskedOf, IsStoreAnswer, contradiction_line}
use Rattle.snap_runs.specs.StoreTexts.{RefusesStore, TellsText}

pub of_many : (question : Question) (events : List Event) (records : List ℕ) (result : Result (Option Status × Vec ℕ) AllocError)
    → IfOk result (λ answer. (writers : Writers) → IsHistoryBy writers events → IsAnswerOf question writers events records answer.0 answer.1.items)
    → IfOk result (λ answer. IsHistoryBy Many events → IsAskedOf (Answer question) events records answer.0 answer.1.items)
of_many question events records (Ok answer) says = λ ordered. says Many ordered
of_many question events records (Err e) says = tt

-- the told events are an ordered history, by the law of versions
pub cut_answered : (asked : Asked) (limit : Limit) (known : Option (List ℕ)) (history : LimitedEvents) (records : Vec ℕ) (answer : Option Status) (out : List ℕ)
    → IfSome known (λ text. TellsText limit text (History history records)) → (IsHistoryBy Many history.events → IsAskedOf asked history.events records.items answer out) → IfSome known (λ text. IsStoreAnswer asked limit text answer out)
cut_answered asked limit None history records answer out told says = tt
cut_answered asked limit (Some text) history records answer out (sorted, is, tells) says = inr (inr (record {
  sorted = sorted;
  is = is;
  history = history;
  records = records.items;
  tells = tells;
  answered = says (versions_are_ordered (events_of sorted) history.events tells.cut.cut);
}))

pub contradiction_answered : (asked : Asked) (limit : Limit) (known : Option (List ℕ)) (ended begun : ℕ) (out : List ℕ)
    → IfSome known (λ text. TellsText limit text (Contradiction ended begun)) → out ≡ line_text (contradiction_line ended begun) → IfSome known (λ text. IsStoreAnswer asked limit text (Some Irregular) out)
contradiction_answered asked limit None ended begun out told said = tt
contradiction_answered asked limit (Some text) ended begun out (sorted, is, tells) said = inr (inl (record { sorted = sorted; is = is; ended = ended; begun = begun; tells = tells; status = refl; said = said }))

pub refusal_answered : (asked : Asked) (limit : Limit) (known : Option (List ℕ)) (place : ℕ) (fault : TextFault) (out : List ℕ)
    → IfSome known (λ text. RefusesStore limit text (refusals.Text place fault)) → out ≡ line_text (refusal_line place fault) → IfSome known (λ text. IsStoreAnswer asked limit text (Some Refused) out)
refusal_answered asked limit None place fault out first said = tt
refusal_answered asked limit (Some text) place fault out first said = inl (record { place = place; fault = fault; first = first; status = refl; said = said })

-- a line of two numbers, piece by piece
pub two_numbers : (first ended second begun newline : List ℕ) → ((((first ++ ended) ++ second) ++ begun) ++ newline) ≡ (first ++ (ended ++ (second ++ (begun ++ [])))) ++ newline
two_numbers first ended second begun newline = simp (append_assoc, append-nil)
