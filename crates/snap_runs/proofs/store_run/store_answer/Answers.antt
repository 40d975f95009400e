use Rattle.std.proofs.Common.{subst}
use Rattle.std.specs.Prelude.{IfSome}
use Rattle.snap_core.specs.Bounded.{IsHistoryBy}
use Rattle.snap_core.specs.Counting.{inner_of}
use Rattle.snap_core.specs.declared.writers.Writers.TheVariants.{Many}
use Rattle.snap_runs.specs.StoreAnswers.{IsAskedOf}
use Rattle.snap_runs.specs.StoreTexts.{RefusesStore, TellsText}
use Rattle.snap_runs.proofs.StoreRunFacts.{cut_answered, refusal_answered}
use Rattle.snap_runs.proofs.store_run.store_answer.Goals as goal

pub returns-in-Ok-History-clause-answer : goal.returns-in-Ok-History-clause-answer
returns-in-Ok-History-clause-answer g c =
    let read = c.in-Ok-History in
    let known = g.R.Read.remaining (inner_of c.args.reader.now) in
    let answer = c.in_ok-asked_of-in-Ok-History.field-0 in
    cut_answered c.args.asked c.args.limit known read.history read.records answer.0 answer.1.items
    (subst (λ told. IfSome known (λ text. TellsText c.args.limit text told)) read.field-0-is read.ensures.text)
    (subst (λ records. IsHistoryBy Many read.history.events → IsAskedOf c.args.asked read.history.events records answer.0 answer.1.items) c.deref.ensures.value c.in_ok-asked_of-in-Ok-History.ensures.answer)

pub returns-in-Err-Text-clause-answer : goal.returns-in-Err-Text-clause-answer
returns-in-Err-Text-clause-answer g c =
    let read = c.in-Err-Text in
    let known = g.R.Read.remaining (inner_of c.args.reader.now) in
    refusal_answered c.args.asked c.args.limit known read.place read.fault c.in_ok-text-in-Err-Text.text.items
    (subst (λ refusal. IfSome known (λ text. RefusesStore c.args.limit text refusal)) read.field-0-is read.ensures.text) c.in_ok-text-in-Err-Text.ensures
