use Rattle.snap_format.proofs.Histories.{text_kept}
use Rattle.snap_core.specs.Counting.{inner_of}
use Rattle.snap_format.specs.Records.{HaveRecords}
use Rattle.snap_check.proofs.Runs.{with_text}
use Rattle.snap_runs.proofs.Answering.{answered_text, refused_text}
use Rattle.snap_runs.proofs.ask.answer_to.Goals as goal

pub returns-in-Ok-clause-answer : goal.returns-in-Ok-clause-answer
returns-in-Ok-clause-answer g c =
    let es = c.in-Ok.history.events in
    let records = c.in-Ok.records.items in
    with_text (λ text. HaveRecords c.args.limit text es records) _ (g.R.Read.remaining (inner_of c.args.reader.now)) c.in-Ok.ensures.text
    (λ text have. answered_text c.args.question c.args.limit text es records c.deref.result.now _ _ have c.deref.ensures.value (c.in_ok-answer_of-in-Ok.ensures.answer c.args.limit.writers (text_kept c.args.limit text es have.history).history))

pub returns-in-Err-Text-clause-answer : goal.returns-in-Err-Text-clause-answer
returns-in-Err-Text-clause-answer g c =
    let read = c.in-Err-Text in
    refused_text c.args.question c.args.limit (g.R.Read.remaining (inner_of c.args.reader.now)) c.read.new.room.items c.deref-in-Err-Text.result.now read.field-0 read.place read.fault _
    read.ensures.text read.ensures.room read.field-0-is c.deref-in-Err-Text.ensures.value (rw (← read.place-is, ← read.fault-is) c.in_ok-text-in-Err-Text.ensures)
