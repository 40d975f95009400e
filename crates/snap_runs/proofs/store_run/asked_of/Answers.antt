use Rattle.snap_runs.proofs.StoreRunFacts.{of_many}
use Rattle.snap_runs.proofs.store_run.asked_of.Goals as goal

pub returns-in-Answer-clause-answer : goal.returns-in-Answer-clause-answer
returns-in-Answer-clause-answer g c = rw c.in-Answer.is (of_many c.in-Answer.question c.args.history.now.events c.args.records.now c.answer_of.result c.answer_of.ensures.answer)
