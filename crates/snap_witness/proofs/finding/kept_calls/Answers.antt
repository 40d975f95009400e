use Rattle.std.proofs.lemmas.Result.{IfOk-weaker}
use Rattle.snap_witness.specs.Keeping.{numbers_kept}
use Rattle.snap_witness.proofs.Answered.{none_exactly}
use Rattle.snap_witness.proofs.finding.kept_calls.Goals as goal

pub returns-clause-none : goal.returns-clause-none
returns-clause-none g c = IfOk-weaker c.first_kept.result _ _ (none_exactly g.O.Ownership.writers c.args.index.now c.event_count-events.ensures.kept (λ kept. kept.items) (numbers_kept c.args.index.now)) c.first_kept.ensures
