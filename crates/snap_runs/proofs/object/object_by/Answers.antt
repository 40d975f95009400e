use Rattle.snap_core.proofs.OrderedPushes.{bounded_as}
use Rattle.snap_runs.proofs.Telling.{told_history}
use Rattle.snap_runs.proofs.object.object_by.Goals as goal

pub returns : goal.returns
returns g c = λ writers history.
    told_history c.args.name.now writers c.args.index.now c.args.records.now c.in_ok-tally.tally c.status_of-status.result c.code.result c.in_ok-line.line.items
    (bounded_as writers c.args.index.now c.event_count-events.ensures.ordered history) c.in_ok-tally.ensures.tally (c.status_of-status.ensures.by_writers writers history) c.code.ensures c.in_ok-line.ensures
