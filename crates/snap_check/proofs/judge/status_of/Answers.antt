use Rattle.snap_check.specs.Verdicts.{HasStatus}
use Rattle.snap_check.proofs.Verdicts.{has_status}
use Rattle.snap_core.specs.Bounded.{IsHistoryBy}
use Rattle.snap_core.specs.declared.writers.Writers.{Writers}
use Rattle.snap_core.proofs.OrderedPushes.{bounded_as}
use Rattle.snap_check.proofs.judge.status_of.Goals as goal

pub returns : goal.returns
returns g c =
    let es = c.args.index.now in
    let known = c.event_count-events.ensures in
    let judged : (writers : Writers) → IsHistoryBy writers es → HasStatus writers es c.status_by.result = λ writers history.
    (_, has_status writers es c.args.tally.now (record { kept = bounded_as writers es known.ordered history; whole = c.requires.tally }) c.status_by.result c.status_by.ensures) in
    record { status = judged g.O.Ownership.writers known.kept.history; by_writers = judged }
