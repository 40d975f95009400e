use Rattle.snap_check.proofs.Verdicts.{brief_verdict}
use Rattle.snap_core.specs.Bounded.{IsHistoryBy}
use Rattle.snap_core.specs.declared.writers.Writers.{Writers}
use Rattle.snap_core.proofs.OrderedPushes.{bounded_as}
use Rattle.snap_check.proofs.judge.brief_verdict_of.Goals as goal

pub returns : goal.returns
returns g c =
    let es = c.args.index.now in
    let known = c.event_count-events.ensures in
    let judged = λ (writers : Writers) (history : IsHistoryBy writers es).
    brief_verdict writers es c.args.tally.now (record { kept = bounded_as writers es known.ordered history; whole = c.requires.tally })
    c.status_by.result c.in_ok-text.text.items c.status_by.ensures c.in_ok-text.ensures in
    record { verdict = judged g.O.Ownership.writers known.kept.history; by_writers = judged }
