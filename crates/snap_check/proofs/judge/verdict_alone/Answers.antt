use Rattle.snap_core.specs.Calls.{calls_of}
use Rattle.snap_order.proofs.PrintedNumbers.{all_of_order}
use Rattle.snap_report.specs.Orders.{HasLine}
use Rattle.snap_check.proofs.Verdicts.{verdict_by}
use Rattle.snap_core.proofs.OrderedPushes.{bounded_as}
use Rattle.snap_check.proofs.judge.verdict_alone.Goals as goal

pub report_in-requires-clause-calls : goal.report_in-requires-clause-calls
report_in-requires-clause-calls g c = λ numbers given.
    let es = c.args.index.now in
    all_of_order (HasLine (calls_of es)) es (λ n below kind. record { below = below; kind = kind }) numbers.now (c.requires.order numbers given)

pub returns : goal.returns
returns g c = λ writers history.
    verdict_by writers c.args.index.now c.args.tally.now (record { kept = bounded_as writers c.args.index.now c.event_count-events.ensures.ordered history; whole = c.requires.tally }) c.args.order
    c.requires.given c.requires.order c.status_by.result c.in_ok-text.text.items c.status_by.ensures c.in_ok-text.ensures
