use Rattle.std.proofs.Common.{◌∙◌, ap, refl}
use Rattle.std.proofs.lemmas.Bool.{false≢true}
use Rattle.snap_core.proofs.OrderedPushes.{bounded_as}
use Rattle.snap_explain.specs.declared.test_case.Ending.TheVariants.{Failure}
use Rattle.snap_explain.specs.TestCases.{ended_case}
use Rattle.snap_runs.proofs.TestCases.{case_fails, case_passes}
use Rattle.snap_runs.proofs.test_case.case_by.Goals as goal

pub returns-then-is_atomic : goal.returns-then-is_atomic
returns-then-is_atomic g c = λ writers history.
    case_passes c.args.name.now writers c.args.index.now c.args.records.now c.in_ok-tally.tally c.status_of-status.result c.in_ok-text.text.items
    (bounded_as writers c.args.index.now c.event_count-events.ensures.ordered history) c.in_ok-tally.ensures.tally (c.status_of-status.ensures.by_writers writers history) (c.if-is_atomic.ensures.0 refl) c.in_ok-text.ensures

pub returns : goal.returns
returns g c = λ writers history.
    case_fails c.args.name.now writers c.args.index.now c.args.records.now c.in_ok-tally.tally c.status_of-status.result c.in_ok-said.said.items c.in_ok-text-2.text.items
    (bounded_as writers c.args.index.now c.event_count-events.ensures.ordered history) c.in_ok-tally.ensures.tally (c.status_of-status.ensures.by_writers writers history) (λ none. false≢true (c.if-is_atomic.ensures.1 none)) c.in_ok-said.ensures
    (c.in_ok-text-2.ensures ∙ ap (ended_case Failure c.args.name.now) c.deref.ensures.value)
