use Rattle.std.proofs.Common.{◌≤◌, ◌<◌, ap, arith, length, subst}
use Rattle.snap_core.specs.Bounded.{IsHistoryBy}
use Rattle.snap_core.specs.declared.writers.Writers.{Writers}
use Rattle.snap_core.specs.Calls.{calls_of, views_of}
use Rattle.snap_runs.specs.TestCases.{IsJudgedCase}
use Rattle.snap_runs.proofs.test_case.judged_case.Goals as goal

pub returns-then-view_count-named : goal.returns-then-view_count-named
returns-then-view_count-named g c =
    let same = ap (λ es. length (views_of (calls_of es))) c.in_ok-index.ensures in
    let few : length (views_of (calls_of c.args.history.now.events)) < c.args.named.views = omega (arith, same, c.view_count.ensures, c.if-view_count-named.true) in
    λ writers history. (few, c.in_ok-text.ensures)

pub returns : goal.returns
returns g c =
    let same = ap (λ es. length (views_of (calls_of es))) c.in_ok-index.ensures in
    let enough : c.args.named.views ≤ length (views_of (calls_of c.args.history.now.events)) = omega (arith, same, c.view_count.ensures, c.if-view_count-named.false) in
    λ writers history. (enough, subst (λ es. (writers : Writers) → IsHistoryBy writers es → IsJudgedCase c.args.named.name.now writers es c.args.records.now c.in_ok-status.status c.in_ok-status.text.items) c.in_ok-index.ensures c.in_ok-status.ensures writers history)
