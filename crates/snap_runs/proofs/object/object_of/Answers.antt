use Rattle.std.proofs.Common.{◌≤◌, ◌∙◌, ℕ, List, inr, ap, arith, length, subst}
use Rattle.std.proofs.lemmas.Result.{IfOk-weaker}
use Rattle.std.specs.Prelude.{IfOk}
use Rattle.snap_core.specs.Bounded.{IsHistoryBy}
use Rattle.snap_core.specs.declared.writers.Writers.{Writers}
use Rattle.snap_check.specs.declared.status.Status.TheVariants.{Refused}
use Rattle.snap_core.specs.Calls.{calls_of, views_of}
use Rattle.snap_runs.specs.Telling.{IsToldHistory, TellsHistory}
use Rattle.snap_runs.proofs.Telling.{told_few}
use Rattle.snap_runs.proofs.object.object_of.Goals as goal

pub returns-then-views-named : goal.returns-then-views-named
returns-then-views-named g c = λ writers history.
    let views = c.args.named.views in
    let es = c.args.history.now.events in
    subst (λ (name : List ℕ). TellsHistory name views writers es c.args.records.now Refused c.in_ok-line.line.items) (c.deref.ensures ∙ c.in_ok-shown.ensures)
    (told_few c.deref.result.now views writers es c.args.records.now c.view_count-views.result c.code-code.result c.in_ok-line.line.items
    (c.view_count-views.ensures ∙ ap (λ es. length (views_of (calls_of es))) c.in_ok-index.ensures) c.if-views-named.true c.code-code.ensures c.in_ok-line.ensures)

pub returns : goal.returns
returns g c =
    let views = c.args.named.views in
    let es = c.args.history.now.events in
    let name = c.deref-2.result.now in
    let same = ap (λ es. length (views_of (calls_of es))) c.in_ok-index.ensures in
    let enough : views ≤ length (views_of (calls_of es)) = omega (arith, same, c.view_count-views.ensures, c.if-views-named.false) in
    subst (λ (name : List ℕ). IfOk c.object_by.result (λ answer. (writers : Writers) → IsHistoryBy writers es → TellsHistory name views writers es c.args.records.now answer.0 answer.1.items)) (c.deref-2.ensures ∙ c.in_ok-shown.ensures)
    (IfOk-weaker c.object_by.result _ _ (λ answer told writers history. inr (enough, subst (λ es. (writers : Writers) → IsHistoryBy writers es → IsToldHistory name writers es c.args.records.now answer.0 answer.1.items) c.in_ok-index.ensures told writers history)) c.object_by.ensures)
