use Rattle.std.proofs.Common.{ap, arith, length}
use Rattle.snap_core.specs.Calls.{calls_of, views_of}
use Rattle.snap_check.proofs.check.verdict.Goals as goal

-- by this answer a wrong body is refused at once, without a search
pub returns-then-view_count-checking-clause-by_writers : goal.returns-then-view_count-checking-clause-by_writers
returns-then-view_count-checking-clause-by_writers g c =
    let same = ap (λ es. length (views_of (calls_of es))) c.in_ok-index.ensures in
    λ writers history. (omega (arith, same, c.view_count.ensures, c.if-view_count-checking.true), c.new.ensures.items)

pub returns-then-view_count-checking-clause-verdict : goal.returns-then-view_count-checking-clause-verdict
returns-then-view_count-checking-clause-verdict g c = returns-then-view_count-checking-clause-by_writers g c g.O.Ownership.writers c.events-events.ensures.history.history
