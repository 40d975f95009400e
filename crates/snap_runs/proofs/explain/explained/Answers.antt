use Rattle.std.proofs.Common.{IfOk, subst}
use Rattle.snap_core.specs.Bounded.{IsHistoryBy}
use Rattle.snap_core.specs.declared.writers.Writers.{Writers}
use Rattle.snap_runs.specs.Explaining.{ExplainsHistory}
use Rattle.snap_runs.proofs.explain.explained.Goals as goal

pub returns : goal.returns
returns g c = subst (λ es. IfOk c.explained_by.result (λ answer. (writers : Writers) → IsHistoryBy writers es → ExplainsHistory c.args.detail writers es c.args.records.now answer.0 answer.1.items)) c.in_ok-index.ensures c.explained_by.ensures
