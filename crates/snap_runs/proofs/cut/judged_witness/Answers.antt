use Rattle.std.proofs.Common.{subst}
use Rattle.snap_core.specs.Bounded.{IsHistoryBy}
use Rattle.snap_core.specs.declared.writers.Writers.{Writers}
use Rattle.snap_runs.specs.Cutting.{IsNumbered}
use Rattle.snap_check.specs.Verdicts.{HasStatus}
use Rattle.snap_runs.proofs.cut.judged_witness.Goals as goal

pub returns-clause-status : goal.returns-clause-status
returns-clause-status g c = subst (λ es. (writers : Writers) → IsHistoryBy writers es → HasStatus writers es c.status_of.result) c.in_ok-index.ensures c.status_of.ensures.by_writers

pub returns-clause-witness : goal.returns-clause-witness
returns-clause-witness g c = subst (λ es. IsNumbered es c.in_ok-found.found) c.in_ok-index.ensures c.in_ok-found.ensures
