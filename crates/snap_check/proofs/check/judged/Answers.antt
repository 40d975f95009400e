use Rattle.std.proofs.Common.{IfOk, subst, sym}
use Rattle.snap_core.specs.declared.writers.Writers.{Writers}
use Rattle.snap_core.specs.Bounded.{IsHistoryBy}
use Rattle.snap_check.specs.Options.{IsWritten}
use Rattle.snap_check.proofs.check.judged.Goals as goal

pub returns-then-checking : goal.returns-then-checking
returns-then-checking g c =
    let events = c.args.index.now in
    subst (λ quiet. IfOk c.brief_verdict_of.result (λ answer. (writers : Writers) → IsHistoryBy writers events → IsWritten quiet writers events answer.0 answer.1.items)) (sym c.if-checking.true) c.brief_verdict_of.ensures.by_writers
