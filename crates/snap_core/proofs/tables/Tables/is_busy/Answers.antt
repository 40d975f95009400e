use Rattle.snap_core.proofs.Recalled.{busy_is}
use Rattle.snap_core.proofs.tables.Tables.is_busy.Goals as goal

pub returns-then-is_begin : goal.returns-then-is_begin
returns-then-is_begin c = λ writers es r.
    let is = busy_is writers c.args.self.now es c.args.event.now r in
    rw (← is, ← c.is_begin.ensures, c.if-is_begin.true, ← c.process.ensures, ← c.open_call.ensures) c.is_some.ensures
