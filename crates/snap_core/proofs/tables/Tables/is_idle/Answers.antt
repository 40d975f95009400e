use Rattle.std.proofs.Common.{◌≡◌, not, Bool, true, false, refl}
use Rattle.snap_core.proofs.Recalled.{idle_is}
use Rattle.snap_core.proofs.tables.Tables.is_idle.Goals as goal

twice : (b : Bool) → b ≡ not (not b)
twice true = refl
twice false = refl

pub returns-then-not-is_begin : goal.returns-then-not-is_begin
returns-then-not-is_begin c = λ writers es r.
    let is = idle_is writers c.args.self.now es c.args.event.now r in
    rw (← is, ← c.is_begin.ensures, c.if-not-is_begin.true, ← c.process.ensures, ← c.open_call.ensures, c.is_none.ensures) (twice c.is_none.result)
