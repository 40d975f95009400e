use Rattle.std.proofs.Common.{◌+◌, Some, sym, ap, ◌∙◌}
use Rattle.std.specs.Prelude.{nat_lt}
use Rattle.snap_core.proofs.Recalled.{early_is}
use Rattle.snap_core.proofs.tables.Tables.ends_early.Goals as goal

pub returns-in-Some-Update : goal.returns-in-Some-Update
returns-in-Some-Update c = λ writers es r.
    let e = c.in-Some-Update.entry in
    let early = early_is writers c.args.self.now es c.in-EndUpdate.process e r (sym c.open_call.ensures ∙ c.in-Some-Update.is ∙ ap Some c.in-Some-Update.field-0-is) in
    rw c.in-EndUpdate.is (ap (λ n. nat_lt (n + 1) e.number) c.ended.ensures ∙ sym early)
