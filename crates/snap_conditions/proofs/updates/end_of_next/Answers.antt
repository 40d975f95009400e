use Rattle.std.proofs.Common.{◌+◌, ◌<◌, suc, sym, ap, ◌∙◌, arith}
use Rattle.snap_conditions.specs.inside.Places.{end_of}
use Rattle.snap_conditions.proofs.NoUpdates.{no_update_past}
use Rattle.snap_conditions.proofs.updates.end_of_next.Goals as goal

pub returns-in_err-checked_add : goal.returns-in_err-checked_add
returns-in_err-checked_add g c =
    let past : ¬ (c.args.n + 1 < 4294967296) = c.in_err-checked_add.ensures in
    c.from_residual.ensures ∙ sym (ap end_of (no_update_past c.args.index.now c.requires c.args.k (suc c.args.n) (omega (arith, past))))
