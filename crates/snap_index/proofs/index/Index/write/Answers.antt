use Rattle.std.proofs.Common.{slice_get, option_copied, ap, ◌∙◌, arith}
use Rattle.snap_index.proofs.IndexedCalls.{got}
use Rattle.snap_index.proofs.LookUps.{update_in_row, no_zero}
use Rattle.snap_index.proofs.index.Index.write.Goals as goal

pub returns-in_err-place : goal.returns-in_err-place
returns-in_err-place g c =
    let e = c.in_err-place.ensures in
    ap option_copied c.from_residual.ensures ∙ no_zero c.args.self.now c.updates-updates.ensures.ordered.history c.args.k c.args.n (omega (arith, e))

pub returns : goal.returns
returns g c =
    let e = c.in_ok-place.ensures in
    let updates = c.updates-updates in
    got updates.result.now c.get.result c.in_ok-place.place c.get.ensures.lookup.0 c.get.ensures.lookup.1
    ∙ ap (λ z. slice_get z c.in_ok-place.place) updates.ensures.updates
    ∙ update_in_row c.args.self.now updates.ensures.ordered.history c.args.k c.args.n c.in_ok-place.place (omega (arith, e))
