use Rattle.std.proofs.Common.{◌≡◌, length, subst, arith}
use Rattle.snap_core.specs.Calls.{calls_of, views_of}
use Rattle.snap_tally.specs.inside.Grids.{ArePlaced}
use Rattle.snap_tally.proofs.Grids.{placed}
use Rattle.snap_tally.proofs.view_grid.places_of.Goals as goal

pub returns : goal.returns
returns g c =
    let es = c.args.index.now in
    let n = length (views_of (calls_of es)) in
    let size : c.loop-place.place ≡ n = omega (arith, c.loop-place-test.false, c.loop-place.auto.place-end, c.view_count-place-end.ensures) in
    placed es c.requires n c.loop-place.begins.items c.loop-place.ends.items (omega arith) (subst (λ z. ArePlaced (calls_of es) z c.loop-place.begins.items c.loop-place.ends.items) size c.loop-place.invariant)
