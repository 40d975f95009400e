use Rattle.snap_core.specs.Calls.{calls_of}
use Rattle.snap_tally.specs.inside.Grids.{ArePlaced}
use Rattle.snap_tally.proofs.view_grid.places_of.Given as goal

abbrev pub invariant-loop-place : goal.invariant-loop-place
invariant-loop-place g l = ArePlaced (calls_of l.index) l.place l.begins.items l.ends.items
