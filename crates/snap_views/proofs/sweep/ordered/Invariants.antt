use Rattle.std.proofs.Common.{◌<◌, ℕ}
use Rattle.snap_core.specs.Calls.{calls_of}
use Rattle.snap_views.specs.Seen.{view_in}
use Rattle.snap_views.proofs.Ordering.{NoneAbove}
use Rattle.snap_views.proofs.sweep.ordered.Given as goal

abbrev pub invariant-loop-place : goal.invariant-loop-place
invariant-loop-place g l = (place : ℕ) → place < l.place → NoneAbove (calls_of l.index) (view_in (calls_of l.index) place)
