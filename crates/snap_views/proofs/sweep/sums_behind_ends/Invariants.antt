use Rattle.std.proofs.Common.{◌≡◌, ◌+◌, length}
use Rattle.snap_core.specs.Calls.{calls_of}
use Rattle.snap_views.specs.inside.Sweeps.{IsSwept}
use Rattle.snap_views.proofs.sweep.sums_behind_ends.Given as goal

abbrev pub invariant-loop-place : goal.invariant-loop-place
invariant-loop-place g l = record {
  size : length l.behind.items ≡ length l.index + 1;
  sums : IsSwept (calls_of l.index) l.place 0 l.behind.items;
}
