use Rattle.std.proofs.Common.{◌≡◌, ◌+◌, length}
use Rattle.snap_core.specs.Calls.{calls_of, views_of}
use Rattle.snap_views.specs.inside.Sweeps.{IsSwept}
use Rattle.snap_views.proofs.sweep.greatest_before.Given as goal

abbrev pub invariant-loop-place : goal.invariant-loop-place
invariant-loop-place g l = record {
  size : length l.greatest.items ≡ length l.index + 1;
  sums : IsSwept (calls_of l.index) (length (views_of (calls_of l.index))) l.place l.greatest.items;
}
