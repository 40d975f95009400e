use Rattle.std.proofs.Common.{◌≡◌, map, take}
use Rattle.snap_core.specs.Calls.{calls_of, views_of}
use Rattle.snap_views.specs.Quick.{shown_sum}
use Rattle.snap_views.proofs.quick_test.view_sums.Given as goal

abbrev pub invariant-loop-place : goal.invariant-loop-place
invariant-loop-place g l = l.sums.items ≡ map shown_sum (take l.place (views_of (calls_of l.index)))
