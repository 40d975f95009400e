use Rattle.std.proofs.Common.{◌≡◌, map}
use Rattle.std.specs.List.{range_with_len}
use Rattle.snap_core.specs.Calls.{calls_of}
use Rattle.snap_views.specs.Chains.{summed_at}
use Rattle.snap_views.proofs.view_chain.keys.Given as goal

abbrev pub invariant-loop-place : goal.invariant-loop-place
invariant-loop-place g l = l.keys.items ≡ map (summed_at (calls_of l.index)) (range_with_len 0 l.place)
