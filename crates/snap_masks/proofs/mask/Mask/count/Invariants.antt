use Rattle.std.proofs.Common.{◌≡◌, take}
use Rattle.std.specs.Prelude.{count_ones, sum_by}
use Rattle.snap_masks.proofs.mask.Mask.count.Given as goal

abbrev pub invariant-loop-lane : goal.invariant-loop-lane
invariant-loop-lane l = l.count ≡ sum_by count_ones (take l.lane l.self-inside.lanes)
