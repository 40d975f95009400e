use Rattle.std.proofs.Common.{◌-◌, ◌≤◌}
use Rattle.snap_grid.proofs.together.cross_in_samples.Given as goal

abbrev pub invariant-loop-row : goal.invariant-loop-row
invariant-loop-row l = l.step ≤ l.row

abbrev pub decreases-loop-row : goal.decreases-loop-row
decreases-loop-row l = l.count - l.row
