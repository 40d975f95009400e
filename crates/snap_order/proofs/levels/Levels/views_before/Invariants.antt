use Rattle.std.proofs.Common.{◌-◌, ◌≤◌}
use Rattle.snap_order.proofs.levels.Levels.views_before.Given as goal

abbrev pub invariant-loop-low : goal.invariant-loop-low
invariant-loop-low g l = l.low ≤ l.high

abbrev pub decreases-loop-low : goal.decreases-loop-low
decreases-loop-low g l = l.high - l.low
