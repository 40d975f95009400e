use Rattle.std.proofs.Common.{◌≡◌, ◌≤◌, ◌+◌, ◌-◌}
use Rattle.snap_grid.specs.inside.Trees.{node_sum, sum_below_place}
use Rattle.snap_grid.proofs.tree.sum_below.Given as goal

abbrev pub invariant-loop-low : goal.invariant-loop-low
invariant-loop-low l = record {
  some : 1 ≤ l.low;
  order : l.low ≤ l.high;
  within : l.high ≤ l.size + l.size;
  sum : l.sum + node_sum l.nodes l.low (l.high - l.low) ≡ sum_below_place l.size l.nodes l.place;
}

abbrev pub decreases-loop-low : goal.decreases-loop-low
decreases-loop-low l = l.high
