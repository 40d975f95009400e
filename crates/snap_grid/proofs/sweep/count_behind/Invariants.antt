use Rattle.std.proofs.Common.{◌≤◌, ◌<◌, ℕ}
use Rattle.snap_grid.specs.Columns.{number}
use Rattle.snap_grid.specs.inside.Sweeps.{HasCounted}
use Rattle.snap_grid.proofs.sweep.count_behind.Given as goal

abbrev pub invariant-loop-first : goal.invariant-loop-first
invariant-loop-first l = record {
  counted : HasCounted l.size l.ranks l.first l.nodes;
  before : l.first ≤ l.from;
  behind : (b : ℕ) → l.first ≤ b → b < l.from → l.end < number l.begins b;
}

abbrev pub decreases-loop-first : goal.decreases-loop-first
decreases-loop-first l = l.first
