use Rattle.std.proofs.Common.{◌<◌, ◌≤◌, length, ℕ, ◌+◌}
use Rattle.snap_grid.specs.Columns.{number}
use Rattle.snap_grid.proofs.together.are_between.Given as goal

abbrev pub invariant-loop-row : goal.invariant-loop-row
invariant-loop-row l = (a : ℕ) → a < l.row → (number l.ours a + 1 < length l.edges) × (number l.edges (number l.ours a) ≤ number l.theirs a) × (number l.theirs a ≤ number l.edges (number l.ours a + 1))
