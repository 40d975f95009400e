use Rattle.std.proofs.Common.{◌≡◌, ◌<◌, length, ℕ, ◌+◌}
use Rattle.snap_grid.specs.Columns.{number}
use Rattle.snap_grid.proofs.together.sums_of.Given as goal

abbrev pub invariant-loop-row : goal.invariant-loop-row
invariant-loop-row l = record {
  count : length l.sums.items ≡ l.row;
  sum : (a : ℕ) → a < l.row → number l.sums.items a ≡ number l.ours a + number l.theirs a;
}
