use Rattle.std.proofs.Common.{◌≡◌, ◌≤◌, ◌<◌, [], ℕ, get_or, length}
use Rattle.snap_index.specs.Rows.{rows}
use Rattle.snap_index.proofs.table.filled.Given as goal

abbrev pub invariant-loop-count : goal.invariant-loop-count
invariant-loop-count g l = record {
  within : l.count ≤ length l.table;
  none : (i : ℕ) → l.count ≤ i → i < length l.table → get_or (rows l.table) i [] ≡ [];
}

abbrev pub decreases-loop-count : goal.decreases-loop-count
decreases-loop-count g l = l.count
