use Rattle.std.proofs.Common.{◌≡◌, ◌<◌, ℕ, length, get_or}
use Rattle.snap_grid.specs.Columns.{number}
use Rattle.snap_grid.proofs.sweep.ends_in_order.Given as goal

abbrev pub invariant-loop-row : goal.invariant-loop-row
invariant-loop-row l = record {
  count : length l.keys.items ≡ l.row;
  each : (i : ℕ) (d : ℕ × ℕ) → i < l.row → get_or l.keys.items i d ≡ (number l.ends i, i);
}
