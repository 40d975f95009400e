use Rattle.std.proofs.Common.{◌≡◌, ◌+◌, ◌*◌, ◌<◌, ◌≤◌, ℕ, get_or, length}
use Rattle.snap_views.specs.Rows.{row_number, sum_below}
use Rattle.snap_conditions.proofs.row.Row.of.Given as goal

abbrev pub invariant-loop-k : goal.invariant-loop-k
invariant-loop-k l = record {
  size : length l.sums ≡ 256;
  small : l.sum ≤ l.k * 4294967295;
  sum_is : l.sum ≡ sum_below (row_number l.numbers) l.k;
  sums_are : (j : ℕ) → j < l.k → get_or l.sums j 0 ≡ sum_below (row_number l.numbers) (j + 1);
}
