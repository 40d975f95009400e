use Rattle.std.proofs.Common.{◌≡◌, ◌≤◌, ◌<◌, ◌+◌, ◌*◌, ◌^◌, ℕ, Bool}
use Rattle.std.specs.Prelude.{nat_lt, sum_by, find}
use Rattle.std.specs.List.{range_with_len}
use Rattle.snap_grid.specs.Columns.{number}
use Rattle.snap_grid.proofs.one_column.clashes_of_one.Given as goal

abbrev pub invariant-loop-i : goal.invariant-loop-i
invariant-loop-i l = record {
  few : l.count ≤ l.i * 2 ^ 32;
  count : (f : ℕ → ℕ) → ((a : ℕ) → a < l.i → f (l.from + a) ≡ number l.counts a) → l.count ≡ sum_by f (range_with_len l.from l.i);
  first : (p : ℕ → Bool) → ((a : ℕ) → a < l.i → p (l.from + a) ≡ nat_lt 0 (number l.counts a)) → l.first ≡ find p (range_with_len l.from l.i);
}
