use Rattle.std.proofs.Common.{◌≡◌, ◌<◌, ◌+◌, ℕ, [], length, get_or}
use Rattle.snap_masks.specs.Numbers.{IsOrderedAs}
use Rattle.snap_masks.proofs.column.by_ranks.Given as goal

-- the columns that are left are the first ones, and the others have their keys, that of the last one first
abbrev pub invariant-loop-column : goal.invariant-loop-column
invariant-loop-column l = record {
  count : length l.keys.items + length l.columns.items ≡ length l.fn.columns.items;
  left : (j : ℕ) → j < length l.columns.items → get_or l.columns.items j [] ≡ get_or l.fn.columns.items j [];
  taken : (j t : ℕ) → t < length l.keys.items → j + t + 1 ≡ length l.fn.columns.items → IsOrderedAs (get_or l.fn.columns.items j []) (get_or l.keys.items t []);
}

abbrev pub decreases-loop-column : goal.decreases-loop-column
decreases-loop-column l = length l.columns.items
