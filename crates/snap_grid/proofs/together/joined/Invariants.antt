use Rattle.std.proofs.Common.{◌≡◌, ◌||◌, true, length, ℕ}
use Rattle.snap_grid.specs.Columns.{HaveLength, any_passes}
use Rattle.snap_grid.proofs.together.joined.Given as goal

-- the columns that are left and the keys together tell of any two rows what all columns tell
abbrev pub invariant-loop-column : goal.invariant-loop-column
invariant-loop-column l = record {
  left : (n : ℕ) → HaveLength n l.fn.columns.items → HaveLength n l.columns.items;
  rows : (n : ℕ) → HaveLength n l.fn.columns.items → HaveLength n l.keys.items;
  same : (a b : ℕ) → (any_passes true l.keys.items a b || any_passes true l.columns.items a b) ≡ any_passes true l.fn.columns.items a b;
}

abbrev pub decreases-loop-column : goal.decreases-loop-column
decreases-loop-column l = length l.columns.items
