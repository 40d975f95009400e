-- Columns that rise together, and their sums.
use Rattle.std.specs.Prelude.{ℕ, ◌+◌, ◌<◌, ◌≤◌, ◌≡◌, ◌||◌, true, List, [], length, get_or}
use Rattle.snap_masks.specs.Limits.{row_limit}
use Rattle.snap_grid.specs.declared.together.Partner.{Partner}
use Rattle.snap_grid.specs.Columns.{HaveLength, any_passes, number, passes}

-- of any two rows none has a smaller number than the other in one column, and a greater one in the other column
abbrev pub RiseTogether : List ℕ → List ℕ → Type 0
RiseTogether ours theirs = (a b : ℕ) → number ours a < number ours b → number theirs a ≤ number theirs b

-- in each row their number is between the edges before and behind ours
abbrev pub AreBetween : List ℕ → List ℕ → List ℕ → Type 0
AreBetween edges ours theirs = (a : ℕ) → a < length ours → (number ours a + 1 < length edges) × (number edges (number ours a) ≤ number theirs a) × (number theirs a ≤ number edges (number ours a + 1))

-- the sum of two columns, row by row
pub record AreSums (ours theirs sums : List ℕ) : Type 0 where
  pub count : length sums ≡ length ours
  pub sum : (a : ℕ) → number sums a ≡ number ours a + number theirs a

-- one of the columns, by its place, and its sums with a column that rises together with it
pub record IsPartner (column : List ℕ) (columns : List (List ℕ)) (p : Partner) : Type 0 where
  pub few : length column ≤ row_limit
  pub within : p.place < length columns
  pub rise : RiseTogether column (get_or columns p.place [])
  pub count : length (get_or columns p.place []) ≡ length column
  pub sums : AreSums column (get_or columns p.place []) p.sums.items

-- columns to which one was added: they have as many rows, and tell of any two rows what the others and the column tell
pub record IsAdded (column : List ℕ) (columns added : List (List ℕ)) : Type 0 where
  pub rows : (n : ℕ) → HaveLength n columns → length column ≡ n → HaveLength n added
  pub same : (a b : ℕ) → any_passes true added a b ≡ (any_passes true columns a b || passes true (number column a) (number column b))
