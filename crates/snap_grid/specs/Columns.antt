-- Rows of numbers, kept by columns, and which of two rows has a greater number in some column.
use Rattle.std.specs.Prelude.{true, false, ℕ, ◌<◌, ◌≤◌, ◌≡◌, Bool, ◌&&◌, ◌||◌, cond, List, [], length, get_or, nat_lt}
use Rattle.std.specs.List.{list_any, range_with_len, count_by}
pub use Rattle.snap_masks.specs.Numbers.{number, IsOrderedAs, AreOrderedAs}
use Rattle.snap_masks.specs.Limits.{row_limit}

-- whether the first number is greater than the second, if `more`; else whether it is less
abbrev pub passes : Bool → ℕ → ℕ → Bool
passes more n x = cond more (nat_lt x n) (nat_lt n x)

-- whether the first row has in some column a greater number than the second, if `more`; else a smaller number
unfoldable pub any_passes : Bool → List (List ℕ) → ℕ → ℕ → Bool
any_passes more columns a b = list_any (λ column. passes more (number column a) (number column b)) columns

-- what a grid has of its rows: the columns, and the places of the begin and the end of each row
pub record GridValue : Type 0 where
  pub columns : List (List ℕ)
  pub begins : List ℕ
  pub ends : List ℕ

-- row a has a greater number than row b in some column; and it ends before b begins, or has a smaller number in some column
unfoldable pub clashes : GridValue → ℕ → ℕ → Bool
clashes g a b = any_passes true g.columns a b && (nat_lt (number g.ends a) (number g.begins b) || any_passes false g.columns a b)

-- row a has a greater number than row b in some column, and it ends before b begins
unfoldable pub drops : GridValue → ℕ → ℕ → Bool
drops g a b = any_passes true g.columns a b && nat_lt (number g.ends a) (number g.begins b)

pub record HaveSameRows (columns : List (List ℕ)) (begins ends : List ℕ) : Type 0 where
  pub few : length begins ≤ row_limit
  pub ended : length ends ≡ length begins
  pub each : (j : ℕ) → j < length columns → length (get_or columns j []) ≡ length begins

-- the rows, in order
abbrev pub rows_of : GridValue → List ℕ
rows_of g = range_with_len 0 (length g.begins)

-- the number of rows that a row clashes with
unfoldable pub clash_count : GridValue → ℕ → ℕ
clash_count g a = count_by (clashes g a) (rows_of g)

-- the number of rows that a row drops to
unfoldable pub drop_count : GridValue → ℕ → ℕ
drop_count g a = count_by (drops g a) (rows_of g)

unfoldable pub has_clash : GridValue → ℕ → Bool
has_clash g a = list_any (clashes g a) (rows_of g)

-- each column has n rows
abbrev pub HaveLength : ℕ → List (List ℕ) → Type 0
HaveLength n columns = (j : ℕ) → j < length columns → length (get_or columns j []) ≡ n

-- these columns have as many rows as the given ones, and tell alike of any two rows whether one has a greater number in some column
pub record TellAlike (columns keys : List (List ℕ)) : Type 0 where
  pub rows : (n : ℕ) → HaveLength n columns → HaveLength n keys
  pub same : (a b : ℕ) → any_passes true keys a b ≡ any_passes true columns a b
