-- The numbers of rows in columns: how they compare, and their bounds.
use Rattle.std.specs.Prelude.{ℕ, ◌+◌, ◌*◌, ◌<◌, ◌≤◌, ◌≡◌, List, [], length, get_or, nat_lt}
use Rattle.snap_masks.specs.declared.bounds.Bounds.{Bounds}

-- the number of a row in a column
abbrev pub number : List ℕ → ℕ → ℕ
number column place = get_or column place 0

-- two rows compare in one column as in the other
pub record IsOrderedAs (column keys : List ℕ) : Type 0 where
  pub count : length keys ≡ length column
  pub order : (a b : ℕ) → a < length column → b < length column → nat_lt (number keys a) (number keys b) ≡ nat_lt (number column a) (number column b)

-- for each of the keys there is a column in which rows compare as in it, and for each column one of the keys
pub record AreOrderedAs (columns keys : List (List ℕ)) : Type 0 where
  pub each : (t : ℕ) → t < length keys → (j : ℕ) × (j < length columns) × IsOrderedAs (get_or columns j []) (get_or keys t [])
  pub all : (j : ℕ) → j < length columns → (t : ℕ) × (t < length keys) × IsOrderedAs (get_or columns j []) (get_or keys t [])

-- the numbers of a block of rows are within bounds
abbrev pub IsBounded : List ℕ → ℕ → Bounds → Type 0
IsBounded numbers block b = (i : ℕ) → block * 512 ≤ i → i < block * 512 + 512 → i < length numbers → (b.least ≤ get_or numbers i 0) × (get_or numbers i 0 ≤ b.greatest)
