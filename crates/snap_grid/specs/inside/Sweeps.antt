-- How often rows of one column drop, by a sweep over their ends from the last to the first.
use Rattle.std.specs.Prelude.{ℕ, ◌-◌, ◌<◌, ◌≤◌, ◌≡◌, ◌&&◌, List, [], length, get_or, nat_lt}
use Rattle.std.specs.List.{count_by, range_with_len}
use Rattle.snap_grid.specs.Columns.{number}
use Rattle.snap_grid.specs.inside.Trees.{IsTree, sum_below_place}

-- none of the numbers is less than one before it
abbrev pub Rises : List ℕ → Type 0
Rises numbers = (i j : ℕ) → i ≤ j → j < length numbers → number numbers i ≤ number numbers j

-- the number of rows that have a smaller number than a row, and begin after its end
abbrev pub drops_from : List ℕ → List ℕ → List ℕ → ℕ → ℕ
drops_from numbers begins ends a = count_by (λ b. nat_lt (number numbers b) (number numbers a) && nat_lt (number ends a) (number begins b)) (range_with_len 0 (length begins))

-- how often each row drops
pub record AreDrops (numbers begins ends counts : List ℕ) : Type 0 where
  pub count : length counts ≡ length begins
  pub each : (a : ℕ) → a < length begins → number counts a ≡ drops_from numbers begins ends a

-- there is one column, and it is known how often each row drops
pub record AreDropsOfOne (columns : List (List ℕ)) (begins ends counts : List ℕ) : Type 0 where
  pub one : length columns ≡ 1
  pub drops : AreDrops (get_or columns 0 []) begins ends counts

-- the end and the place of each row, in the order of ends
pub record AreEndsInOrder (ends : List ℕ) (keys : List (ℕ × ℕ)) : Type 0 where
  pub count : length keys ≡ length ends
  pub row : (i : ℕ) (d : ℕ × ℕ) → i < length keys → (get_or keys i d).1 < length ends
  pub end : (i : ℕ) (d : ℕ × ℕ) → i < length keys → (get_or keys i d).0 ≡ number ends (get_or keys i d).1
  pub all : (a : ℕ) → a < length ends → (i : ℕ) × (i < length keys) × ((d : ℕ × ℕ) → (get_or keys i d).1 ≡ a)
  pub order : (i j : ℕ) (d : ℕ × ℕ) → i ≤ j → j < length keys → (get_or keys i d).0 ≤ (get_or keys j d).0

-- a tree has counted the ranks of the rows from `from` on
pub record HasCounted (size : ℕ) (ranks : List ℕ) (from : ℕ) (nodes : List ℕ) : Type 0 where
  pub tree : IsTree size nodes
  pub within : from ≤ length ranks
  pub most : (i : ℕ) → get_or nodes i 0 ≤ length ranks - from
  pub counts : (rank : ℕ) → sum_below_place size nodes rank ≡ count_by (λ b. nat_lt (number ranks b) rank) (range_with_len from (length ranks - from))
