-- The numbers that views show of each component.
use Rattle.std.specs.Prelude.{ℕ, ◌<◌, ◌≤◌, ◌≡◌, List, [], length, get_or}
use Rattle.snap_core.specs.Calls.{Call, views_of, shown_number}
use Rattle.snap_grid.specs.Columns.{number}
use Rattle.snap_views.specs.Seen.{view_in}

-- the column of component k: the number that each view shows of it
pub record IsColumnOf (calls : List Call) (k : ℕ) (column : List ℕ) : Type 0 where
  pub count : length column ≡ length (views_of calls)
  pub each : (place : ℕ) → place < length (views_of calls) → number column place ≡ shown_number (view_in calls place) k

-- a column for each component from `from` to before `to` of which some view shows a number, and no column of another component
pub record AreColumnsOf (calls : List Call) (from to : ℕ) (columns : List (List ℕ)) : Type 0 where
  pub each : (j : ℕ) → j < length columns → (k : ℕ) × (from ≤ k) × (k < to) × IsColumnOf calls k (get_or columns j [])
  pub all : (place k : ℕ) → place < length (views_of calls) → from ≤ k → k < to → 0 < shown_number (view_in calls place) k → (j : ℕ) × (j < length columns) × IsColumnOf calls k (get_or columns j [])
