-- The numbers that views show, kept by components.
use Rattle.std.specs.Prelude.{ℕ, List, [], ◌∷◌, ◌≡◌, ◌≢◌, ◌<◌, ◌≤◌, ◌⊎◌, length, get_or, replicate}
use Rattle.snap_core.specs.declared.entry.Entry.{Entry}
use Rattle.snap_core.specs.Calls.{Call, views_of, shown_number}
use Rattle.snap_core.specs.Entries.{component_count}
use Rattle.snap_grid.specs.Columns.{number}
use Rattle.snap_tally.specs.Grids.{IsColumnOf}
use Rattle.snap_views.specs.Rows.{number_among}
use Rattle.snap_views.specs.Seen.{view_in}

-- a component's numbers, or `count` zeros if there are none
abbrev pub opened : ℕ → List ℕ → List ℕ
opened count [] = replicate count 0
opened count (n ∷ ns) = n ∷ ns

-- each component has `count` numbers, or none
pub record HasRows (count : ℕ) (table : List (List ℕ)) : Type 0 where
  pub size : length table ≡ component_count
  pub each : (k : ℕ) → k < component_count → (get_or table k [] ≡ []) ⊎ (length (get_or table k []) ≡ count)

-- the numbers of a view were put at its place, which had none, and no others changed
pub record IsPut (count place : ℕ) (entries : List Entry) (old new : List (List ℕ)) : Type 0 where
  pub rows : HasRows count new
  pub here : (k : ℕ) → k < component_count → number (get_or old k []) place ≡ 0 → number (get_or new k []) place ≡ number_among entries k
  pub others : (k p : ℕ) → k < component_count → p ≢ place → number (get_or new k []) p ≡ number (get_or old k []) p

-- the numbers of the first n views, of the components from `from` to before `to`; 0 for the other views
pub record AreFilled (calls : List Call) (from to n : ℕ) (table : List (List ℕ)) : Type 0 where
  pub rows : HasRows (length (views_of calls)) table
  pub seen : (place k : ℕ) → place < n → from ≤ k → k < to → k < component_count → number (get_or table k []) place ≡ shown_number (view_in calls place) k
  pub later : (place k : ℕ) → n ≤ place → k < component_count → number (get_or table k []) place ≡ 0

-- a component's numbers, or none if no view shows one
pub record IsRowOf (calls : List Call) (k : ℕ) (row : List ℕ) : Type 0 where
  pub none : row ≡ [] → (place : ℕ) → place < length (views_of calls) → shown_number (view_in calls place) k ≡ 0
  pub some : (row ≡ [] → ⊥) → IsColumnOf calls k row
