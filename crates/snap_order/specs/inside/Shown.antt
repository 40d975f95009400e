-- What a view shows beside the last entries of a board.
use Rattle.std.specs.Prelude.{ℕ, List, Option, Some, None, get_or, is_some, count_by, length, ◌≡◌, ◌<◌}
use Rattle.snap_core.specs.declared.entry.Entry.{Entry}
use Rattle.snap_core.specs.Entries.{component_count, entry_of}

-- the entry is the last of its component
abbrev pub IsLast : List (Option Entry) → Entry → Type 0
IsLast last e = get_or last e.component None ≡ Some e

-- the entries show of each component its last entry, or nothing if it has none
abbrev pub ShowsLast : List Entry → List (Option Entry) → Type 0
ShowsLast entries last = (k : ℕ) → k < component_count → entry_of k entries ≡ get_or last k None

-- the last entry of each component, and the number of components that have one
pub record AreCounted (last : List (Option Entry)) (written : ℕ) : Type 0 where
  pub each : length last ≡ component_count
  pub count : written ≡ count_by is_some last
