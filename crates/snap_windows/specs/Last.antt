-- The last update of each component.
use Rattle.std.specs.Prelude.{ℕ, ◌==◌, ◌≡◌, List, [], ◌∷◌, Option, Some, None, slice_index_or, if◌then◌else◌}
use Rattle.snap_core.specs.declared.entry.Entry.{Entry}
use Rattle.snap_core.specs.declared.event.Event.{Event}
use Rattle.snap_core.specs.declared.event.Event.TheVariants.{BeginUpdate, BeginView, EndUpdate, EndView}
use Rattle.snap_windows.specs.declared.last.Wrote.{Wrote}

-- the last update of component k after one more event
abbrev pub wrote_by : ℕ → Event → Option Wrote → Option Wrote
wrote_by k (BeginUpdate p e) last = if e.component == k then Some (record { process = p; entry = e }) else last
wrote_by k (BeginView p) last = last
wrote_by k (EndUpdate p) last = last
wrote_by k (EndView p es) last = last

-- the last update of component k in a list, or what was there before the list
abbrev pub last_update : ℕ → Option Wrote → List Event → Option Wrote
last_update k last [] = last
last_update k last (e ∷ es) = last_update k (wrote_by k e last) es

abbrev pub entry_in : Option Wrote → Option Entry
entry_in None = None
entry_in (Some w) = Some w.entry

-- a table has the last update of each component in a list
abbrev pub HasLast : List (Option Wrote) → List Event → Type 0
HasLast last es = (k : ℕ) → slice_index_or last k None ≡ last_update k None es

-- a table has what was left of each component
abbrev pub HasLeft : List (Option Wrote) → (ℕ → Option Entry) → Type 0
HasLeft last left = (k : ℕ) → entry_in (slice_index_or last k None) ≡ left k
