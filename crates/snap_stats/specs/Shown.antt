-- Which updates the views show, and who takes part in a history.
use Rattle.std.specs.Prelude.{ℕ, Bool, not, ◌&&◌, ◌+◌, ◌==◌, nat_lt, List, [], ◌∷◌, Option, Some, None, is_some, if◌then◌else◌, count_by, filter, find, map}
use Rattle.std.specs.List.{list_any, range_with_len}
use Rattle.snap_core.specs.declared.entry.Entry.{Entry}
use Rattle.snap_core.specs.Calls.{Call, entries_of, is_update_numbered, shown, views_of}
use Rattle.snap_core.specs.Entries.{component_count}
use Rattle.snap_core.specs.Orders.{is_update}
use Rattle.snap_index.specs.Updates.{is_update_of}

-- some entry has the component and the number of update u
abbrev pub is_listed : List Entry → Call → Bool
is_listed entries u = list_any (λ e. is_update_numbered e.component e.number u) entries

-- view r shows update u
unfoldable pub shows : Call → Call → Bool
shows r u = is_listed (entries_of r.operation) u

-- an update that no completed view shows
unfoldable pub is_unshown : List Call → Call → Bool
is_unshown calls u = is_update u && not (list_any (λ r. shows r u) (views_of calls))

-- view r shows an update of component k
unfoldable pub shows_component : ℕ → Call → Bool
shows_component k r = is_some (shown r k)

-- the number of different numbers in a list
abbrev pub distinct_count : List ℕ → ℕ
distinct_count [] = 0
distinct_count (n ∷ ns) = (if list_any (λ m. m == n) ns then 0 else 1) + distinct_count ns

abbrev pub process_in : Call → ℕ
process_in c = c.process

-- the number of processes that have a call
unfoldable pub process_count : List Call → ℕ
process_count calls = distinct_count (map process_in calls)

unfoldable pub all_components : List ℕ
all_components = range_with_len 0 component_count

abbrev pub has_update : List Call → ℕ → Bool
has_update calls k = nat_lt 0 (count_by (is_update_of k) calls)

-- the components that have an update, in rising order
unfoldable pub updated_components : List Call → List ℕ
updated_components calls = filter (has_update calls) all_components

abbrev pub process_of_call : Option Call → ℕ
process_of_call None = 0
process_of_call (Some c) = c.process

-- the writer of a component: the process of its first update, which makes all of them where there is one writer
unfoldable pub writer_of : List Call → ℕ → ℕ
writer_of calls k = process_of_call (find (is_update_numbered k 1) calls)
