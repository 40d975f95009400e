-- What an index keeps of the calls of its history.
use Rattle.std.specs.Prelude.{ℕ, ◌≡◌, ◌<◌, ◌-◌, ◌++◌, List, [], length, replicate, map, count_by, get_or}
use Rattle.snap_core.specs.Calls.{calls_of, views_of, Call as SpecCall}
use Rattle.snap_core.specs.declared.entry.Entry.{Entry}
use Rattle.snap_core.specs.declared.event.Event.{Event}
use Rattle.snap_core.specs.Entries.{component_count}
use Rattle.snap_core.specs.Bounded.{IsBoundedOrdered}
use Rattle.snap_index.specs.declared.call.Call.{Call}
use Rattle.snap_index.specs.declared.call.Write.{Write}
use Rattle.snap_index.specs.declared.index.CompletedView.{CompletedView}
use Rattle.snap_index.specs.IndexedCalls.{as_indexed, number_of, write_of, entries_shown}
use Rattle.snap_index.specs.Updates.{updates_of, is_pending}

-- a list for each component; the last components may have none in `rows`
abbrev pub padded : {A : Type 0} → List (List A) → List (List A)
padded rows = rows ++ replicate (component_count - length rows) []

-- what is kept of a completed view
abbrev pub number_kept : CompletedView → ℕ
number_kept v = v.call

abbrev pub entries_kept : CompletedView → List Entry
entries_kept v = v.view.now

-- the call numbers of the views and what they show, what the updates of each component write, and the number of pending calls
pub record AreTables (calls : List SpecCall) (views : List CompletedView) (updates : List (List Write)) (pending : ℕ) : Type 0 where
  pub size : length updates ≡ component_count
  pub of_views : map number_kept views ≡ map number_of (views_of calls)
  pub of_shown : map entries_kept views ≡ map entries_shown (views_of calls)
  pub of_updates : (k : ℕ) → k < component_count → get_or updates k [] ≡ map write_of (updates_of k calls)
  pub of_pending : pending ≡ count_by is_pending calls

pub record IsIndex (events : List Event) (calls : List Call) (views : List CompletedView) (updates : List (List Write)) (pending : ℕ) : Type 0 where
  pub kept : IsBoundedOrdered events
  pub indexed_calls : calls ≡ map as_indexed (calls_of events)
  pub tables : AreTables (calls_of events) views updates pending
