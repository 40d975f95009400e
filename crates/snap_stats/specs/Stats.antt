-- What a run has shown: the counts of its history, over all its events and calls.
use Rattle.std.specs.Prelude.{ℕ, List, count_by, length, map}
use Rattle.snap_core.specs.declared.event.Event.{Event}
use Rattle.snap_core.specs.Calls.{Call, calls_of, views_of}
use Rattle.snap_core.specs.Orders.{is_update}
use Rattle.snap_index.specs.Updates.{is_pending, is_update_of}
use Rattle.snap_stats.specs.declared.stats.Stats.{Stats}
use Rattle.snap_stats.specs.declared.stats.ComponentStats.{ComponentStats}
use Rattle.snap_stats.specs.declared.overlaps.Overlapping.{Overlapping}
use Rattle.snap_stats.specs.Overlaps.{longest_call, most_open, overlaps_nothing, overlaps_update, overlaps_view}
use Rattle.snap_stats.specs.Shown.{is_unshown, process_count, shows_component, updated_components, writer_of}

-- the numbers of completed views that overlap an update, another completed view, and neither
abbrev pub overlapping_of : List Call → Overlapping
overlapping_of calls = record {
  update = count_by (overlaps_update calls) (views_of calls);
  view = count_by (overlaps_view calls) (views_of calls);
  nothing = count_by (overlaps_nothing calls) (views_of calls);
}

-- a component with its writer, its updates, and the completed views that show it
abbrev pub component_stats : List Call → ℕ → ComponentStats
component_stats calls k = record {
  component = k;
  writer = writer_of calls k;
  updates = count_by (is_update_of k) calls;
  views = count_by (shows_component k) (views_of calls);
}

-- the counts of each component that has an update
unfoldable pub components_of : List Call → List ComponentStats
components_of calls = map (component_stats calls) (updated_components calls)

-- the counts of a history of `events` events with these calls
abbrev pub counts_of : ℕ → List Call → Stats
counts_of events calls = record {
  events = events;
  calls = length calls;
  pending = count_by is_pending calls;
  views = length (views_of calls);
  updates = count_by is_update calls;
  unshown = count_by (is_unshown calls) calls;
  processes = process_count calls;
  components = length (updated_components calls);
  most_open = most_open calls;
  longest = longest_call calls;
  overlapping = overlapping_of calls;
}

abbrev pub stats_of : List Event → Stats
stats_of events = counts_of (length events) (calls_of events)
