-- The statistics of a history, as an object.
use Rattle.std.specs.Prelude.{ℕ, List, [], ◌∷◌, ◌++◌, codes}
use Rattle.json.specs.Json.{Json, Items, array, boolean, item, no_items}
use Rattle.snap_stats.specs.Lines.{shows_concurrency}
use Rattle.snap_stats.specs.declared.overlaps.Overlapping.{Overlapping}
use Rattle.snap_stats.specs.declared.stats.ComponentStats.{ComponentStats}
use Rattle.snap_stats.specs.declared.stats.Stats.{Stats}
use Rattle.snap_json.specs.Objects.{named_object}
use Rattle.snap_json.specs.Values.{Field, number_json, object_of}

abbrev pub size_fields : Stats → List Field
size_fields s =
    (codes "events", number_json s.events) ∷ (codes "calls", number_json s.calls) ∷ (codes "pending", number_json s.pending)
    ∷ (codes "views", number_json s.views) ∷ (codes "updates", number_json s.updates) ∷ (codes "processes", number_json s.processes)
    ∷ (codes "components", number_json s.components) ∷ []

abbrev pub overlap_fields : Overlapping → List Field
overlap_fields o =
    (codes "overlap_update", number_json o.update) ∷ (codes "overlap_view", number_json o.view) ∷ (codes "overlap_nothing", number_json o.nothing) ∷ []

abbrev pub open_fields : Stats → List Field
open_fields s =
    (codes "unshown", number_json s.unshown) ∷ (codes "most_open", number_json s.most_open) ∷ (codes "longest", number_json s.longest)
    ∷ (codes "shows_concurrency", boolean (shows_concurrency s)) ∷ []

-- {"component":K,"writer":P,"updates":U,"views":V}
unfoldable pub component_json : ComponentStats → Json
component_json c =
    object_of ((codes "component", number_json c.component) ∷ (codes "writer", number_json c.writer) ∷ (codes "updates", number_json c.updates)
    ∷ (codes "views", number_json c.views) ∷ [])

abbrev pub component_items : List ComponentStats → Items
component_items [] = no_items
component_items (c ∷ cs) = item (component_json c) (component_items cs)

-- a history, and each of its components that has an update
abbrev pub stats_json : List ℕ → ℕ → Stats → List ComponentStats → Json
stats_json name status s components =
    named_object name status (size_fields s ++ overlap_fields s.overlapping ++ open_fields s ++ (codes "by_component", array (component_items components)) ∷ [])
