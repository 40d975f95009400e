-- What is written of what a run has shown: an object with a name, or lines if no name is given.
use Rattle.std.specs.Prelude.{◌≡◌, ℕ, List, Option, Some, None}
use Rattle.snap_core.specs.declared.event.Event.{Event}
use Rattle.snap_core.specs.Calls.{calls_of}
use Rattle.snap_json.specs.Stats.{stats_json}
use Rattle.snap_json.specs.Values.{IsLineOf}
use Rattle.snap_stats.specs.Lines.{stats_text}
use Rattle.snap_stats.specs.Stats.{components_of, stats_of}
use Rattle.snap_check.specs.Statuses.{code_of}
use Rattle.snap_check.specs.declared.status.Status.{Status}
use Rattle.snap_check.specs.declared.status.Status.TheVariants.{Recorded}
use Rattle.snap_runs.specs.Telling.{object_name}

-- the counts of a history
abbrev pub WritesStats : Option (List ℕ) → List Event → List ℕ → Type 0
WritesStats None events out = out ≡ stats_text (stats_of events) (components_of (calls_of events))
WritesStats (Some name) events out = IsLineOf (stats_json (object_name name) (code_of Recorded) (stats_of events) (components_of (calls_of events))) out

-- a history is counted and not judged
abbrev pub CountsHistory : Option (List ℕ) → List Event → Status → List ℕ → Type 0
CountsHistory name events status out = (status ≡ Recorded) × WritesStats name events out
