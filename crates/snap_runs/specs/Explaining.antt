-- The explanation of a history.
use Rattle.snap_core.specs.declared.writers.Writers.{Writers}
use Rattle.std.specs.Prelude.{ℕ, List}
use Rattle.snap_core.specs.declared.event.Event.{Event}
use Rattle.snap_core.specs.Calls.{calls_of}
use Rattle.snap_check.specs.declared.status.Status.{Status}
use Rattle.snap_check.specs.Verdicts.{HasStatus}
use Rattle.snap_explain.specs.declared.explanation.Detail.{Detail}
use Rattle.snap_explain.specs.Explanations.{IsLongExplanation}

-- the status of a history, and its explanation by the records of its events. It has this many faults of each kind, the first, and lists
-- these entries of the views of a fault
abbrev pub ExplainsHistory : Detail → Writers → List Event → List ℕ → Status → List ℕ → Type 0
ExplainsHistory detail writers events records status out = HasStatus writers events status × IsLongExplanation detail.faults detail.listed records (calls_of events) out
