-- What is proved of all histories, whatever their length.
use Rattle.std.specs.Prelude.{List, [], ◌∷◌, ◌++◌, ◌↔◌}
use Rattle.snap_core.specs.Events.{Event, IsHistory}
use Rattle.snap_core.specs.declared.writers.Writers.{Writers}
use Rattle.snap_core.specs.Bounded.{IsHistoryBy}
use Rattle.snap_core.specs.Refusals.{IsAccepted, IsAcceptedBy}

-- a list and one event more is a history exactly when the list is one and no refusal applies
abbrev pub HistoryGrows : Type 0
HistoryGrows = (events : List Event) (e : Event) → (IsHistory events × IsAccepted events e) ↔ IsHistory (events ++ e ∷ [])

-- the same, however many processes may write a component
abbrev pub HistoryGrowsBy : Type 0
HistoryGrowsBy = (writers : Writers) (events : List Event) (e : Event) → (IsHistoryBy writers events × IsAcceptedBy writers events e) ↔ IsHistoryBy writers (events ++ e ∷ [])
