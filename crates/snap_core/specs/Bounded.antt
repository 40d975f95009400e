-- What a `History` keeps of its events.
use Rattle.std.specs.Prelude.{◌≡◌, ◌≤◌, Bool, true, false, List, All, length}
use Rattle.snap_core.specs.declared.writers.Writers.{Writers}
use Rattle.snap_core.specs.declared.writers.Writers.TheVariants.{One, Many}
use Rattle.snap_core.specs.Events.{Event, IsHistory, EventFits, event_cap}
use Rattle.snap_core.specs.Ordered.{IsOrdered}

-- what a list of events is, by how many processes may write a component
abbrev pub IsHistoryBy : Writers → List Event → Type 0
IsHistoryBy One es = IsHistory es
IsHistoryBy Many es = IsOrdered es

-- whether a history of so many writers may stand on a board that has the first at most
abbrev pub is_at_most : Writers → Writers → Bool
is_at_most Many w = true
is_at_most One One = true
is_at_most One Many = false

abbrev pub IsAtMost : Writers → Writers → Type 0
IsAtMost most writers = is_at_most most writers ≡ true

-- such a list, of bounded length and with fields as their types have them
pub record IsBoundedBy (writers : Writers) (es : List Event) : Type 0 where
  pub history : IsHistoryBy writers es
  pub short : length es ≤ event_cap
  pub fit : All EventFits es

abbrev pub IsBoundedHistory : List Event → Type 0
IsBoundedHistory es = IsBoundedBy One es

abbrev pub IsBoundedOrdered : List Event → Type 0
IsBoundedOrdered es = IsBoundedBy Many es
