-- The events of a store that tells the order of its updates, cut to the times that this order allows.
use Rattle.std.specs.Prelude.{ℕ, List, ◌≡◌, ◌<◌, ◌↔◌, Some}
use Rattle.snap_core.specs.declared.entry.Entry.{Entry}
use Rattle.snap_core.specs.declared.event.Event.{Event}
use Rattle.snap_core.specs.Events.{IsWellFormed}
use Rattle.snap_core.specs.Calls.{Call, calls_of}
use Rattle.snap_core.specs.Regular.{IsUpdateOf}
use Rattle.snap_theory.specs.Intervals.{AreVersions, cut_calls, earliest_end, latest_begin}
use Rattle.snap_theory.specs.Telling.{Tells}
use Rattle.snap_theory.specs.Versions.{IsAtomicInOrder}

-- something is left of each update: once it is cut, it ends after it begins
abbrev pub LeavesSome : List Call → Type 0
LeavesSome calls = (c : Call) (e : Entry) (place : ℕ) → IsUpdateOf calls c e → earliest_end calls e ≡ Some place → latest_begin calls e < place

-- the events of the cut calls have a legal order with rising numbers exactly when the events that were cut have one
abbrev pub CutEventsKeepAtomic : Type 0
CutEventsKeepAtomic =
    (events cut : List Event) → IsWellFormed events → AreVersions (calls_of events) → LeavesSome (calls_of events) → Tells (cut_calls (calls_of events)) cut →
    IsAtomicInOrder (calls_of events) ↔ IsAtomicInOrder (calls_of cut)
