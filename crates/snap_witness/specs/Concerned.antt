-- The calls that a fault concerns: its views, and the updates that show it.
use Rattle.std.specs.Prelude.{ℕ, List, [], ◌∷◌, ◌≤◌}
use Rattle.snap_core.specs.Events.{event_cap}
use Rattle.snap_core.specs.Calls.{Call, call_numbered}
use Rattle.snap_theory.specs.FaultWitnesses.{Read as ReadOf, fault_updates}
use Rattle.snap_conditions.specs.declared.fault.Fault.{Fault}
use Rattle.snap_conditions.specs.declared.fault.Fault.TheVariants.{Integrity, Proximity, Read, Write}
use Rattle.snap_witness.specs.Places.{AreReadAt, IsViewAt, side_number}

-- its views are completed views of the history
abbrev pub IsNamed : List Call → Fault → Type 0
IsNamed calls (Integrity f) = IsViewAt calls f.view
IsNamed calls (Proximity f) = IsViewAt calls f.view × (f.number ≤ event_cap)
IsNamed calls (Read f) = AreReadAt calls f
IsNamed calls (Write f) = IsViewAt calls f.view

-- the call numbers of its views
abbrev pub views_concerned : Fault → List ℕ
views_concerned (Integrity f) = f.view ∷ []
views_concerned (Proximity f) = f.view ∷ []
views_concerned (Read f) = f.view ∷ f.other ∷ []
views_concerned (Write f) = f.view ∷ []

-- the updates that show it, each by its component and its number: the one that has the number which a view shows, or the one that it
-- misses; of a read fault what a view shows of the least component of which it shows more than the other view; of a write fault the
-- missed one and the shown one
abbrev pub updates_concerned : List Call → Fault → List (ℕ × ℕ)
updates_concerned calls (Integrity f) = (f.entry.component, f.entry.number) ∷ []
updates_concerned calls (Proximity f) = (f.component, side_number f.side f.number) ∷ []
updates_concerned calls (Read f) = fault_updates (ReadOf (call_numbered calls f.view) (call_numbered calls f.other))
updates_concerned calls (Write f) = (f.missed_component, f.missed_number) ∷ (f.shown_component, f.shown_number) ∷ []
