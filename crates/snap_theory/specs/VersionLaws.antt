-- What holds of ordered histories, in which several processes may write a component, whatever the length of the history.
use Rattle.std.specs.Prelude.{ℕ, Bool, true, List, map, ◌≡◌, ◌↔◌, All, Contains}
use Rattle.snap_core.specs.declared.event.Event.{Event}
use Rattle.snap_core.specs.Events.{IsHistory, HasByteComponents, EventFits}
use Rattle.snap_core.specs.Calls.{Call, calls_of, is_update_numbered}
use Rattle.snap_core.specs.Monotone.{IsMonotone}
use Rattle.snap_core.specs.Orders.{IsLegalOrder, IsAtomic}
use Rattle.snap_core.specs.Regular.{IsRegular}
use Rattle.snap_theory.specs.Choices.{IsChoice, KeepsCalls}
use Rattle.snap_theory.specs.Conditions.{MeetsConditions}
use Rattle.snap_theory.specs.FaultWitnesses.{Fault, IsFaultOf, IsWitness, HasWitness}
use Rattle.snap_theory.specs.Faults.{HasNoLocalFault, HasNoFault}
use Rattle.snap_theory.specs.Keys.{AreSortedKeys}
use Rattle.snap_theory.specs.Levels.{printed_order, IsPrintedOrder}
use Rattle.snap_theory.specs.Rising.{FaultsRise}
use Rattle.snap_core.specs.Ordered.{IsOrdered}
use Rattle.snap_theory.specs.Versions.{IsLegalInOrder, IsAtomicInOrder}

-- a history, with one writer of each component, is ordered
abbrev pub HistoriesAreOrdered : Type 0
HistoriesAreOrdered = (events : List Event) → IsHistory events → IsOrdered events

-- in a legal order of a history the numbers of each component rise
abbrev pub LegalOrdersRise : Type 0
LegalOrdersRise = (events : List Event) → IsHistory events → (order : List Call) → IsLegalOrder (calls_of events) order → IsLegalInOrder (calls_of events) order

-- so a history is atomic in order exactly when it is atomic
abbrev pub AtomicIsInOrder : Type 0
AtomicIsInOrder = (events : List Event) → IsHistory events → IsAtomicInOrder (calls_of events) ↔ IsAtomic (calls_of events)

-- if an ordered history has no fault, the printed order is legal, and the numbers of each component rise in it
abbrev pub OrderedPrintsLegalOrder : Type 0
OrderedPrintsLegalOrder =
    (events : List Event) → IsOrdered events → HasByteComponents events → HasNoFault (calls_of events) →
    IsLegalInOrder (calls_of events) (printed_order (calls_of events))

-- if some legal order of an ordered history has rising numbers, there is no fault
abbrev pub LegalInOrderHasNoFault : Type 0
LegalInOrderHasNoFault = (events : List Event) → IsOrdered events → (order : List Call) → IsLegalInOrder (calls_of events) order → HasNoFault (calls_of events)

-- an ordered history is atomic in order exactly when there is no fault
abbrev pub AtomicInOrderExactly : Type 0
AtomicInOrderExactly = (events : List Event) → IsOrdered events → HasByteComponents events → IsAtomicInOrder (calls_of events) ↔ HasNoFault (calls_of events)

-- the four conditions hold of an ordered history exactly when there is no fault
abbrev pub OrderedConditionsExactly : Type 0
OrderedConditionsExactly = (events : List Event) → IsOrdered events → HasByteComponents events → MeetsConditions (calls_of events) ↔ HasNoFault (calls_of events)

-- an ordered history is regular exactly when no view alone has a fault
abbrev pub OrderedRegularExactly : Type 0
OrderedRegularExactly = (events : List Event) → IsOrdered events → HasByteComponents events → IsRegular (calls_of events) ↔ HasNoLocalFault (calls_of events)

-- an ordered history that is atomic in order is monotone
abbrev pub AtomicInOrderIsMonotone : Type 0
AtomicInOrderIsMonotone = (events : List Event) → IsOrdered events → IsAtomicInOrder (calls_of events) → IsMonotone (calls_of events)

-- the printed order of an ordered history is the only sorted list of the printed calls
abbrev pub OrderedPrintedAlone : Type 0
OrderedPrintedAlone = (events : List Event) → IsOrdered events → (order : List Call) → IsPrintedOrder (calls_of events) order ↔ (order ≡ printed_order (calls_of events))

-- the numbers of the sorted keys of an ordered history are those of the printed order
abbrev pub OrderedKeysGiveOrder : Type 0
OrderedKeysGiveOrder = (events : List Event) → IsOrdered events → (keys : List (ℕ × ℕ)) → AreSortedKeys (calls_of events) keys → map (λ k. k.1) keys ≡ map (λ c. c.number) (printed_order (calls_of events))

-- at most one update of an ordered history has a given component and number
abbrev pub OrderedUpdatesAreAlone : Type 0
OrderedUpdatesAreAlone = (events : List Event) → IsOrdered events → (k n : ℕ) (a b : Call) → Contains (calls_of events) a → Contains (calls_of events) b → is_update_numbered k n a ≡ true → is_update_numbered k n b ≡ true → a ≡ b

-- the faults of an ordered history whose fields fit their types rise strictly
abbrev pub OrderedFaultsRise : Type 0
OrderedFaultsRise = (events : List Event) → IsOrdered events → All EventFits events → FaultsRise (calls_of events)

-- what is kept of an ordered history is a history with one writer of each component, since of each it has one update
abbrev pub OrderedChoiceKeepsCalls : Type 0
OrderedChoiceKeepsCalls = (keeps : ℕ → Bool) (numbers : ℕ → ℕ) (events : List Event) → IsOrdered events → IsChoice keeps numbers (calls_of events) → KeepsCalls keeps numbers events

-- each fault of an ordered history whose fields fit their types has a witness
abbrev pub OrderedFaultHasWitness : Type 0
OrderedFaultHasWitness = (events : List Event) → IsOrdered events → All EventFits events → (f : Fault) → IsFaultOf (calls_of events) f → IsWitness events f

-- such a history is atomic in order exactly when it has no witness
abbrev pub AtomicInOrderWithoutWitness : Type 0
AtomicInOrderWithoutWitness = (events : List Event) → IsOrdered events → All EventFits events → (HasWitness events → ⊥) ↔ IsAtomicInOrder (calls_of events)
