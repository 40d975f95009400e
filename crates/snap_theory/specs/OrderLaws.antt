-- How the printed order and legal orders relate, whatever the length of the history.
use Rattle.std.specs.Prelude.{ℕ, map, List, [], ◌∷◌, ◌++◌, ◌≡◌, ◌↔◌}
use Rattle.snap_core.specs.declared.event.Event.{Event}
use Rattle.snap_core.specs.Events.{IsHistory, HasByteComponents}
use Rattle.snap_core.specs.Calls.{Call, calls_of}
use Rattle.snap_core.specs.Monotone.{IsMonotone}
use Rattle.snap_core.specs.Orders.{IsLegalOrder, IsAtomic}
use Rattle.snap_theory.specs.Faults.{HasNoFault}
use Rattle.snap_theory.specs.Levels.{printed_order, IsPrintedOrder}
use Rattle.snap_theory.specs.Keys.{AreSortedKeys}
use Rattle.snap_theory.specs.Starts.{IsLegalStart, MayFollow}

-- if there is no fault, the printed order is legal
abbrev pub PrintsLegalOrder : Type 0
PrintsLegalOrder = (events : List Event) → IsHistory events → HasByteComponents events → HasNoFault (calls_of events) → IsLegalOrder (calls_of events) (printed_order (calls_of events))

-- if some order is legal, there is no fault
abbrev pub LegalOrderHasNoFault : Type 0
LegalOrderHasNoFault = (events : List Event) → IsHistory events → (order : List Call) → IsLegalOrder (calls_of events) order → HasNoFault (calls_of events)

-- atomic exactly when there is no fault
abbrev pub AtomicExactly : Type 0
AtomicExactly = (events : List Event) → IsHistory events → HasByteComponents events → IsAtomic (calls_of events) ↔ HasNoFault (calls_of events)

-- an atomic history is monotone
abbrev pub AtomicIsMonotone : Type 0
AtomicIsMonotone = (events : List Event) → IsHistory events → IsAtomic (calls_of events) → IsMonotone (calls_of events)

-- the printed order is the only sorted list of the printed calls
abbrev pub PrintedOrderAlone : Type 0
PrintedOrderAlone = (events : List Event) → IsHistory events → (order : List Call) → IsPrintedOrder (calls_of events) order ↔ (order ≡ printed_order (calls_of events))

-- how a legal order grows from its front on
abbrev pub LegalStartGrows : Type 0
LegalStartGrows = (calls before : List Call) (c : Call) → (IsLegalStart calls before × MayFollow calls before c) ↔ IsLegalStart calls (before ++ c ∷ [])

-- the numbers of the sorted keys are those of the printed order
abbrev pub KeysGiveOrder : Type 0
KeysGiveOrder = (events : List Event) → IsHistory events → (keys : List (ℕ × ℕ)) → AreSortedKeys (calls_of events) keys → map (λ k. k.1) keys ≡ map (λ c. c.number) (printed_order (calls_of events))
