-- What a history is cut down to.
use Rattle.snap_theory.specs.Versions.{IsAtomicBy}
use Rattle.snap_core.specs.declared.writers.Writers.{Writers}
use Rattle.std.specs.Prelude.{◌≡◌, ◌≤◌, ◌↔◌, ℕ, List, length}
use Rattle.snap_core.specs.declared.event.Event.{Event}
use Rattle.snap_core.specs.Calls.{calls_of}
use Rattle.snap_core.specs.Orders.{IsAtomic}
use Rattle.snap_core.specs.Regular.{IsRegular}
use Rattle.snap_format.specs.Layout.{history_text}
use Rattle.snap_check.specs.declared.status.Status.{Status}
use Rattle.snap_check.specs.Verdicts.{HasStatus}
use Rattle.snap_theory.specs.First.{AreWholeCalls, HasFirstFault}

-- some whole calls of a history that have its first fault, and so are not atomic
pub record IsWitnessOf (events : List Event) (witness : List Event) : Type 0 where
  pub calls : AreWholeCalls events witness
  pub few_calls : length (calls_of witness) ≤ 4
  pub few_events : length witness ≤ 8
  -- of the same views and components
  pub fault : HasFirstFault events witness
  pub not_atomic : IsAtomic (calls_of witness) → ⊥
  pub regular : IsRegular (calls_of witness) ↔ IsRegular (calls_of events)

-- the status of a history, and what it is cut to: itself if it is atomic, and otherwise a witness
pub record IsCutTo (writers : Writers) (events : List Event) (status : Status) (left : List Event) : Type 0 where
  pub answers : HasStatus writers events status
  pub atomic : IsAtomicBy writers (calls_of events) → left ≡ events
  pub not_atomic : (IsAtomicBy writers (calls_of events) → ⊥) → IsWitnessOf events left

-- the status of a history, and the text of what it is cut to
pub record ShrinksHistory (writers : Writers) (events : List Event) (status : Status) (out : List ℕ) : Type 0 where
  pub left : List Event
  pub cut : IsCutTo writers events status left
  pub writes : out ≡ history_text left
