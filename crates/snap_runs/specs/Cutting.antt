-- The numbers that the calls of a witness have in the history that it is cut from.
use Rattle.snap_theory.specs.Versions.{IsAtomicBy, IsAtomicInOrder}
use Rattle.snap_core.specs.declared.writers.Writers.{Writers}
use Rattle.std.specs.Prelude.{◌≡◌, ◌⊎◌, ℕ, List, [], Option, Some, None, map}
use Rattle.std.specs.declared.alloc.Global.{Global}
use Rattle.std.specs.declared.vec.Vec.{Vec}
use Rattle.snap_core.specs.Limited.{LimitedEvents}
use Rattle.snap_core.specs.declared.event.Event.{Event}
use Rattle.snap_core.specs.Calls.{Call, calls_of}
use Rattle.snap_runs.specs.Mapping.{AreOfFault}
use Rattle.snap_runs.specs.Shrinking.{IsWitnessOf}

-- the numbers of the calls of a history that those of its witness are made from, as the table of `shrink --map` has them
pub record AreOfWitness (events left : List Event) (numbers : List ℕ) : Type 0 where
  pub sources : List Call
  pub of_fault : AreOfFault events left sources
  pub are : numbers ≡ map (λ (c : Call). c.number) sources

-- the witness of a history with these numbers, exactly if the history is not atomic in order
abbrev pub IsNumbered : List Event → Option (LimitedEvents × Vec ℕ Global) → Type 0
IsNumbered events (Some found) = (IsAtomicInOrder (calls_of events) → ⊥) × IsWitnessOf events found.0.events × AreOfWitness events found.0.events found.1.items
IsNumbered events None = IsAtomicInOrder (calls_of events)

-- the numbers that stand beside those of the calls that are left. An atomic history is left whole, so there are none
abbrev pub AreBeside : Writers → List Event → List Event → List ℕ → Type 0
AreBeside writers events left numbers = (IsAtomicBy writers (calls_of events) × (numbers ≡ [])) ⊎ AreOfWitness events left numbers
