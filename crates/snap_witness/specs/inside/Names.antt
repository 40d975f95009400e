-- The views and the updates of the first fault, by their numbers.
use Rattle.std.specs.Prelude.{ℕ, ◌<◌, ◌≡◌, List, All, length, Option, Some, None}
use Rattle.snap_core.specs.declared.event.Event.{Event}
use Rattle.snap_core.specs.Calls.{calls_of}
use Rattle.snap_theory.specs.FaultWitnesses.{Fault, fault_updates, fault_views}
use Rattle.snap_theory.specs.First.{first_fault}
use Rattle.snap_theory.specs.Witness.{AreWitnesses}
use Rattle.snap_witness.specs.inside.Places.{calls_numbered}

-- there is a fault, with the views of these call numbers and these updates
pub record Names (events : List Event) (first : Option Fault) (numbers : List ℕ) (updates : List (ℕ × ℕ)) : Type 0 where
  pub fault : Fault
  pub is : first ≡ Some fault
  pub within : All (λ c. c < length (calls_of events)) numbers
  pub calls : AreWitnesses events (calls_numbered (calls_of events) numbers) updates
  pub views : fault_views fault ≡ calls_numbered (calls_of events) numbers
  pub same : fault_updates fault ≡ updates

-- the call numbers and the updates of the first fault, if there is one
abbrev pub NamesFirst : List Event → Option (List ℕ × List (ℕ × ℕ)) → Type 0
NamesFirst events None = first_fault (calls_of events) ≡ None
NamesFirst events (Some chosen) = Names events (first_fault (calls_of events)) chosen.0 chosen.1
