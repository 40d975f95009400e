-- The completed views as a chain, in which levels are found.
use Rattle.std.specs.Prelude.{ℕ, List}
use Rattle.snap_core.specs.declared.event.Event.{Event}
use Rattle.snap_core.specs.Bounded.{IsBoundedOrdered}
use Rattle.snap_core.specs.Calls.{calls_of}
use Rattle.snap_views.specs.Chains.{AreViewSums, IsChain}
use Rattle.snap_views.specs.Quick.{AreComparable}

-- the places of the completed views of a history in a chain, and the sum of each view by its place. Each view shows of each
-- component no more than the views after it in the chain
pub record IsSummedChain (events : List Event) (places sums : List ℕ) : Type 0 where
  pub kept : IsBoundedOrdered events
  pub chain : IsChain (calls_of events) places
  pub comparable : AreComparable (calls_of events)
  pub summed : AreViewSums (calls_of events) sums
