-- What is answered of the events of a store.
use Rattle.std.specs.Prelude.{ℕ, List, map, ◌≡◌, ◌<◌, length, All}
use Rattle.snap_core.specs.declared.event.Event.{Event}
use Rattle.snap_core.specs.declared.limit.Limit.{Limit}
use Rattle.snap_core.specs.declared.writers.Writers.TheVariants.{Many}
use Rattle.snap_core.specs.Calls.{calls_of}
use Rattle.snap_core.specs.Limited.{LimitedEvents}
use Rattle.snap_theory.specs.Versioned.{AreCut, numbered_calls}
use Rattle.snap_versions.specs.Cuts.{AreContradicted, IsPartOf, event_of}
use Rattle.snap_versions.specs.Refused.{AreStored, IsRefusedAt}
use Rattle.snap_versions.specs.declared.moment.Moment.{Moment}
use Rattle.snap_versions.specs.declared.store.Store.{Store}
use Rattle.snap_versions.specs.declared.store.Store.TheVariants.{Cut, Refused, Contradiction, TooMany}

-- so many events, and many writers of a component
abbrev pub many_writers : Limit → Limit
many_writers limit = record limit { writers = Many }

abbrev pub place_of : Moment → ℕ
place_of m = m.place

-- the events are those of the store, once its calls are numbered and cut, and each place is that of the event that this one was
pub record IsCutHistory (limit : Limit) (events : List Event) (history : LimitedEvents) (places : List ℕ) : Type 0 where
  pub cut : AreCut events history.events
  pub limit_is : history.limit ≡ many_writers limit
  pub moments : List Moment
  pub parts : All (IsPartOf (numbered_calls (calls_of events))) moments
  pub told : history.events ≡ map event_of moments
  pub places_are : places ≡ map place_of moments

-- an update ended at the first place, and one of its component with a lower version began at the second, which is later
pub record IsContradicted (events : List Event) (ended begun : ℕ) : Type 0 where
  pub stored : AreStored events
  pub contradicted : AreContradicted (numbered_calls (calls_of events)) ended begun

-- the cut calls have more events than the limit
pub record IsTooLong (limit : Limit) (events : List Event) : Type 0 where
  pub told : List Event
  pub cut : AreCut events told
  pub more : limit.events < length told

abbrev pub IsStore : Limit → List Event → Store → Type 0
IsStore limit events (Cut history places) = IsCutHistory limit events history places.items
IsStore limit events (Refused place refusal) = IsRefusedAt events place refusal
IsStore limit events (Contradiction ended begun) = IsContradicted events ended begun
IsStore limit events TooMany = IsTooLong limit events
