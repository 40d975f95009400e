-- Events that tell calls: the begins and the ends of the calls, in the order of their places.
use Rattle.std.specs.Prelude.{ℕ, true, List, [], map, ◌≡◌, ◌≢◌, ◌<◌, ◌⊎◌, ◌↔◌, Some, None, AllPairs, Contains}
use Rattle.snap_core.specs.declared.entry.Entry.{Entry}
use Rattle.snap_core.specs.declared.event.Event.{Event}
use Rattle.snap_core.specs.declared.event.Event.TheVariants.{BeginUpdate, BeginView, EndUpdate, EndView}
use Rattle.snap_core.specs.Calls.{Call, Operation, Updates, Views, calls_of, precedes}
use Rattle.snap_theory.specs.Versions.{IsAtomicInOrder}

-- a begin or an end of a call, with its place and the number of the update, 0 for a view
pub record Moment : Type 0 where
  pub place : ℕ
  pub number : ℕ
  pub event : Event

abbrev pub number_of : Operation → ℕ
number_of (Updates e) = e.number
number_of (Views answer) = 0

abbrev pub begin_event : ℕ → Operation → Event
begin_event p (Updates e) = BeginUpdate p e
begin_event p (Views answer) = BeginView p

-- a view that has ended has an answer
abbrev pub end_event : ℕ → Operation → Event
end_event p (Updates e) = EndUpdate p
end_event p (Views None) = EndView p []
end_event p (Views (Some es)) = EndView p es

abbrev pub begin_of : Call → Moment
begin_of c = record { place = c.begun; number = number_of c.operation; event = begin_event c.process c.operation }

abbrev pub end_of : Call → ℕ → Moment
end_of c place = record { place = place; number = number_of c.operation; event = end_event c.process c.operation }

abbrev pub IsMomentOf : List Call → Moment → Type 0
IsMomentOf calls m = (c : Call) × Contains calls c × ((m ≡ begin_of c) ⊎ ((place : ℕ) × (c.ended ≡ Some place) × (m ≡ end_of c place)))

-- of two moments at one place the one with the lower number comes first
abbrev pub IsBefore : Moment → Moment → Type 0
IsBefore a b = (a.place < b.place) ⊎ ((a.place ≡ b.place) × (a.number < b.number))

-- the events are the moments of the calls, in their order
pub record Tells (calls : List Call) (events : List Event) : Type 0 where
  pub moments : List Moment
  pub told : events ≡ map (λ m. m.event) moments
  pub rising : AllPairs IsBefore moments
  pub all : (m : Moment) → IsMomentOf calls m → Contains moments m
  pub only : (m : Moment) → Contains moments m → IsMomentOf calls m

-- each process makes one call after the other, and no call ends where one begins
pub record AreSequential (calls : List Call) : Type 0 where
  pub rises : (c : Call) (place : ℕ) → Contains calls c → c.ended ≡ Some place → c.begun < place
  pub turns : (a b : Call) → Contains calls a → Contains calls b → a.process ≡ b.process → (a ≡ b) ⊎ ((precedes a b ≡ true) ⊎ (precedes b a ≡ true))
  pub apart : (a b : Call) (place : ℕ) → Contains calls a → Contains calls b → a.ended ≡ Some place → b.begun ≢ place
  pub answered : (c : Call) (es : List Entry) → Contains calls c → c.operation ≡ Views (Some es) → (place : ℕ) × (c.ended ≡ Some place)
  pub unanswered : (c : Call) → Contains calls c → c.operation ≡ Views None → c.ended ≡ None

-- events that tell calls are atomic, by the order of versions, exactly when the calls are
abbrev pub TellingKeepsAtomic : Type 0
TellingKeepsAtomic = (calls : List Call) (events : List Event) → AreSequential calls → Tells calls events → IsAtomicInOrder calls ↔ IsAtomicInOrder (calls_of events)
