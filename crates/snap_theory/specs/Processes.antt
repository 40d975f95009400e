-- Histories that differ in processes alone. Precedence is an order of intervals of time (Lamport 1986), and a view is of
-- components and numbers. Neither depends on which process called.
use Rattle.std.specs.Prelude.{ℕ, List, map, ◌≡◌, ◌↔◌}
use Rattle.snap_core.specs.declared.event.Event.{Event}
use Rattle.snap_core.specs.declared.event.Event.TheVariants.{BeginUpdate, BeginView, EndUpdate, EndView}
use Rattle.snap_core.specs.Calls.{Call, calls_of, views_of}
use Rattle.snap_core.specs.Monotone.{IsMonotone}
use Rattle.snap_core.specs.Orders.{IsAtomic}
use Rattle.snap_core.specs.Regular.{IsRegular}
use Rattle.snap_theory.specs.Faults.{integrity_faults, proximity_faults, read_faults, write_faults, stale_count}
use Rattle.snap_theory.specs.Levels.{printed_order}

-- a call without its process
abbrev pub anyones : Call → Call
anyones c = record { number = c.number; process = 0; operation = c.operation; begun = c.begun; ended = c.ended }

-- the same calls one by one: the same number, operation, answer, and places of begin and end; processes aside
abbrev pub AreSameCalls : List Call → List Call → Type 0
AreSameCalls calls others = map anyones calls ≡ map anyones others

-- a fault of a view and a component, of two views, or of a view and two components, without the processes of the views
abbrev pub anyones_local : Call × ℕ → Call × ℕ
anyones_local f = (anyones f.0, f.1)

abbrev pub anyones_read : Call × Call → Call × Call
anyones_read f = (anyones f.0, anyones f.1)

abbrev pub anyones_write : Call × ℕ × ℕ → Call × ℕ × ℕ
anyones_write f = (anyones f.0, f.1, f.2)

-- the same faults in the same order, processes aside; so each kind has the same count and the same first fault
pub record HaveSameFaults (calls others : List Call) : Type 0 where
  pub integrity : map anyones_local (integrity_faults calls (views_of calls)) ≡ map anyones_local (integrity_faults others (views_of others))
  pub proximity : map anyones_local (proximity_faults calls (views_of calls)) ≡ map anyones_local (proximity_faults others (views_of others))
  pub read : map anyones_read (read_faults calls (views_of calls)) ≡ map anyones_read (read_faults others (views_of others))
  pub write : map anyones_write (write_faults calls (views_of calls)) ≡ map anyones_write (write_faults others (views_of others))
  pub stale : stale_count calls (views_of calls) ≡ stale_count others (views_of others)

-- the same verdicts, the same faults, and the same printed order
pub record AreJudgedAlike (calls others : List Call) : Type 0 where
  pub regular : IsRegular calls ↔ IsRegular others
  pub monotone : IsMonotone calls ↔ IsMonotone others
  pub atomic : IsAtomic calls ↔ IsAtomic others
  pub faults : HaveSameFaults calls others
  pub order : AreSameCalls (printed_order calls) (printed_order others)

-- lists of events that make the same calls, processes aside, are judged alike, even if one is not a history
abbrev pub ProcessesDoNotMatter : Type 0
ProcessesDoNotMatter = (events others : List Event) → AreSameCalls (calls_of events) (calls_of others) → AreJudgedAlike (calls_of events) (calls_of others)

-- an event without its process
abbrev pub anyones_event : Event → Event
anyones_event (BeginUpdate p e) = BeginUpdate 0 e
anyones_event (BeginView p) = BeginView 0
anyones_event (EndUpdate p) = EndUpdate 0
anyones_event (EndView p es) = EndView 0 es

-- the same events one by one, processes aside; and the calls end at the same places
pub record AreSameEvents (events others : List Event) : Type 0 where
  pub each : map anyones_event events ≡ map anyones_event others
  pub ends : map (λ c. c.ended) (calls_of events) ≡ map (λ c. c.ended) (calls_of others)

-- the same events make the same calls, processes aside
abbrev pub SameEventsMakeSameCalls : Type 0
SameEventsMakeSameCalls = (events others : List Event) → AreSameEvents events others → AreSameCalls (calls_of events) (calls_of others)
