-- Why an event is refused.
use Rattle.std.specs.Prelude.{Bool, true, false, List, Option, Some, None}
use Rattle.snap_core.specs.declared.event.Event.{Event}
use Rattle.snap_core.specs.declared.history.EventRefusal.{EventRefusal}
use Rattle.snap_core.specs.declared.history.EventRefusal.TheVariants.{TooMany, Busy, Idle, OtherOp, Writer, Number, Order, Memory}
use Rattle.snap_core.specs.declared.limit.Limit.{Limit}
use Rattle.snap_core.specs.Refusals.{refusal_of, breaks_writer}

-- the refusal for another writer comes before the one for a wrong number, and after all others
abbrev pub behind_writer : Bool → Option EventRefusal → Option EventRefusal
behind_writer true None = Some Writer
behind_writer true (Some Number) = Some Writer
behind_writer true (Some TooMany) = Some TooMany
behind_writer true (Some Busy) = Some Busy
behind_writer true (Some Idle) = Some Idle
behind_writer true (Some OtherOp) = Some OtherOp
behind_writer true (Some Writer) = Some Writer
behind_writer true (Some Order) = Some Order
behind_writer true (Some Memory) = Some Memory
behind_writer false found = found

-- the first refusal of an event, by the window with numbers from 1 and by the events before the window
abbrev pub first_refusal : Limit → List Event → Event → List Event → Event → Option EventRefusal
first_refusal limit window renumbered before event = behind_writer (breaks_writer limit.writers before event) (refusal_of limit window renumbered)
