-- The faults of a text's records, each record with those before it.
use Rattle.std.specs.Prelude.{◌≡◌, ◌<◌, ◌==◌, not, nat_le, if◌then◌else◌, slice_index_or, ℕ, List, [], length, take, Option, Some, None, option_and_then, Result, Ok, Err}
use Rattle.snap_core.specs.declared.limit.Limit.{Limit}
use Rattle.std.specs.List.{filter_map}
use Rattle.snap_core.specs.declared.event.Event.{Event}
use Rattle.snap_core.specs.declared.history.EventRefusal.{EventRefusal}
use Rattle.snap_core.specs.declared.history.EventRefusal.TheVariants as refusals
use Rattle.snap_core.specs.Refusals.{refusal_of}
use Rattle.snap_text.specs.declared.fault.TextFault.{TextFault}
use Rattle.snap_text.specs.declared.fault.TextFault.TheVariants as faults
use Rattle.snap_text.specs.Fields.{Fields, row_event}

abbrev pub event_in : Result Event TextFault → Option Event
event_in (Ok x) = Some x
event_in (Err f) = None

-- the events of records, without the records that spell no event
abbrev pub events_in : List Fields → List Event
events_in rows = filter_map (λ r. event_in (row_event r)) rows

-- the fault of a text for a refusal of a history; lack of memory is not a fault
abbrev pub fault_of : EventRefusal → Option TextFault
fault_of refusals.TooMany = Some faults.TooMany
fault_of refusals.Busy = Some faults.Busy
fault_of refusals.Idle = Some faults.Idle
fault_of refusals.OtherOp = Some faults.OtherOp
fault_of refusals.Writer = Some faults.Writer
fault_of refusals.Number = Some faults.Number
fault_of refusals.Order = Some faults.Order
fault_of refusals.Memory = None

-- the fault in a record's fields, or else the first refusal of its event after the events before it, within a limit
abbrev pub fault_with : Limit → List Event → Result Event TextFault → Option TextFault
fault_with limit before (Err f) = Some f
fault_with limit before (Ok x) = option_and_then fault_of (refusal_of limit before x)

-- the first fault of a record under the header, with the events before it. In this order: its number of fields, whether the history
-- is full, what the fields spell, and what the event is after those events
unfoldable pub row_fault : Limit → List Event → Fields → Option TextFault
row_fault limit before r =
    if not (length r == 4) then Some faults.Fields
    else if nat_le limit.events (length before) then Some faults.TooMany
    else fault_with limit before (row_event r)

-- the first fault of the record at a place among those under the header
abbrev pub fault_at : Limit → List Fields → ℕ → Option TextFault
fault_at limit rows i = row_fault limit (events_in (take i rows)) (slice_index_or rows i [])

-- no record under the header has a fault
abbrev pub NoFault : Limit → List Fields → Type 0
NoFault limit rows = (i : ℕ) → i < length rows → fault_at limit rows i ≡ None

-- the first record with a fault, and its first fault
pub record FirstFault (limit : Limit) (rows : List Fields) (i : ℕ) (f : TextFault) : Type 0 where
  pub place : i < length rows
  pub fault : fault_at limit rows i ≡ Some f
  pub first : (j : ℕ) → j < i → fault_at limit rows j ≡ None
