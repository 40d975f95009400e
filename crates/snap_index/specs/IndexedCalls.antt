-- A call as the index keeps it. Its place in the list is its number, and the entries of a view stay in the history.
use Rattle.std.specs.Prelude.{ℕ, Option, Some, None, List}
use Rattle.snap_core.specs.declared.entry.Entry.{Entry}
use Rattle.snap_core.specs.declared.event.Event.{Event}
use Rattle.snap_core.specs.declared.event.Event.TheVariants.{BeginUpdate, BeginView, EndUpdate, EndView}
use Rattle.snap_core.specs.Calls.{Operation, Updates, Views, entries_of}
use Rattle.snap_core.specs.Calls.{Call as SpecCall}
use Rattle.snap_index.specs.declared.call.CallOp.{CallOp}
use Rattle.snap_index.specs.declared.call.CallOp.TheVariants.{Update, View}
use Rattle.snap_index.specs.declared.call.Call.{Call}
use Rattle.snap_index.specs.declared.call.Write.{Write}

abbrev pub indexed_op : Operation → CallOp
indexed_op (Updates e) = Update e
indexed_op (Views answer) = View

abbrev pub as_indexed : SpecCall → Call
as_indexed c = record { process = c.process; op = indexed_op c.operation; begun = c.begun; ended = c.ended }

abbrev pub value_written : Operation → ℕ
value_written (Updates e) = e.value
value_written (Views answer) = 0

-- an update's call number, value, begin and end
abbrev pub write_of : SpecCall → Write
write_of c = record { call = c.number; value = value_written c.operation; begun = c.begun; ended = c.ended }

-- what an event begins
abbrev pub begun_by : Event → Option CallOp
begun_by (BeginUpdate p e) = Some (Update e)
begun_by (BeginView p) = Some View
begun_by (EndUpdate p) = None
begun_by (EndView p es) = None

abbrev pub number_of : SpecCall → ℕ
number_of c = c.number

-- the entries that a view shows
abbrev pub entries_shown : SpecCall → List Entry
entries_shown c = entries_of c.operation

abbrev pub answered_by : Operation → Option (List Entry)
answered_by (Updates e) = None
answered_by (Views answer) = answer

-- what a call answered, if it is a completed view
abbrev pub answer_of : SpecCall → Option (List Entry)
answer_of c = answered_by c.operation
