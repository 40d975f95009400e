-- A listed call as a call.
use Rattle.std.specs.Prelude.{ℕ, List, map, Option}
use Rattle.std.specs.Option.{option_copied}
use Rattle.snap_core.specs.declared.event.Event.{Event}
use Rattle.snap_core.specs.Calls.{Call, Operation, Updates, Views}
use Rattle.snap_index.specs.Answered.{answered_at}
use Rattle.snap_index.specs.declared.call.Call.{Call as IndexedCall}
use Rattle.snap_index.specs.declared.call.CallOp.{CallOp}
use Rattle.snap_index.specs.declared.call.CallOp.TheVariants.{Update as IndexedUpdate, View as IndexedView}
use Rattle.snap_versions.specs.declared.listed.Listed.{Listed}
use Rattle.snap_versions.specs.declared.listed.ListedOperation.{ListedOperation}
use Rattle.snap_versions.specs.declared.listed.ListedOperation.TheVariants.{Update, View}

abbrev pub operation_listed : ListedOperation → Operation
operation_listed (Update e) = Updates e
operation_listed (View answer) = Views (option_copied answer)

abbrev pub call_listed : Listed → Call
call_listed c = record { number = c.number; process = c.process; operation = operation_listed c.operation; begun = c.begun; ended = c.ended }

abbrev pub calls_listed : List Listed → List Call
calls_listed calls = map call_listed calls

-- what a call does, with the answer that the event at its end tells
abbrev pub operation_told : List Event → CallOp → Option ℕ → Operation
operation_told events (IndexedUpdate e) ended = Updates e
operation_told events IndexedView ended = Views (answered_at events ended)

-- the call of a number, with the answer that the event at its end tells
abbrev pub call_told : List Event → ℕ → IndexedCall → Call
call_told events number c =
    record { number = number; process = c.process; operation = operation_told events c.op c.ended; begun = c.begun; ended = c.ended }
