-- A row as a call.
use Rattle.snap_core.specs.Calls.{Call, Updates, Views}
use Rattle.snap_core.specs.Calls.{Operation as SpecOperation}
use Rattle.snap_versions.specs.declared.row.Operation.{Operation}
use Rattle.snap_versions.specs.declared.row.Operation.TheVariants.{Update, View}
use Rattle.snap_versions.specs.declared.row.Row.{Row}

abbrev pub operation_of : Operation → SpecOperation
operation_of (Update e) = Updates e
operation_of (View answer) = Views answer

abbrev pub call_of : Row → Call
call_of r = record { number = r.number; process = r.process; operation = operation_of r.operation; begun = r.begun; ended = r.ended }
