-- What is proved of all events and their fields.
use Rattle.std.specs.Prelude.{◌≡◌, ◌<◌, Ok}
use Rattle.snap_core.specs.declared.event.Event.{Event}
use Rattle.snap_core.specs.declared.event.Event.TheVariants.{BeginUpdate, BeginView, EndUpdate, EndView}
use Rattle.snap_core.specs.Events.{EventFits}
use Rattle.snap_text.specs.Fields.{Fields, row_event}
use Rattle.snap_text.specs.Spelling.{spelled}

-- a record is read as an event only if it has the event's four fields
abbrev pub RecordsAreSpelled : Type 0
RecordsAreSpelled = (record_fields : Fields) (event : Event) → row_event record_fields ≡ Ok event → record_fields ≡ spelled event

-- the number of an update is at least 1
abbrev pub HasNumber : Event → Type 0
HasNumber (BeginUpdate p e) = 0 < e.number
HasNumber (BeginView p) = Unit {0}
HasNumber (EndUpdate p) = Unit {0}
HasNumber (EndView p es) = Unit {0}

-- each event whose parts fit their types is read from its four fields, even if no history has it
abbrev pub FieldsReadBack : Type 0
FieldsReadBack = (event : Event) → EventFits event → HasNumber event → row_event (spelled event) ≡ Ok event

-- no two events have the same four fields
abbrev pub FieldsAreOneEvents : Type 0
FieldsAreOneEvents = (x y : Event) → EventFits x → EventFits y → spelled x ≡ spelled y → x ≡ y
