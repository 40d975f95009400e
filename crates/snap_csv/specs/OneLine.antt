-- What the calls that read one line answer, by its records.
use Rattle.std.specs.Prelude.{◌≡◌, ◌≢◌, ◌↔◌, ◌⊎◌, ⊤, ℕ, Bool, true, IsTrue, List, [], ◌∷◌, Option, Some, None, Result, Ok, Err}
use Rattle.std.specs.declared.alloc.AllocError.{AllocError}
use Rattle.snap_core.specs.declared.event.Event.{Event}
use Rattle.snap_format.specs.declared.refusal.ReadRefusal.{ReadRefusal}
use Rattle.snap_format.specs.declared.refusal.ReadRefusal.TheVariants as refusals
use Rattle.snap_format.specs.Layout.{is_header_row, is_stamped_header_row}
use Rattle.snap_format.specs.Stamps.{stamped_row}
use Rattle.snap_text.specs.declared.fault.TextFault.TheVariants as faults
use Rattle.snap_text.specs.Fields.{Fields, row_event}

-- the first of some records, and whether it is the only one
abbrev pub HasFirst : List Fields → Fields → Bool → Type 0
HasFirst rows first only = (later : List Fields) × (rows ≡ first ∷ later) × (IsTrue only ↔ (later ≡ []))

-- no record, or whether the line is the header and nothing else
abbrev pub AnswersHeader : List Fields → Result (Option Bool) AllocError → Type 0
AnswersHeader rows (Ok None) = rows ≡ []
AnswersHeader rows (Ok (Some is)) = (first : Fields) × (later : List Fields) × (rows ≡ first ∷ later) × (IsTrue is ↔ ((is_header_row first ≡ true) × (later ≡ [])))
AnswersHeader rows (Err e) = ⊤

-- the same of the header of texts with stamps
abbrev pub AnswersStampedHeader : List Fields → Result (Option Bool) AllocError → Type 0
AnswersStampedHeader rows (Ok None) = rows ≡ []
AnswersStampedHeader rows (Ok (Some is)) = (first : Fields) × (later : List Fields) × (rows ≡ first ∷ later) × (IsTrue is ↔ ((is_stamped_header_row first ≡ true) × (later ≡ [])))
AnswersStampedHeader rows (Err e) = ⊤

-- no record, the event that the only record spells, or the fault; more than one record count as a wrong number of fields
abbrev pub AnswersLine : ℕ → List Fields → Result (Option Event) ReadRefusal → Type 0
AnswersLine place rows (Ok None) = rows ≡ []
AnswersLine place rows (Ok (Some x)) = (row : Fields) × (rows ≡ row ∷ []) × (row_event row ≡ Ok x)
AnswersLine place rows (Err (refusals.Text p f)) = (p ≡ place) × (first : Fields) × (later : List Fields) × (rows ≡ first ∷ later) × (((later ≡ []) × (row_event first ≡ Err f)) ⊎ ((later ≢ []) × (f ≡ faults.Fields)))
AnswersLine place rows (Err refusals.Device) = ⊥
AnswersLine place rows (Err refusals.Memory) = Unit {0}

-- no record, the stamp and the event that the only record spells, or the fault
abbrev pub AnswersStamped : ℕ → List Fields → Result (Option (ℕ × Event)) ReadRefusal → Type 0
AnswersStamped place rows (Ok None) = rows ≡ []
AnswersStamped place rows (Ok (Some x)) = (row : Fields) × (rows ≡ row ∷ []) × (stamped_row row ≡ Ok x)
AnswersStamped place rows (Err (refusals.Text p f)) = (p ≡ place) × (first : Fields) × (later : List Fields) × (rows ≡ first ∷ later) × (((later ≡ []) × (stamped_row first ≡ Err f)) ⊎ ((later ≢ []) × (f ≡ faults.Fields)))
AnswersStamped place rows (Err refusals.Device) = ⊥
AnswersStamped place rows (Err refusals.Memory) = Unit {0}
