-- When a byte text is one of a history, and where all others have their first fault.
use Rattle.std.specs.Prelude.{◌≡◌, ◌≤◌, ◌<◌, ◌+◌, ◌*◌, ◌⊎◌, ℕ, true, false, List, [], ◌∷◌, length}
use Rattle.snap_core.specs.declared.limit.Limit.{Limit}
use Rattle.snap_core.specs.declared.event.Event.{Event}
use Rattle.snap_core.specs.Events.{event_cap}
use Rattle.snap_format.specs.declared.size.TheConstants.{BYTES_EACH}
use Rattle.snap_text.specs.declared.fault.TextFault.{TextFault}
use Rattle.snap_text.specs.declared.fault.TextFault.TheVariants as faults
use Rattle.snap_text.specs.Fields.{Fields}
use Rattle.snap_format.specs.Rows.{rows_of}
use Rattle.snap_format.specs.Layout.{is_header_row, is_stamped_header_row}
use Rattle.snap_format.specs.Faults.{events_in, NoFault, FirstFault}
use Rattle.snap_format.specs.Stamps.{StampedFault, StampedRead}

-- the greatest number of bytes of a text within a limit
abbrev pub bytes_within : Limit → ℕ
bytes_within limit = limit.events * BYTES_EACH

-- that of a text within the greatest limit
abbrev pub bytes_cap : ℕ
bytes_cap = event_cap * BYTES_EACH

-- records that are a history within a limit, without stamps or with them; the first record must be one of the headers
abbrev pub RowsRead : Limit → List Fields → List Event → Type 0
RowsRead limit [] events = ⊥
RowsRead limit (head ∷ rows) events =
    ((is_header_row head ≡ true) × NoFault limit rows × (events ≡ events_in rows))
    ⊎ ((is_stamped_header_row head ≡ true) × StampedRead limit rows events)

-- the place of the first fault of records, and that fault
abbrev pub RowsFault : Limit → List Fields → ℕ → TextFault → Type 0
RowsFault limit [] place f = (place ≡ 1) × (f ≡ faults.Header)
RowsFault limit (head ∷ rows) place f =
    ((is_header_row head ≡ false) × (is_stamped_header_row head ≡ false) × (place ≡ 1) × (f ≡ faults.Header))
    ⊎ (((is_header_row head ≡ true) × (i : ℕ) × (place ≡ i + 2) × FirstFault limit rows i f)
    ⊎ ((is_stamped_header_row head ≡ true) × StampedFault limit rows place f))

-- a text without a fault, and its history within a limit
abbrev pub IsText : Limit → List ℕ → List Event → Type 0
IsText limit text events = (length text ≤ bytes_within limit) × RowsRead limit (rows_of text) events

-- the first fault of a text, and its place
abbrev pub HasFault : Limit → List ℕ → ℕ → TextFault → Type 0
HasFault limit text place f =
    ((bytes_within limit < length text) × (place ≡ 0) × (f ≡ faults.TooLong))
    ⊎ ((length text ≤ bytes_within limit) × RowsFault limit (rows_of text) place f)
