-- The records of a text by their numbers, counted from 1, and the record of each event of its history.
use Rattle.std.specs.Prelude.{◌≡◌, ◌⊎◌, ◌==◌, ℕ, zero, suc, true, List, [], ◌∷◌, length, Option, Some, None, slice_get}
use Rattle.snap_core.specs.declared.limit.Limit.{Limit}
use Rattle.std.specs.List.{IsDistinct, range_with_len}
use Rattle.snap_core.specs.declared.event.Event.{Event}
use Rattle.snap_format.specs.declared.stamped.Stamped.{Stamped}
use Rattle.snap_text.specs.Fields.{Fields}
use Rattle.snap_format.specs.Rows.{rows_of}
use Rattle.snap_format.specs.Layout.{is_header_row, is_stamped_header_row, stamped_fields}
use Rattle.snap_format.specs.Stamps.{InOrder, places_of}
use Rattle.snap_text.specs.Spelling.{spelled}
use Rattle.snap_format.specs.Texts.{IsText}

-- the fields of the record of a number, if the text has one
abbrev pub record_at : List Fields → ℕ → Option Fields
record_at rows zero = None
record_at rows (suc i) = slice_get rows i

-- the number of each event's record. Without stamps: one after the other under the header, which is record 1. With stamps: those
-- of the stamped events, in the order of their stamps
abbrev pub RowsNumbered : List Fields → List ℕ → Type 0
RowsNumbered [] numbers = ⊥
RowsNumbered (head ∷ rows) numbers =
    ((is_header_row head ≡ true) × (numbers ≡ range_with_len 2 (length rows)))
    ⊎ ((is_stamped_header_row head ≡ true) × (sorted : List Stamped) × InOrder rows sorted × (numbers ≡ places_of sorted))

-- a text without a fault, its history of at most `limit` events, and the number of each event's record
pub record HaveRecords (limit : Limit) (text : List ℕ) (events : List Event) (records : List ℕ) : Type 0 where
  pub history : IsText limit text events
  pub numbers : RowsNumbered (rows_of text) records

-- a record has the four fields of an event, after a stamp if the text has stamps
abbrev pub Spells : Fields → Event → Type 0
Spells fields event = (fields ≡ spelled event) ⊎ ((at : ℕ) × (fields ≡ stamped_fields (at, event)))

-- there are as many numbers as events, no two the same, and the record of an event's number spells it
pub record SpellEvents (rows : List Fields) (events : List Event) (records : List ℕ) : Type 0 where
  pub count : length records ≡ length events
  pub distinct : IsDistinct (λ a b. a == b) records
  pub spell : (i number : ℕ) (event : Event) → slice_get records i ≡ Some number → slice_get events i ≡ Some event → (fields : Fields) × (record_at rows number ≡ Some fields) × Spells fields event
