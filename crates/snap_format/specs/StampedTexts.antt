-- The events of a text with stamps, in the order of the stamps, which need not be a history: each record is tested by itself alone.
use Rattle.std.specs.Prelude.{◌≡◌, ◌≤◌, ◌<◌, ◌⊎◌, ℕ, true, false, List, [], ◌∷◌, length, Result, Ok, Err}
use Rattle.std.specs.Global.{Vec}
use Rattle.snap_core.specs.declared.limit.Limit.{Limit}
use Rattle.snap_text.specs.declared.fault.TextFault.{TextFault}
use Rattle.snap_text.specs.declared.fault.TextFault.TheVariants as faults
use Rattle.snap_text.specs.Fields.{Fields}
use Rattle.snap_format.specs.declared.refusal.ReadRefusal.{ReadRefusal}
use Rattle.snap_format.specs.declared.refusal.ReadRefusal.TheVariants as refusals
use Rattle.snap_format.specs.declared.stamped.Stamped.{Stamped}
use Rattle.snap_format.specs.Layout.{is_stamped_header_row}
use Rattle.snap_format.specs.Rows.{rows_of}
use Rattle.snap_format.specs.Stamps.{InOrder, NoneOf, ShapeFault, shape_at}
use Rattle.snap_format.specs.Texts.{bytes_within}

-- no record has a fault by itself, and the stamped events are those of the records, in the order of their stamps
pub record AreStamped (limit : Limit) (rows : List Fields) (sorted : List Stamped) : Type 0 where
  pub shapes : NoneOf (shape_at limit rows) (length rows)
  pub order : InOrder rows sorted

-- what an answer says of the records under the header of a text with stamps
abbrev pub RefusesShapes : Limit → List Fields → ReadRefusal → Type 0
RefusesShapes limit rows (refusals.Text place f) = ShapeFault limit rows place f
RefusesShapes limit rows refusals.Device = ⊥
RefusesShapes limit rows refusals.Memory = Unit {0}

abbrev pub OrdersStamped : Limit → List Fields → Result (Vec Stamped) ReadRefusal → Type 0
OrdersStamped limit rows (Ok sorted) = AreStamped limit rows sorted.items
OrdersStamped limit rows (Err e) = RefusesShapes limit rows e

-- the stamped events of a text: its first record is the header with stamps
abbrev pub RowsStamped : Limit → List Fields → List Stamped → Type 0
RowsStamped limit [] sorted = ⊥
RowsStamped limit (head ∷ rows) sorted = (is_stamped_header_row head ≡ true) × AreStamped limit rows sorted

abbrev pub IsStampedText : Limit → List ℕ → List Stamped → Type 0
IsStampedText limit text sorted = (length text ≤ bytes_within limit) × RowsStamped limit (rows_of text) sorted

-- the place of the first record with a fault by itself, and that fault
abbrev pub RowsStampedFault : Limit → List Fields → ℕ → TextFault → Type 0
RowsStampedFault limit [] place f = (place ≡ 1) × (f ≡ faults.Header)
RowsStampedFault limit (head ∷ rows) place f =
    ((is_stamped_header_row head ≡ false) × (place ≡ 1) × (f ≡ faults.Header)) ⊎ ((is_stamped_header_row head ≡ true) × ShapeFault limit rows place f)

abbrev pub HasStampedFault : Limit → List ℕ → ℕ → TextFault → Type 0
HasStampedFault limit text place f =
    ((bytes_within limit < length text) × (place ≡ 0) × (f ≡ faults.TooLong)) ⊎ ((length text ≤ bytes_within limit) × RowsStampedFault limit (rows_of text) place f)
