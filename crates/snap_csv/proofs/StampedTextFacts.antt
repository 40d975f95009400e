-- What is answered of stamped records is said of the text that was taken into a room.
use Rattle.std.proofs.Common.{◌≡◌, ◌≤◌, ◌∷◌, [], ℕ, List, length, true, false, inl, inr, Option, Some, None, Result, Ok, Err, refl, subst}
use Rattle.std.specs.Prelude.{IfOk, IfSome}
use Rattle.std.specs.Global.{Vec}
use Rattle.snap_core.specs.declared.limit.Limit.{Limit}
use Rattle.snap_text.specs.Fields.{Fields}
use Rattle.snap_text.specs.declared.fault.TextFault.TheVariants as faults
use Rattle.snap_format.specs.declared.refusal.ReadRefusal.{ReadRefusal}
use Rattle.snap_format.specs.declared.refusal.ReadRefusal.TheVariants as refusals
use Rattle.snap_format.specs.declared.stamped.Stamped.{Stamped}
use Rattle.snap_format.specs.Layout.{is_stamped_header_row}
use Rattle.snap_format.specs.Rows.{rows_of}
use Rattle.snap_format.specs.StampedTexts.{OrdersStamped, RowsStampedFault}
use Rattle.snap_format.specs.Texts.{bytes_within}
use Rattle.snap_format.proofs.StampFacts.{stamped_short}
use Rattle.snap_csv.specs.Answers.{Counts}
use Rattle.snap_csv.specs.StampedAnswers.{AnswersStampedText}
use Rattle.snap_csv.specs.inside.StampedRows.{AnswersStampedRows}

pub under_header : (limit : Limit) (rows : List Fields) (head : Fields) (rest : List Fields) (result : Result (Vec Stamped) ReadRefusal) → rows ≡ head ∷ rest → is_stamped_header_row head ≡ true → OrdersStamped limit rest result → AnswersStampedRows limit rows result
under_header limit rows head rest (Ok sorted) e s a = rw e (s, a)
under_header limit rows head rest (Err (refusals.Text p f)) e s a = rw e (inr (s, a))
under_header limit rows head rest (Err refusals.Device) e s a = a
under_header limit rows head rest (Err refusals.Memory) e s a = tt

pub other_header : (limit : Limit) (rows : List Fields) (head : Fields) (rest : List Fields) → rows ≡ head ∷ rest → is_stamped_header_row head ≡ false → RowsStampedFault limit rows 1 faults.Header
other_header limit rows head rest e s = rw e (inl (s, refl, refl))

pub no_record : (limit : Limit) (rows : List Fields) → rows ≡ [] → RowsStampedFault limit rows 1 faults.Header
no_record limit rows e = rw e (refl, refl)

answers : (limit : Limit) (text : List ℕ) (result : Result (Vec Stamped) ReadRefusal) → length text ≤ bytes_within limit → AnswersStampedRows limit (rows_of text) result → AnswersStampedText limit text result
answers limit text (Ok sorted) short says = (short, says)
answers limit text (Err (refusals.Text place f)) short says = inr (short, says)
answers limit text (Err refusals.Device) short says = tt
answers limit text (Err refusals.Memory) short says = tt

pub stamped_room : (limit : Limit) (known : Option (List ℕ)) (room : List ℕ) (result : Result (Vec Stamped) ReadRefusal) → (length room ≤ bytes_within limit) × IfSome known (λ text. room ≡ text)
    → AnswersStampedRows limit (rows_of room) result → IfSome known (λ text. AnswersStampedText limit text result)
stamped_room limit None room result (short, is) says = tt
stamped_room limit (Some text) room result (short, is) says = subst (λ t. AnswersStampedText limit t result) is (answers limit room result short says)

-- no device fails after the text that was taken
pub stamped_counts : (limit : Limit) (rows : List Fields) (old new : ℕ) (result : Result (Vec Stamped) ReadRefusal) → new ≡ old → AnswersStampedRows limit rows result → Counts old new result
stamped_counts limit rows old new (Ok sorted) same says = same
stamped_counts limit rows old new (Err (refusals.Text place f)) same says = same
stamped_counts limit rows old new (Err refusals.Device) same says = absurd says
stamped_counts limit rows old new (Err refusals.Memory) same says = same

pub stamped_within : (limit : Limit) (rows : List Fields) (result : Result (Vec Stamped) ReadRefusal) → AnswersStampedRows limit rows result → IfOk result (λ sorted. length sorted.items ≤ limit.events)
stamped_within limit [] (Ok sorted) says = absurd says
stamped_within limit (head ∷ rows) (Ok sorted) says = stamped_short limit rows sorted.items says.1
stamped_within limit rows (Err e) says = tt
