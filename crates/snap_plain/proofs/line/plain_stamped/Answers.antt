use Rattle.std.proofs.Common.{◌≡◌, ◌<◌, ◌∷◌, [], List, ℕ, Result, Ok, Err, ap, arith, length, subst, ◌∙◌, sym}
use Rattle.std.specs.Prelude.{IfSome}
use Rattle.std.specs.Result.{result_ok}
use Rattle.std.proofs.lemmas.Bool.{eqb-true}
use Rattle.snap_core.specs.declared.event.Event.{Event}
use Rattle.snap_format.specs.declared.refusal.ReadRefusal.{ReadRefusal}
use Rattle.snap_format.specs.Rows.{rows_of}
use Rattle.snap_format.specs.Stamps.{stamped_row}
use Rattle.snap_plain.specs.Lines.{HasRows}
use Rattle.snap_plain.proofs.FrontFacts.{empty_text, no_line}
use Rattle.snap_plain.proofs.PlainFacts.{row_of_fields}
use Rattle.snap_format.specs.Taking.{GivesFields}
use Rattle.snap_text.specs.Fields.{Fields}
use Rattle.snap_plain.proofs.line.plain_stamped.Goals as goal

spelled : (rows : List Fields) (row : Fields) (later : List Fields) (read : Result (ℕ × Event) ReadRefusal) → rows ≡ row ∷ later → later ≡ [] → GivesFields 0 read (stamped_row row) → IfSome (result_ok read) (λ x. (r : Fields) × (rows ≡ r ∷ []) × (stamped_row r ≡ Ok x))
spelled rows row later (Ok x) is none gives = (row, is ∙ ap (λ z. row ∷ z) none, gives)
spelled rows row later (Err e) is none gives = tt

pub returns : goal.returns
returns c =
    let line = c.behind_newlines-line.result.now in
    let has = c.behind_newlines-line.ensures.same _ c.in_ok-plain_line.ensures in
    let some : 0 < length line = omega (arith, (c.in_ok-fields.ensures has.plain).shorter) in
    let (later, is, left) = row_of_fields line c.in_ok-fields.rest.now _ (rows_of c.args.line.now) some (c.behind_newlines-line.ensures.begins some) c.in_ok-fields.ensures has in
    let empty : c.in_ok-fields.rest.now ≡ [] = empty_text c.in_ok-fields.rest.now (eqb-true _ _ (sym c.if-not-is_empty.ensures)) in
    let none : later ≡ [] = no_line later (subst (λ z. HasRows z later) empty left) in
    rw c.ok.ensures.value (spelled (rows_of c.args.line.now) _ later c.stamped_of_record.result is none c.stamped_of_record.ensures)
