use Rattle.std.proofs.Common.{◌∙◌, sym, rules}
use Rattle.std.proofs.lemmas.Bool.{false≢true}
use Rattle.std.proofs.lemmas.Result.{err_from_is_err_and}
use Rattle.snap_format.specs.Rows.{rows_of}
use Rattle.snap_csv.proofs.OneLine.{no_event, only_event, only_fails}
use Rattle.snap_csv.proofs.line.read_line.Goals.{then-only+in_default-four_fields, else-only}
use Rattle.snap_csv.proofs.line.read_line.Goals as goal

pub returns-in_err-event : goal.returns-in_err-event
returns-in_err-event c =
    let first = rw (c.in-Some-2.is, c.if-only.true) at c.in_ok-only.ensures in
    let p = err_from_is_err_and c.from_residual-in_err-event.result c.from_residual-in_err-event.ensures.1 in
    rw (p.1, p.2) (only_fails c.args.place (rows_of c.args.line.now) _ _ _ _ _ first c.in-Some-four_fields.ensures c.in_err-event.field-0.0 c.in_err-event.ensures)

pub returns-in-Some-four_fields : goal.returns-in-Some-four_fields
returns-in-Some-four_fields c =
    let first = rw (c.in-Some-2.is, c.if-only.true) at c.in_ok-only.ensures in
    only_event c.args.place (rows_of c.args.line.now) _ c.in_ok-event.event _ _ _ _ first c.in-Some-four_fields.ensures c.in_ok-event.ensures

pub returns : goal.returns
returns c =
    let first = rw c.in-Some-2.is at c.in_ok-only.ensures in
    no_event c.args.place (rows_of c.args.line.now) _ c.in-Some-2.only first (λ t. elim c.if-only.branch [
      | then-only+in_default-four_fields w ↦ search (w.four_fields.ensures, rules)
      | else-only w ↦ absurd (false≢true (sym w.if-only.false ∙ t))
    ])
