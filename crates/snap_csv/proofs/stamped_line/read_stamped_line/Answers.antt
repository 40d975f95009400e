use Rattle.std.proofs.Common.{◌∙◌, sym, rules}
use Rattle.std.proofs.lemmas.Bool.{false≢true}
use Rattle.std.proofs.lemmas.Result.{err_from_is_err_and}
use Rattle.snap_format.specs.Rows.{rows_of}
use Rattle.snap_csv.proofs.OneLine.{no_stamped, only_stamped, only_stamped_fails}
use Rattle.snap_csv.proofs.stamped_line.read_stamped_line.Goals.{then-only+in_default-five_fields, else-only}
use Rattle.snap_csv.proofs.stamped_line.read_stamped_line.Goals as goal

pub returns-in_err-found : goal.returns-in_err-found
returns-in_err-found c =
    let first = rw (c.in-Some-2.is, c.if-only.true) at c.in_ok-only.ensures in
    let p = err_from_is_err_and c.from_residual-in_err-found.result c.from_residual-in_err-found.ensures.1 in
    rw (p.1, p.2) (only_stamped_fails c.args.place (rows_of c.args.line.now) _ first c.in_err-found.field-0.0 (rw c.in-Some-five_fields.ensures c.in_err-found.ensures))

pub returns-in-Some-five_fields : goal.returns-in-Some-five_fields
returns-in-Some-five_fields c =
    let first = rw (c.in-Some-2.is, c.if-only.true) at c.in_ok-only.ensures in
    only_stamped (rows_of c.args.line.now) _ c.in_ok-found.found first (rw c.in-Some-five_fields.ensures c.in_ok-found.ensures)

pub returns : goal.returns
returns c =
    let first = rw c.in-Some-2.is at c.in_ok-only.ensures in
    no_stamped c.args.place (rows_of c.args.line.now) _ c.in-Some-2.only first (λ t. elim c.if-only.branch [
      | then-only+in_default-five_fields w ↦ search (w.five_fields.ensures, rules)
      | else-only w ↦ absurd (false≢true (sym w.if-only.false ∙ t))
    ])
