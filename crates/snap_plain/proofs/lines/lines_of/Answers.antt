use Rattle.snap_format.specs.Rows.{rows_of}
use Rattle.snap_plain.proofs.FrontFacts.{no_header_there, stripped_rows}
use Rattle.snap_plain.proofs.lines.lines_of.Goals as goal

pub returns-in-Some : goal.returns-in-Some
returns-in-Some c =
    let whole = c.behind_newlines-line.ensures.same (rows_of c.args.text.now) (rw c.behind_order_mark.ensures (stripped_rows c.args.text.now c.requires)) in
    c.in-Some.ensures (rows_of c.args.text.now) whole

pub returns-in-Some-lines_under_stamped_header : goal.returns-in-Some-lines_under_stamped_header
returns-in-Some-lines_under_stamped_header c =
    let whole = c.behind_newlines-line.ensures.same (rows_of c.args.text.now) (rw c.behind_order_mark.ensures (stripped_rows c.args.text.now c.requires)) in
    c.in-Some-lines_under_stamped_header.ensures (rows_of c.args.text.now) whole

pub returns : goal.returns
returns c = λ limit.
    let whole = c.behind_newlines-line.ensures.same (rows_of c.args.text.now) (rw c.behind_order_mark.ensures (stripped_rows c.args.text.now c.requires)) in
    no_header_there limit c.behind_newlines-line.result.now (rows_of c.args.text.now) whole c.in_default.ensures c.in_default-lines_under_stamped_header.ensures
