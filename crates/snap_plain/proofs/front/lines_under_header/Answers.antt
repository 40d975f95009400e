use Rattle.std.proofs.Common.{sym, ◌∙◌}
use Rattle.snap_format.specs.Layout.{is_header_row}
use Rattle.snap_plain.proofs.FrontFacts.{begins_otherwise, begins_with, begins_with_others, no_header_of}
use Rattle.snap_plain.proofs.front.lines_under_header.Goals as goal

pub returns-in_err-fields : goal.returns-in_err-fields
returns-in_err-fields c = rw c.from_residual.ensures (begins_with_others is_header_row 4 c.args.text.now no_header_of c.requires c.in_err-fields.ensures)

pub returns-then-are_header : goal.returns-then-are_header
returns-then-are_header c = begins_with is_header_row c.args.text.now _ _ c.requires c.in_ok-fields.ensures (sym c.are_header.ensures ∙ c.if-are_header.true)

pub returns-else-are_header : goal.returns-else-are_header
returns-else-are_header c = begins_otherwise is_header_row c.args.text.now _ _ c.requires c.in_ok-fields.ensures (sym c.are_header.ensures ∙ c.if-are_header.false)
