use Rattle.std.proofs.Common.{sym, ◌∙◌}
use Rattle.snap_format.specs.Layout.{is_stamped_header_row}
use Rattle.snap_plain.proofs.FrontFacts.{begins_otherwise, begins_with, begins_with_others, no_stamped_header_of}
use Rattle.snap_plain.proofs.front.lines_under_stamped_header.Goals as goal

pub returns-in_err-fields : goal.returns-in_err-fields
returns-in_err-fields c = rw c.from_residual.ensures (begins_with_others is_stamped_header_row 5 c.args.text.now no_stamped_header_of c.requires c.in_err-fields.ensures)

pub returns-then-are_stamped_header : goal.returns-then-are_stamped_header
returns-then-are_stamped_header c = begins_with is_stamped_header_row c.args.text.now _ _ c.requires c.in_ok-fields.ensures (sym c.are_stamped_header.ensures ∙ c.if-are_stamped_header.true)

pub returns-else-are_stamped_header : goal.returns-else-are_stamped_header
returns-else-are_stamped_header c = begins_otherwise is_stamped_header_row c.args.text.now _ _ c.requires c.in_ok-fields.ensures (sym c.are_stamped_header.ensures ∙ c.if-are_stamped_header.false)
