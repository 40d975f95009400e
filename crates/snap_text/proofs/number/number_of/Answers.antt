use Rattle.std.proofs.Common.{sym, ◌∙◌}
use Rattle.snap_text.proofs.FrontFacts.{number_goes_on, number_missing, number_whole}
use Rattle.snap_text.proofs.number.number_of.Goals as goal

pub returns-in_err-number : goal.returns-in_err-number
returns-in_err-number c = c.from_residual.ensures ∙ sym (number_missing c.args.field.now c.in_err-number.ensures)

pub returns-then-is_empty : goal.returns-then-is_empty
returns-then-is_empty c = sym (number_whole c.args.field.now c.in_ok-number.number c.in_ok-number.rest.now c.in_ok-number.ensures (sym c.if-is_empty.ensures))

pub returns-else-is_empty : goal.returns-else-is_empty
returns-else-is_empty c = sym (number_goes_on c.args.field.now c.in_ok-number.number c.in_ok-number.rest.now c.in_ok-number.ensures (sym c.if-is_empty.ensures))
