use Rattle.std.proofs.Common.{◌^◌, sym, ◌∙◌, arith}
use Rattle.snap_text.proofs.NumberFacts.{number_above, number_below, number_never}
use Rattle.snap_text.proofs.number.process_of.Goals as goal

pub returns-in-Some : goal.returns-in-Some
returns-in-Some c = sym (number_below (2 ^ 16) c.in-Some.n c.args.field.now (sym c.number_of.ensures ∙ c.in-Some.is) (omega arith) (omega arith))

pub returns-in_default : goal.returns-in_default
returns-in_default c = sym (number_above (2 ^ 16) c.in-Some.n c.args.field.now (sym c.number_of.ensures ∙ c.in-Some.is) (omega arith) (omega arith))

pub returns-in_default-2 : goal.returns-in_default-2
returns-in_default-2 c = sym (number_never (2 ^ 16) c.args.field.now (sym c.number_of.ensures ∙ c.in_default.is) (omega arith))
