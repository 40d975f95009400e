use Rattle.std.proofs.Common.{◌∙◌, sym, arith}
use Rattle.snap_explain.proofs.MistakeFacts.{above_range, below_range, in_range, no_number}
use Rattle.snap_explain.proofs.mistake.is_number.Goals as goal

pub returns-in-Some : goal.returns-in-Some
returns-in-Some c = sym (in_range c.args.least c.args.limit c.in-Some.number c.args.part.now (sym c.stamp_of.ensures ∙ c.in-Some.is) (omega arith) (omega arith) (omega arith))

pub returns-in_default : goal.returns-in_default
returns-in_default c = sym (below_range c.args.least c.args.limit c.in-Some.number c.args.part.now (sym c.stamp_of.ensures ∙ c.in-Some.is) (omega arith) (omega arith) (omega arith))

pub returns-in_default-2 : goal.returns-in_default-2
returns-in_default-2 c = sym (above_range c.args.least c.args.limit c.in-Some.number c.args.part.now (sym c.stamp_of.ensures ∙ c.in-Some.is) (omega arith) (omega arith))

pub returns-in_default-3 : goal.returns-in_default-3
returns-in_default-3 c = sym (no_number c.args.least c.args.limit c.args.part.now (sym c.stamp_of.ensures ∙ c.in_default.is) (omega arith))
