use Rattle.std.proofs.Common.{◌∙◌, arith}
use Rattle.snap_conditions.proofs.Left.{first_number, behind_first, later_number, later_left}
use Rattle.snap_conditions.proofs.shown_and_next.take_number.Goals as goal

pub returns-then-from-k-clause-number : goal.returns-then-from-k-clause-number
returns-then-from-k-clause-number c = rw c.in-Some.ensures.cases.0 (λ all a. later_number c.args.k all _ _ a (λ same. c.if-from-k.true (c.from.ensures ∙ same)))

pub returns-then-from-k-clause-left : goal.returns-then-from-k-clause-left
returns-then-from-k-clause-left c = rw c.in-Some.ensures.cases.0 (λ all a. later_left c.args.k all _ _ a (λ same. c.if-from-k.true (c.from.ensures ∙ same)))

pub returns-clause-number : goal.returns-clause-number
returns-clause-number c = rw c.in-Some.ensures.cases.0 (λ all a. first_number c.args.k all _ _ a (omega (arith, c.if-from-k.false, c.from.ensures)))

pub returns-clause-left : goal.returns-clause-left
returns-clause-left c = rw c.in-Some.ensures.cases.0 (λ all a. behind_first c.args.k all _ _ a (omega (arith, c.if-from-k.false, c.from.ensures)))
