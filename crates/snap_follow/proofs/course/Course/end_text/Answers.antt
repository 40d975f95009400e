use Rattle.std.proofs.Common.{◌∙◌, ap, inl, inr, refl}
use Rattle.snap_follow.proofs.Taking.{last_more, no_record, stamps_last, text_done}
use Rattle.snap_follow.proofs.course.Course.end_text.Goals as goal

pub returns-clause-ended : goal.returns-clause-ended
returns-clause-ended c =
    λ _. text_done c.args.self.now c.take_waiting.new.self _ (last_more c.args.self.now c.take_last.new.self c.take_waiting.new.self (c.in_ok-take_last.ensures.read c.if-not-branch.false) (c.in_ok-take_waiting.ensures.taken c.if-not-branch-2.false)) c.in_default.ensures.ended (c.in_ok-take_waiting.ensures.all c.if-not-branch-2.false)
    (ap (λ z. z.items) c.in_ok-take_waiting.ensures.rest ∙ c.in_ok-take_last.ensures.rest) refl

pub returns-then-not-branch-clause-refused : goal.returns-then-not-branch-clause-refused
returns-then-not-branch-clause-refused c = λ _. inl (c.in_ok-take_last.ensures.refused c.if-not-branch.true)

pub returns-then-not-branch-2-clause-refused : goal.returns-then-not-branch-2-clause-refused
returns-then-not-branch-2-clause-refused c = λ _. inr (inr (stamps_last c.args.self.now c.take_last.new.self (c.in_ok-take_last.ensures.read c.if-not-branch.false) (c.in_ok-take_waiting.ensures.refused c.if-not-branch-2.true)))

pub returns-in-Err-clause-refused : goal.returns-in-Err-clause-refused
returns-in-Err-clause-refused c = λ _. inr (inl (no_record c.args.self.now c.take_waiting.new.self (last_more c.args.self.now c.take_last.new.self c.take_waiting.new.self (c.in_ok-take_last.ensures.read c.if-not-branch.false) (c.in_ok-take_waiting.ensures.taken c.if-not-branch-2.false)) c.in-Err.ensures.refused))
