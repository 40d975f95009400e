use Rattle.std.proofs.Common.{inr}
use Rattle.snap_follow.proofs.Running.{ends_more, stamps_at_end}
use Rattle.snap_follow.proofs.pieces.end_turns.Goals as goal

pub returns-in_ok-take_waiting-clause-ended : goal.returns-in_ok-take_waiting-clause-ended
returns-in_ok-take_waiting-clause-ended c = λ goes_on. ends_more c.args.until c.args.course.now c.end_last.new.course c.take_waiting.new.self (c.in_ok-end_last.ensures.ended c.if-branch.true) (c.in_ok-take_waiting.ensures.taken goes_on) c.in_ok-take_waiting.ensures.rest

pub returns-in_ok-take_waiting-clause-refused : goal.returns-in_ok-take_waiting-clause-refused
returns-in_ok-take_waiting-clause-refused c = λ none. inr (inr (stamps_at_end c.args.until c.args.course.now c.end_last.new.course (c.in_ok-end_last.ensures.ended c.if-branch.true) (c.in_ok-take_waiting.ensures.refused none)))
