use Rattle.std.proofs.Common.{inl, inr}
use Rattle.snap_follow.proofs.Running.{all_ended, none_at_all}
use Rattle.snap_follow.proofs.pieces.end_course.Goals as goal

pub returns-in_ok-check_begun-clause-ended : goal.returns-in_ok-check_begun-clause-ended
returns-in_ok-check_begun-clause-ended c =
    λ goes_on. all_ended c.args.until c.args.course.now c.end_turns.new.course c.check_begun.new.self (c.in_ok-end_turns.ensures.ended c.if-branch.true) (c.in_ok-end_turns.ensures.all c.if-branch.true) c.in_ok-check_begun.ensures.same.0 c.in_ok-check_begun.ensures.same.1 (c.in_ok-check_begun.ensures.kept goes_on) (c.in_ok-check_begun.ensures.begun goes_on)

pub returns-in_ok-check_begun-clause-refused : goal.returns-in_ok-check_begun-clause-refused
returns-in_ok-check_begun-clause-refused c = λ none. inr (inl (none_at_all c.args.until c.args.course.now c.end_turns.new.course (c.in_ok-end_turns.ensures.ended c.if-branch.true) (c.in_ok-check_begun.ensures.refused none)))
