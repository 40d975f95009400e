use Rattle.snap_follow.proofs.Taking.{if_ok_then, last_line, last_none, no_bytes, some_bytes}
use Rattle.snap_follow.proofs.course.Course.take_last.Goals as goal

pub returns-then-is_empty-clause-read : goal.returns-then-is_empty-clause-read
returns-then-is_empty-clause-read c = λ _. last_none c.args.self.now (no_bytes c.args.self.now.rest c.if-is_empty.ensures)

pub returns-clause-read : goal.returns-clause-read
returns-clause-read c =
    if_ok_then c.take_rest.result _ _ c.take_rest.ensures.read (λ goes_on reads is. last_line c.args.self.now c.take_rest.new.self (some_bytes c.args.self.now.rest c.if-is_empty.ensures) (reads is))
