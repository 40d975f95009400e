use Rattle.std.proofs.Common.{[], refl}
use Rattle.snap_follow.proofs.course.Course.take_first.Goals as goal

pub returns-clause-taken : goal.returns-clause-taken
returns-clause-taken c = λ _. c.in_ok-end_window.ensures.ended c.args.self.now [] c.in_default.ensures.taken refl
