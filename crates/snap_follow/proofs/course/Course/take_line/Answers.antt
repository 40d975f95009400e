use Rattle.std.proofs.Common.{[], ◌∷◌, refl}
use Rattle.snap_follow.proofs.Refusing.{stops_at}
use Rattle.snap_follow.proofs.course.Course.take_line.Goals as goal

pub returns-clause-read : goal.returns-clause-read
returns-clause-read c = λ _. c.in_ok-end_window.ensures.ended c.args.self.now (c.args.line.now ∷ []) c.in_default.ensures.read refl

pub returns-in-Err-clause-refused : goal.returns-in-Err-clause-refused
returns-in-Err-clause-refused c = λ _. stops_at c.args.self.now.follow c.args.line.now c.in-Err.ended c.in_ok-refuse.ensures.refused c.in-Err.ensures.refused
