use Rattle.std.proofs.Common.{refl}
use Rattle.snap_follow.proofs.Running.{none_found}
use Rattle.snap_follow.proofs.pieces.go_on.Goals as goal

pub returns-then-is_over-clause-over : goal.returns-then-is_over-clause-over
returns-then-is_over-clause-over g c = λ _. (none_found (g.T.Texts.left c.args.texts.now) c.has_next.result c.has_next.ensures.known c.if-has_next.false, refl, refl)
