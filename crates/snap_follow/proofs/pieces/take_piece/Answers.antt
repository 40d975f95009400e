use Rattle.std.proofs.Common.{refl}
use Rattle.snap_follow.proofs.Running.{taken_for}
use Rattle.snap_follow.proofs.pieces.take_piece.Goals as goal

pub returns-then-goes_on-clause-taken : goal.returns-then-goes_on-clause-taken
returns-then-goes_on-clause-taken g c =
    let wrote = c.in_default.ensures.all in
    (wrote.0, taken_for c.args.course.now c.take_piece.new.self _ c.args.piece.now wrote.0.out refl refl wrote.1 (c.in_ok-goes_on.ensures.taken c.if-goes_on.true))
