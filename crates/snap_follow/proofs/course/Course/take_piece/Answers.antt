use Rattle.std.proofs.Common.{◌+◌, [], refl, subst}
use Rattle.std.proofs.lemmas.List.{take_rest}
use Rattle.snap_follow.specs.inside.Courses.{IsTooLong}
use Rattle.snap_follow.proofs.Taking.{all_taken, if_ok_then, line_more, line_stops, rest_stops, takes_nothing}
use Rattle.snap_follow.proofs.course.Course.take_piece.Goals as goal

pub loop-at-init : goal.loop-at-init
loop-at-init c = ([], refl, takes_nothing c.args.self.now)

pub loop-at-preserved : goal.loop-at-preserved
loop-at-preserved c =
    let left = c.loop-at.left.now in
    rw (take_rest left (c.in-Some.at + 1)) (line_more c.args.self.now c.loop-at.self c.take_joined.new.self c.args.piece.now c.loop-at.invariant.0 left c.in-Some.at
    c.loop-at.invariant.1 c.loop-at.invariant.2 c.in-Some.ensures (c.in_ok-take_joined.ensures.rest c.if-not-branch.false) (c.in_ok-take_joined.ensures.read c.if-not-branch.false))

pub returns-clause-taken : goal.returns-clause-taken
returns-clause-taken c =
    if_ok_then c.check_length.result _ _ c.check_length.ensures.kept (λ goes_on kept is. all_taken c.args.self.now c.loop-at.self c.check_length.new.self c.args.piece.now c.loop-at.invariant.0 c.loop-at.left.now
    c.loop-at.invariant.1 c.loop-at.invariant.2 c.in_default.ensures (rw c.check_length.ensures.same.0 c.in_ok-extend_from_slice.ensures.items) c.check_length.ensures.same.1 (kept is))

pub returns-then-not-branch-clause-refused : goal.returns-then-not-branch-clause-refused
returns-then-not-branch-clause-refused c =
    λ _. line_stops c.args.self.now c.loop-at.self c.args.piece.now c.loop-at.invariant.0 c.loop-at.left.now c.in-Some.at
    c.loop-at.invariant.1 c.loop-at.invariant.2 c.in-Some.ensures (c.in_ok-take_joined.ensures.refused c.if-not-branch.true)

pub returns-clause-refused : goal.returns-clause-refused
returns-clause-refused c =
    if_ok_then c.check_length.result _ _ c.check_length.ensures.refused (λ goes_on long no. rest_stops c.args.self.now c.loop-at.self c.args.piece.now c.loop-at.invariant.0 c.loop-at.left.now
    c.loop-at.invariant.1 c.loop-at.invariant.2 c.in_default.ensures (subst IsTooLong c.in_ok-extend_from_slice.ensures.items (long no)))
