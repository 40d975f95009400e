use Rattle.std.proofs.Common.{◌≡◌, ◌++◌, true, [], sym, subst, inl, inr}
use Rattle.std.specs.Prelude.{IfOk}
use Rattle.snap_follow.specs.Followed.{StopsAt}
use Rattle.snap_follow.specs.inside.Courses.{TakesLine}
use Rattle.snap_follow.proofs.Taking.{if_ok_then, no_bytes}
use Rattle.snap_follow.proofs.course.Course.take_joined.Goals as goal

pub returns-then-is_empty-clause-read : goal.returns-then-is_empty-clause-read
returns-then-is_empty-clause-read c =
    subst (λ z. IfOk c.take_line.result (λ goes_on. goes_on ≡ true → TakesLine c.args.self.now c.take_line.new.self (z ++ c.args.bytes.now))) (sym (no_bytes c.args.self.now.rest c.if-is_empty.ensures)) c.take_line.ensures.read

pub returns-in_ok-take_rest-clause-read : goal.returns-in_ok-take_rest-clause-read
returns-in_ok-take_rest-clause-read c = λ goes_on. rw (← c.in_ok-extend_from_slice.ensures.items, ← c.in_ok-check_length.ensures.same.0, ← c.in_ok-check_length.ensures.same.1, ← c.in_ok-check_length.ensures.kept c.if-branch.true) (c.in_ok-take_rest.ensures.read goes_on)

pub returns-then-is_empty-clause-refused : goal.returns-then-is_empty-clause-refused
returns-then-is_empty-clause-refused c =
    if_ok_then c.take_line.result _ _ c.take_line.ensures.refused
    (λ goes_on stops no. inr (subst (λ z. StopsAt c.args.self.now.follow (z ++ c.args.bytes.now)) (sym (no_bytes c.args.self.now.rest c.if-is_empty.ensures)) (stops no)))

pub returns-in_ok-take_rest-clause-refused : goal.returns-in_ok-take_rest-clause-refused
returns-in_ok-take_rest-clause-refused c = λ no. inr (rw (← c.in_ok-extend_from_slice.ensures.items, ← c.in_ok-check_length.ensures.same.0, ← c.in_ok-check_length.ensures.same.1) (c.in_ok-take_rest.ensures.refused no))

pub returns-then-is_empty-clause-rest : goal.returns-then-is_empty-clause-rest
returns-then-is_empty-clause-rest c =
    if_ok_then c.take_line.result _ _ c.take_line.ensures.refused
    (λ goes_on _ yes. subst (λ z. z.items ≡ []) (sym c.take_line.ensures.rest) (no_bytes c.args.self.now.rest c.if-is_empty.ensures))

pub returns-in_ok-take_rest-clause-rest : goal.returns-in_ok-take_rest-clause-rest
returns-in_ok-take_rest-clause-rest c = λ yes. c.in_ok-take_rest.ensures.rest

pub returns-else-branch-clause-refused : goal.returns-else-branch-clause-refused
returns-else-branch-clause-refused c = λ no. inl (rw (← c.in_ok-extend_from_slice.ensures.items) (c.in_ok-check_length.ensures.refused no))
