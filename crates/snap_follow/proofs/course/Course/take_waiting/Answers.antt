use Rattle.std.proofs.Common.{◌∙◌, ap, drop, refl}
use Rattle.snap_follow.proofs.Taking.{more_both, more_nothing}
use Rattle.snap_follow.proofs.course.Course.take_waiting.Goals as goal

pub turns-init : goal.turns-init
turns-init c = (more_nothing c.args.self.now, refl, λ some. some)

pub turns-preserved : goal.turns-preserved
turns-preserved c = (
  more_both c.args.self.now c.turns.self c.take_first.new.self c.turns.invariant.0 (c.in_ok-take_first.ensures.taken c.if-not-branch.false),
  c.in_ok-take_first.ensures.rest ∙ c.turns.invariant.1,
  λ some. c.turns.invariant.2 (λ none. some (c.in_ok-take_first.ensures.fewer c.if-not-branch.false ∙ ap (drop 1) none)),
)

pub returns-then-not-branch-clause-refused : goal.returns-then-not-branch-clause-refused
returns-then-not-branch-clause-refused c = λ _. c.turns.invariant.2 (c.in_ok-take_first.ensures.refused c.if-not-branch.true)
