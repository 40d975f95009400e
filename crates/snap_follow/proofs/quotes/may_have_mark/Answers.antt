use Rattle.snap_follow.proofs.Unquoting.{no_mark, no_mark_in_nothing}
use Rattle.snap_follow.proofs.quotes.may_have_mark.Goals as goal

pub returns-in-Some : goal.returns-in-Some
returns-in-Some c = λ other. rw c.in-Some.ensures.cases.0 (no_mark c.in-Some.first.now c.in-Some.field-0-1.now other)

pub returns-in-None : goal.returns-in-None
returns-in-None c = λ _. no_mark_in_nothing c.args.text.now c.in-None.ensures.cases
