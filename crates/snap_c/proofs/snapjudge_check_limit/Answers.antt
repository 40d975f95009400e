use Rattle.snap_c.specs.Answers.{IsAnsweredFor}
use Rattle.snap_c.proofs.snapjudge_check_limit.Goals as goal

pub returns : goal.returns
unfolding IsAnsweredFor
returns c = c.answer_within.ensures
