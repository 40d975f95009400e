use Rattle.std.proofs.Common.{subst}
use Rattle.snap_c.specs.Answers.{IsChecked}
use Rattle.snap_c.proofs.snapjudge_check.Goals as goal

pub returns : goal.returns
returns c =
    subst (λ n. IsChecked n c.args.text.now c.args.report.now c.answer.new.out c.answer.new.length c.answer.result)
    c.usual-usual.ensures c.answer.ensures
