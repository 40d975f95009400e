use Rattle.std.proofs.Common.{IfOk, subst, sym}
use Rattle.snap_runs.specs.declared.question.Question.{Question}
use Rattle.snap_runs.specs.Answers.{IsRefusalOf}
use Rattle.snap_runs.proofs.answers.refusal_of.Goals as goal

pub returns-in-TestCase : goal.returns-in-TestCase
returns-in-TestCase c =
    subst (λ (question : Question). IfOk c.refused_case.result (λ out. IsRefusalOf question c.args.limit c.args.text.now c.args.place c.args.fault out.items)) (sym c.in-TestCase.is) c.refused_case.ensures
