use Rattle.std.proofs.Common.{◌∙◌, ap}
use Rattle.std.proofs.lemmas.Result.{IfOk-weaker}
use Rattle.snap_explain.specs.declared.test_case.Ending.TheVariants.{Error}
use Rattle.snap_explain.specs.TestCases.{ended_case}
use Rattle.snap_runs.proofs.test_case.refused_case.Goals as goal

pub returns : goal.returns
returns c =
    IfOk-weaker c.ended_case.result _ _ (λ out is. record { said = c.in_ok-said.said.items; explained = c.in_ok-said.ensures; case_is = is ∙ ap (ended_case Error c.args.name.now) c.deref.ensures.value }) c.ended_case.ensures
