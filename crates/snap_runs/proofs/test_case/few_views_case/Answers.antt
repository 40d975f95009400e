use Rattle.std.proofs.Common.{◌≡◌, ◌∙◌, append_assoc, subst}
use Rattle.std.specs.Prelude.{IfOk}
use Rattle.snap_explain.specs.declared.test_case.Ending.TheVariants.{Failure}
use Rattle.snap_explain.specs.TestCases.{ended_case}
use Rattle.snap_runs.specs.TestCases.{few_views_text}
use Rattle.snap_runs.proofs.test_case.few_views_case.Goals as goal

pub returns : goal.returns
returns c =
    let said : c.deref.result.now ≡ few_views_text c.args.least =
    c.deref.ensures.value ∙ rw (c.in_ok-extend_from_slice.ensures.items, c.in_ok-put_number.ensures, c.from.ensures, c.new-said.ensures.items) (simp append_assoc) in
    subst (λ said. IfOk c.ended_case.result (λ text. text.items ≡ ended_case Failure c.args.name.now said)) said c.ended_case.ensures
