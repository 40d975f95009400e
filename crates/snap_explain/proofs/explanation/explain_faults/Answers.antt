use Rattle.std.proofs.Common.{◌≡◌, ◌∙◌, true, ap, is_some, sym}
use Rattle.std.proofs.lemmas.Result.{IfOk-weaker}
use Rattle.snap_core.specs.Calls.{calls_of, views_of}
use Rattle.snap_conditions.specs.declared.tally.Tally.{Tally}
use Rattle.snap_conditions.specs.Tally.{tally_of}
use Rattle.snap_report.specs.Reports.{has_no_fault}
use Rattle.snap_explain.proofs.FirstFaults.{long_of_atomic}
use Rattle.snap_explain.proofs.explanation.explain_faults.Goals as goal

pub returns-in-Some : goal.returns-in-Some
returns-in-Some g c =
    let calls = calls_of c.args.index.now in
    let atomic : has_no_fault (tally_of calls (views_of calls)) ≡ true = sym (ap (λ (t : Tally). has_no_fault t) c.requires.tally) ∙ sym c.requires.given ∙ ap is_some c.in-Some.is in
    IfOk-weaker c.explain.result _ _ (λ text e. e ∙ long_of_atomic c.args.detail.faults c.args.detail.listed c.args.records.now calls (tally_of calls (views_of calls)) atomic) c.explain.ensures
