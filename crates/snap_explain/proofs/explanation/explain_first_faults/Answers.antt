use Rattle.std.proofs.Common.{◌++◌, ◌∙◌, ap, refl, sym}
use Rattle.std.proofs.lemmas.Result.{IfOk-weaker}
use Rattle.snap_core.specs.Calls.{calls_of, views_of}
use Rattle.snap_conditions.specs.Tally.{tally_of}
use Rattle.snap_explain.specs.Explanations.{long_explanation, verdict_text}
use Rattle.snap_explain.specs.FirstFaults.{first_faults_text}
use Rattle.snap_explain.proofs.FirstFaults.{long_of_faulty, long_with_one}
use Rattle.snap_explain.proofs.explanation.explain_first_faults.Goals as goal

pub returns-then-most-eq1 : goal.returns-then-most-eq1
returns-then-most-eq1 g c =
    let calls = calls_of c.args.index.now in
    let t = tally_of calls (views_of calls) in
    let one = long_with_one c.args.listed c.args.records.now calls t refl ∙ ap (λ most. long_explanation most c.args.listed c.args.records.now calls t) (sym c.if-most-eq1.true) in
    IfOk-weaker c.explain.result _ _ (λ text e. e ∙ one) c.explain.ensures

pub returns : goal.returns
returns g c =
    let calls = calls_of c.args.index.now in
    let records = c.args.records.now in
    let t = c.args.tally.now in
    let told = first_faults_text c.args.most c.args.listed records calls in
    c.in_ok-put_first_faults.ensures ∙ ap (λ out. out ++ told) c.in_ok-put_verdict.ensures
    ∙ ap (λ out. out ++ verdict_text t ++ told) c.new-out.ensures.items
    ∙ long_of_faulty c.args.most c.args.listed records calls t c.requires.faulty ∙ ap (long_explanation c.args.most c.args.listed records calls) c.requires.tally
