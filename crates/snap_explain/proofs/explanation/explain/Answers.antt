use Rattle.std.proofs.Common.{◌++◌, ◌∙◌, Vec, Global, ap, sym}
use Rattle.std.specs.Prelude.{is_some}
use Rattle.std.specs.List.{flat_map}
use Rattle.snap_core.specs.Calls.{calls_of}
use Rattle.snap_order.proofs.PrintedNumbers.{all_of_order}
use Rattle.snap_report.specs.Orders.{HasLine, calls_numbered}
use Rattle.snap_explain.specs.Calls.{call_text}
use Rattle.snap_explain.specs.Explanations.{verdict_text}
use Rattle.snap_explain.specs.Faults.{faults_text}
use Rattle.snap_explain.proofs.Explanations.{faults_explain, order_explains}
use Rattle.snap_explain.proofs.explanation.explain.Goals as goal
use Rattle.snap_explain.proofs.explanation.explain.Goals.{in-Some+in_ok-put_calls-in-Some, in-None+in_ok-put_faults-in-None}

pub put_calls-requires-clause-calls : goal.put_calls-requires-clause-calls
put_calls-requires-clause-calls g c =
    let es = c.args.index.now in
    all_of_order (HasLine (calls_of es)) es (λ n below kind. record { below = below; kind = kind }) c.in-Some.order.now (c.requires.order c.in-Some.order c.in-Some.is)

pub returns : goal.returns
returns g c =
    let es = c.args.index.now in
    let records = c.args.records.now in
    let t = c.args.tally.now in
    elim c.match-order.branch [
      | in-Some+in_ok-put_calls-in-Some w ↦
          let lines = flat_map (call_text records) (calls_numbered (calls_of es) w.in-Some.order.now) in
          order_explains c.args.listed records es t w.in-Some.order.now c.match-order.out.items c.requires.tally (sym (ap is_some w.in-Some.is) ∙ c.requires.given)
          (c.requires.order w.in-Some.order w.in-Some.is)
          (ap (λ (v : Vec _ Global). v.items) w.out-is ∙ w.in_ok-put_calls-in-Some.ensures ∙ ap (λ out. out ++ lines) c.in_ok-put_verdict.ensures
          ∙ ap (λ out. out ++ verdict_text t ++ lines) c.new-out.ensures.items)
      | in-None+in_ok-put_faults-in-None w ↦
          let faults = faults_text c.args.listed records (calls_of es) t in
          faults_explain c.args.listed records es t c.match-order.out.items c.requires.tally (sym (ap is_some w.in-None.is) ∙ c.requires.given)
          (ap (λ (v : Vec _ Global). v.items) w.out-is ∙ w.in_ok-put_faults-in-None.ensures ∙ ap (λ out. out ++ faults) c.in_ok-put_verdict.ensures
          ∙ ap (λ out. out ++ verdict_text t ++ faults) c.new-out.ensures.items)
    ]
