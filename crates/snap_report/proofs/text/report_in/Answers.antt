use Rattle.std.proofs.Common.{◌++◌, Vec, Global, sym, ap, ◌∙◌}
use Rattle.std.specs.Option.{option_copied, option_map}
use Rattle.snap_core.specs.Calls.{calls_of}
use Rattle.snap_report.specs.Faults.{fault_lines}
use Rattle.snap_report.specs.Lines.{text_of}
use Rattle.snap_report.specs.Orders.{calls_numbered}
use Rattle.snap_report.specs.Reports.{order_lines, report_text}
use Rattle.snap_report.proofs.Parts.{behind_front}
use Rattle.snap_report.proofs.text.report_in.Goals as goal
use Rattle.snap_report.proofs.text.report_in.Goals.{in-Some+in_ok-put_order-in-Some, in-None+in_ok-put_faults-in-None}

pub returns : goal.returns
returns g c =
    let es = c.args.index.now in
    let t = c.args.tally.now in
    let calls = calls_of es in
    elim c.match-order.branch [
      | in-Some+in_ok-put_order-in-Some w ↦
          let order = order_lines (calls_numbered calls w.in-Some.order.now) in
          ap (λ (v : Vec _ Global). v.items) w.out-is ∙ w.in_ok-put_order-in-Some.ensures ∙ ap (λ out. out ++ text_of order) c.in_ok-out.ensures ∙ behind_front es t order
          ∙ ap (λ o. report_text es t (option_map (calls_numbered calls) (option_copied o))) (sym w.in-Some.is)
      | in-None+in_ok-put_faults-in-None w ↦
          ap (λ (v : Vec _ Global). v.items) w.out-is ∙ w.in_ok-put_faults-in-None.ensures ∙ ap (λ out. out ++ text_of (fault_lines t)) c.in_ok-out.ensures ∙ behind_front es t (fault_lines t)
          ∙ ap (λ o. report_text es t (option_map (calls_numbered calls) (option_copied o))) (sym w.in-None.is)
    ]
