use Rattle.std.proofs.Common.{◌++◌, ◌∙◌, ap, sym}
use Rattle.snap_core.specs.Calls.{call_numbered, calls_of, nobody}
use Rattle.snap_core.proofs.Histories.{numbered_calls}
use Rattle.snap_index.specs.declared.call.Call.{Call}
use Rattle.snap_report.specs.Lines.{line_text}
use Rattle.snap_report.specs.Reports.{call_line}
use Rattle.snap_report.proofs.Calls.{line_of_update, line_of_view, op_is, views_then}
use Rattle.snap_report.proofs.Pieces.{same_text}
use Rattle.snap_report.proofs.order.put_call_line.Goals as goal

pub shown-requires-clause-view : goal.shown-requires-clause-view
shown-requires-clause-view g c =
    let es = c.args.index.now in
    let is = op_is es c.args.number c.in-Some.call.now c.requires.below c.in-Some.ensures in
    views_then (call_numbered (calls_of es) c.args.number) (sym c.in-View.is ∙ ap (λ (b : Call). b.op) is) c.requires.kind

pub returns-in-Update : goal.returns-in-Update
returns-in-Update g c =
    let out = c.args.out.now.items in
    let es = c.args.index.now in
    let n = c.args.number in
    let call = call_numbered (calls_of es) n in
    let is = op_is es n c.in-Some.call.now c.requires.below c.in-Some.ensures in
    same_text c.put_update_line.result c.put_update_line.new.out.items _ (out ++ line_text (call_line call))
    (line_of_update out call n c.in-Some.call.now.process c.in-Update.entry (numbered_calls es n nobody c.requires.below)
    (ap (λ (b : Call). b.process) is) (sym c.in-Update.is ∙ ap (λ (b : Call). b.op) is))
    c.put_update_line.ensures

pub returns-in-View : goal.returns-in-View
returns-in-View g c =
    let out = c.args.out.now.items in
    let es = c.args.index.now in
    let n = c.args.number in
    let call = call_numbered (calls_of es) n in
    let is = op_is es n c.in-Some.call.now c.requires.below c.in-Some.ensures in
    same_text c.put_view_line.result c.put_view_line.new.out.items _ (out ++ line_text (call_line call))
    (line_of_view out call n c.in-Some.call.now.process c.shown.result.now (numbered_calls es n nobody c.requires.below)
    (ap (λ (b : Call). b.process) is) (sym c.in-View.is ∙ ap (λ (b : Call). b.op) is) c.shown.ensures)
    c.put_view_line.ensures
