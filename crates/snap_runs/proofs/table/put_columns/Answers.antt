use Rattle.std.proofs.Common.{◌≡◌, ◌++◌, ◌∙◌, ap, sym, decimal, arith}
use Rattle.snap_core.specs.Calls.{call_numbered, calls_of, nobody}
use Rattle.snap_core.proofs.Histories.{numbered_calls}
use Rattle.snap_index.specs.declared.call.Call.{Call}
use Rattle.snap_report.specs.Lines.{call_word}
use Rattle.snap_report.proofs.Calls.{op_is}
use Rattle.snap_report.proofs.Pieces.{same_text}
use Rattle.snap_explain.specs.Calls.{record_word}
use Rattle.snap_witness.proofs.Within.{call_is_within}
use Rattle.snap_runs.specs.Mapping.{columns, end_word}
use Rattle.snap_runs.proofs.Tables.{columns_pieces}
use Rattle.snap_runs.proofs.table.put_columns.Goals as goal

pub bounds-records-call : goal.bounds-records-call
bounds-records-call c =
    let es = c.args.index.now in
    let is = op_is es c.args.number c.in-Some.call.now c.requires.below c.in-Some.ensures in
    let within = (call_is_within es c.event_count-events.ensures.ordered.history c.args.number c.requires.below).begun in
    omega (arith, within, ap (λ (b : Call). b.begun) is, c.requires.each)

pub put_end-requires : goal.put_end-requires
put_end-requires c =
    let es = c.args.index.now in
    let is = op_is es c.args.number c.in-Some.call.now c.requires.below c.in-Some.ensures in
    let within = (call_is_within es c.event_count-events.ensures.ordered.history c.args.number c.requires.below).ended in
    λ place e. let few = within place (sym (ap (λ (b : Call). b.ended) is) ∙ e) in omega (arith, few, c.requires.each)

pub returns : goal.returns
unfolding columns
returns c =
    let es = c.args.index.now in
    let records = c.args.records.now in
    let out = c.args.out.now.items in
    let call = call_numbered (calls_of es) c.args.number in
    let is = op_is es c.args.number c.in-Some.call.now c.requires.below c.in-Some.ensures in
    let number = numbered_calls es c.args.number nobody c.requires.below in
    let process : c.from.result ≡ call.process = c.from.ensures ∙ ap (λ (b : Call). b.process) is in
    let begun : decimal c.from-2.result ≡ record_word records call.begun = ap decimal c.from-2.ensures ∙ ap (λ (b : Call). record_word records b.begun) is in
    let ended : end_word records c.in-Some.call.now.ended ≡ end_word records call.ended = ap (λ (b : Call). end_word records b.ended) is in
    same_text c.put_end.result c.put_end.new.out.items _ (out ++ columns records call)
    (rw (c.in_ok-extend_from_slice.ensures.items, c.in_ok-put_number-2.ensures, c.in_ok-put_number.ensures, c.in_ok-put_call.ensures, begun, process, number, ended)
    (columns_pieces out (call_word c.args.number) (decimal call.process) (record_word records call.begun) (end_word records call.ended)))
    c.put_end.ensures
