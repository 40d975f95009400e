use Rattle.std.proofs.Common.{◌≡◌, ◌++◌, ◌∙◌, ap, sym, codes, decimal, arith}
use Rattle.snap_core.specs.Calls.{call_numbered, calls_of, nobody}
use Rattle.snap_core.proofs.Histories.{numbered_calls}
use Rattle.snap_index.specs.declared.call.Call.{Call}
use Rattle.snap_report.specs.Lines.{call_word}
use Rattle.snap_report.proofs.Calls.{op_is}
use Rattle.snap_report.proofs.Pieces.{piece_added}
use Rattle.snap_explain.specs.Calls.{call_begin, records_words}
use Rattle.snap_witness.proofs.Within.{call_is_within}
use Rattle.snap_explain.proofs.Pieces.{seven_pieces}
use Rattle.snap_explain.proofs.call.put_begin.Goals as goal

pub put_records-requires-clause-begun : goal.put_records-requires-clause-begun
put_records-requires-clause-begun g c =
    let es = c.args.index.now in
    let is = op_is es c.args.number c.in-Some.call.now c.requires.below c.in-Some.ensures in
    let within = (call_is_within es c.event_count-events.ensures.ordered.history c.args.number c.requires.below).begun in
    omega (arith, within, ap (λ (b : Call). b.begun) is, c.requires.each)

pub put_records-requires-clause-ended : goal.put_records-requires-clause-ended
put_records-requires-clause-ended g c =
    let es = c.args.index.now in
    let is = op_is es c.args.number c.in-Some.call.now c.requires.below c.in-Some.ensures in
    let within = (call_is_within es c.event_count-events.ensures.ordered.history c.args.number c.requires.below).ended in
    λ place e. let few = within place (sym (ap (λ (b : Call). b.ended) is) ∙ e) in omega (arith, few, c.requires.each)

pub returns : goal.returns
unfolding call_begin
returns g c =
    let es = c.args.index.now in
    let out = c.args.out.now.items in
    let n = c.args.number in
    let call = call_numbered (calls_of es) n in
    let is = op_is es n c.in-Some.call.now c.requires.below c.in-Some.ensures in
    let number = numbered_calls es n nobody c.requires.below in
    let records = records_words c.args.records.now call.begun call.ended in
    let same : records_words c.args.records.now c.in-Some.call.now.begun c.in-Some.call.now.ended ≡ records = ap (λ (b : Call). records_words c.args.records.now b.begun b.ended) is in
    let process : c.from.result ≡ call.process = c.from.ensures ∙ ap (λ (b : Call). b.process) is in
    piece_added c.extend_from_slice-2.result c.extend_from_slice-2.new.self.items c.put_records.new.out.items (codes ": ")
    (out ++ call_begin c.args.records.now call) c.extend_from_slice-2.ensures.items
    (rw (c.in_ok-put_records.ensures, c.in_ok-extend_from_slice.ensures.items, c.in_ok-put_number.ensures, c.in_ok-put_call.ensures, same, process, number)
    (seven_pieces out (codes "  call ") (call_word n) (codes " of process ") (decimal call.process) (codes ", ") records (codes ": ")))
