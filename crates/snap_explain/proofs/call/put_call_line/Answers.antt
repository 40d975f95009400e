use Rattle.std.proofs.Common.{◌++◌, ap, codes}
use Rattle.snap_core.specs.Calls.{call_numbered, calls_of}
use Rattle.snap_index.specs.declared.call.Call.{Call}
use Rattle.snap_report.proofs.Calls.{op_is}
use Rattle.snap_report.proofs.Pieces.{piece_added}
use Rattle.snap_explain.specs.Calls.{call_begin, call_text, operation_text}
use Rattle.snap_explain.proofs.Pieces.{three_pieces}
use Rattle.snap_explain.proofs.call.put_call_line.Goals as goal

pub put_operation-requires-clause-same : goal.put_operation-requires-clause-same
put_operation-requires-clause-same g c =
    ap (λ (b : Call). b.op) (op_is c.args.index.now c.args.number c.in-Some.call.now c.requires.below c.in-Some.ensures)

pub returns : goal.returns
unfolding call_text
returns g c =
    let out = c.args.out.now.items in
    let call = call_numbered (calls_of c.args.index.now) c.args.number in
    piece_added c.extend_from_slice.result c.extend_from_slice.new.self.items c.put_operation.new.out.items (codes "\n")
    (out ++ call_text c.args.records.now call) c.extend_from_slice.ensures.items
    (rw (c.in_ok-put_operation.ensures, c.in_ok-put_begin.ensures)
    (three_pieces out (call_begin c.args.records.now call) (operation_text call.operation) (codes "\n")))
