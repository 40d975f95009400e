use Rattle.std.proofs.Common.{◌++◌, codes, decimal}
use Rattle.snap_core.specs.Calls.{call_numbered, calls_of}
use Rattle.snap_report.specs.Lines.{call_word}
use Rattle.snap_report.proofs.Pieces.{same_text}
use Rattle.snap_explain.specs.Faults.{against_text, read_sentence}
use Rattle.snap_explain.proofs.Pieces.{seven_pieces}
use Rattle.snap_explain.proofs.faults.put_read.Goals as goal

pub returns : goal.returns
returns g c =
    let out = c.args.out.now.items in
    let calls = calls_of c.args.index.now in
    let f = c.args.fault.now in
    same_text c.put_against.result c.put_against.new.out.items _ (out ++ read_sentence calls f)
    (rw (c.in_ok-put_call-2.ensures, c.in_ok-put_number.ensures, c.in_ok-put_call.ensures, c.from.ensures)
    (seven_pieces out (codes "read: view ") (call_word f.view) (codes " shows more of component ") (decimal f.component) (codes " than view ") (call_word f.other)
    (against_text (call_numbered calls f.view) (call_numbered calls f.other))))
    c.put_against.ensures
