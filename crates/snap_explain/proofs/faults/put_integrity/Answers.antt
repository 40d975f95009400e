use Rattle.std.proofs.Common.{◌++◌, codes}
use Rattle.snap_report.specs.Lines.{call_word, entry_word}
use Rattle.snap_report.proofs.Pieces.{piece_added}
use Rattle.snap_explain.specs.Faults.{integrity_sentence}
use Rattle.snap_explain.proofs.Pieces.{five_pieces}
use Rattle.snap_explain.proofs.faults.put_integrity.Goals as goal

pub returns : goal.returns
returns c =
    let out = c.args.out.now.items in
    let f = c.args.fault.now in
    piece_added c.extend_from_slice.result c.extend_from_slice.new.self.items c.put_entry.new.out.items (codes ", which no update wrote\n")
    (out ++ integrity_sentence f) c.extend_from_slice.ensures.items
    (rw (c.in_ok-put_entry.ensures, c.in_ok-put_call.ensures)
    (five_pieces out (codes "integrity: view ") (call_word f.view) (codes " shows ") (entry_word f.entry) (codes ", which no update wrote\n")))
