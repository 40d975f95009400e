use Rattle.std.proofs.Common.{◌++◌, codes, decimal}
use Rattle.snap_report.specs.Faults.{read_line}
use Rattle.snap_report.specs.Lines.{call_word, line_text}
use Rattle.snap_report.proofs.Pieces.{nine_words, piece_added}
use Rattle.snap_report.proofs.faults.put_read.Goals as goal

pub returns : goal.returns
returns c =
    let out = c.args.out.now.items in
    let f = c.args.fault.now in
    piece_added c.extend_from_slice.result c.extend_from_slice.new.self.items c.put_other.new.out.items (codes "\n")
    (out ++ line_text (read_line c.args.count f)) c.extend_from_slice.ensures.items
    (rw (c.in_ok-put_other.ensures, c.in_ok-put_first.ensures)
    (nine_words (codes " ") (codes "\n") out (codes "read") (decimal c.args.count) (codes "first") (codes "view") (call_word f.view)
    (codes "view") (call_word f.other) (codes "component") (decimal f.component)))
