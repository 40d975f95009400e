use Rattle.std.proofs.Common.{◌++◌, codes, decimal}
use Rattle.snap_report.specs.Faults.{integrity_line}
use Rattle.snap_report.specs.Lines.{call_word, entry_word, line_text}
use Rattle.snap_report.proofs.Pieces.{piece_added, seven_words}
use Rattle.snap_report.proofs.faults.put_integrity.Goals as goal

pub returns : goal.returns
returns c =
    let out = c.args.out.now.items in
    let f = c.args.fault.now in
    piece_added c.extend_from_slice.result c.extend_from_slice.new.self.items c.put_entry.new.out.items (codes "\n")
    (out ++ line_text (integrity_line c.args.count f)) c.extend_from_slice.ensures.items
    (rw (c.in_ok-put_entry.ensures, c.in_ok-put_first.ensures)
    (seven_words (codes " ") (codes "\n") out (codes "integrity") (decimal c.args.count) (codes "first") (codes "view") (call_word f.view) (codes "entry") (entry_word f.entry)))
