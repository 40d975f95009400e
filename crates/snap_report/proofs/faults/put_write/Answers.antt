use Rattle.std.proofs.Common.{◌++◌, codes, decimal}
use Rattle.snap_report.specs.Faults.{write_line}
use Rattle.snap_report.specs.Lines.{call_word, line_text, update_word}
use Rattle.snap_report.proofs.Pieces.{nine_words, piece_added}
use Rattle.snap_report.proofs.faults.put_write.Goals as goal

pub returns : goal.returns
returns c =
    let out = c.args.out.now.items in
    let f = c.args.fault.now in
    piece_added c.extend_from_slice.result c.extend_from_slice.new.self.items c.put_missed.new.out.items (codes "\n")
    (out ++ line_text (write_line c.args.count f)) c.extend_from_slice.ensures.items
    (rw (c.in_ok-put_missed.ensures, c.in_ok-put_first.ensures)
    (nine_words (codes " ") (codes "\n") out (codes "write") (decimal c.args.count) (codes "first") (codes "view") (call_word f.view)
    (codes "misses") (update_word f.missed_component f.missed_number) (codes "shows") (update_word f.shown_component f.shown_number)))
