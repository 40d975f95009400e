use Rattle.std.proofs.Common.{◌++◌, codes}
use Rattle.snap_report.specs.Lines.{line_text, text_of}
use Rattle.snap_report.proofs.Pieces.{same_text}
use Rattle.snap_stats.specs.Lines.{number_line, overlap_lines}
use Rattle.snap_stats.proofs.Pieces.{three_lines}
use Rattle.snap_stats.proofs.text.put_overlaps.Goals as goal

pub returns : goal.returns
returns c =
    let old = c.args.out.now.items in
    let o = c.args.overlapping.now in
    same_text c.put_line-3.result c.put_line-3.new.out.items _ (old ++ text_of (overlap_lines o))
    (rw (c.in_ok-put_line-2.ensures, c.in_ok-put_line.ensures)
    (three_lines old (line_text (number_line (codes "views that overlap an update") o.update)) (line_text (number_line (codes "views that overlap another view") o.view)) (line_text (number_line (codes "views that overlap nothing") o.nothing))))
    c.put_line-3.ensures
