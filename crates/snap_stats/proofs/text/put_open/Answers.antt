use Rattle.std.proofs.Common.{◌++◌, codes}
use Rattle.snap_report.specs.Lines.{line_text, text_of}
use Rattle.snap_report.proofs.Pieces.{same_text}
use Rattle.snap_stats.specs.Lines.{number_line, open_lines}
use Rattle.snap_stats.proofs.Pieces.{three_lines}
use Rattle.snap_stats.proofs.text.put_open.Goals as goal

pub returns : goal.returns
returns c =
    let old = c.args.out.now.items in
    let s = c.args.stats.now in
    same_text c.put_line-3.result c.put_line-3.new.out.items _ (old ++ text_of (open_lines s))
    (rw (c.in_ok-put_line-2.ensures, c.in_ok-put_line.ensures)
    (three_lines old (line_text (number_line (codes "updates that no view shows") s.unshown)) (line_text (number_line (codes "most calls open at once") s.most_open)) (line_text (number_line (codes "events of the longest call") s.longest))))
    c.put_line-3.ensures
