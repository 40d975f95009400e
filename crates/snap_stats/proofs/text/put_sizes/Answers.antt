use Rattle.std.proofs.Common.{◌++◌, codes}
use Rattle.snap_report.specs.Lines.{line_text, text_of}
use Rattle.snap_report.proofs.Pieces.{same_text}
use Rattle.snap_stats.specs.Lines.{number_line, size_lines}
use Rattle.snap_stats.proofs.Pieces.{seven_lines}
use Rattle.snap_stats.proofs.text.put_sizes.Goals as goal

pub returns : goal.returns
returns c =
    let old = c.args.out.now.items in
    let s = c.args.stats.now in
    same_text c.put_line-7.result c.put_line-7.new.out.items _ (old ++ text_of (size_lines s))
    (rw (c.in_ok-put_line-6.ensures, c.in_ok-put_line-5.ensures, c.in_ok-put_line-4.ensures, c.in_ok-put_line-3.ensures, c.in_ok-put_line-2.ensures, c.in_ok-put_line.ensures)
    (seven_lines old (line_text (number_line (codes "events") s.events)) (line_text (number_line (codes "calls") s.calls)) (line_text (number_line (codes "pending") s.pending))
    (line_text (number_line (codes "views") s.views)) (line_text (number_line (codes "updates") s.updates)) (line_text (number_line (codes "processes") s.processes)) (line_text (number_line (codes "components") s.components))))
    c.put_line-7.ensures
