use Rattle.snap_format.specs.Rows.{rows_of}
use Rattle.snap_csv.proofs.read.numbered_shared.Goals as goal

pub returns : goal.returns
returns g c = c.history_of_lines_shared.ensures (rows_of c.args.text.now) c.lines_of.ensures
