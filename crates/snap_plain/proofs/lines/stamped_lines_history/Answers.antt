use Rattle.snap_plain.proofs.lines.stamped_lines_history.Goals as goal

pub returns : goal.returns
returns c = λ rows s. c.history_by_stamps.ensures rows (c.read_stamped_lines-read.ensures rows s)
