use Rattle.snap_csv.proofs.stamped.stamped_history.Goals as goal

pub returns : goal.returns
returns c = λ rows s. c.history_by_stamps.ensures rows (c.read_stamped-read.ensures rows s)
