use Rattle.snap_plain.proofs.beside.history_of_lines_shared.Given as goal

abbrev pub ghosts-shared_history : goal.ghosts-shared_history
ghosts-shared_history g a = record { lines = a.lines.now }
