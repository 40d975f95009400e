use Rattle.snap_plain.proofs.beside.tests.a_worker_alone_reads_each_piece_to_its_end.Given as goal

abbrev pub ghosts-sent_alone : goal.ghosts-sent_alone
ghosts-sent_alone g a = record { lines = a.lines.now }
