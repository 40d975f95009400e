use Rattle.snap_runs.proofs.draw.drawn_by.Goals as goal

pub picture_of-requires-clause-each : goal.picture_of-requires-clause-each
picture_of-requires-clause-each g c = c.requires.each

pub returns : goal.returns
returns g c = λ writers history. (c.status_of.ensures.by_writers writers history, c.in_ok-text.ensures)
