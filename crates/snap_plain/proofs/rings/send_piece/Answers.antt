use Rattle.snap_plain.proofs.rings.send_piece.Goals as goal

pub returns-clause-sent : goal.returns-clause-sent
returns-clause-sent g c = (c.read_piece.result, (c.read_piece.ensures.from, c.read_piece.ensures.stops), c.push_reserved.ensures.sent.0)
