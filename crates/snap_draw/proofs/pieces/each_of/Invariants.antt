use Rattle.std.proofs.Common.{map, take}
use Rattle.snap_draw.specs.Pieces.{AreEach, piece_at}
use Rattle.snap_draw.proofs.pieces.each_of.Given as goal

abbrev pub invariant-loop-at : goal.invariant-loop-at
invariant-loop-at l = AreEach l.order l.marks (map (piece_at l.size l.held) (take l.at l.starts.items)) l.parts.items
