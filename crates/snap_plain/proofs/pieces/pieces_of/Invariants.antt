use Rattle.std.proofs.Common.{◌≡◌, ◌≤◌, All, length}
use Rattle.snap_plain.specs.Ahead.{ArePieces, IsPieceOf}
use Rattle.snap_plain.proofs.pieces.pieces_of.Given as goal

abbrev pub invariant-loop-before : goal.invariant-loop-before
invariant-loop-before l = record {
  pieces : All (IsPieceOf l.lines) l.pieces.items;
  all : ArePieces l.lines 0 l.from l.pieces.items;
  count : length l.pieces.items ≡ l.before;
  from : l.from ≤ length l.lines;
  last : l.before ≡ l.count → l.from ≡ length l.lines;
}
