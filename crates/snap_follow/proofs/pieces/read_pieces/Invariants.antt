use Rattle.snap_follow.specs.inside.Runs.{IsTellingFrom, SeesNone}
use Rattle.snap_follow.proofs.pieces.read_pieces.Given as goal

abbrev pub invariant-pieces : goal.invariant-pieces
invariant-pieces g l = record {
  can : (goal.iterator-pieces g).can_next l.iterator';
  finite : (goal.iterator-pieces g).is_finite l.iterator';
  told : IsTellingFrom g.W.Write.contents g.T.Text.Read.remaining l.fn.writer l.writer l.fn.course l.fn.at_hand (g.T.Texts.left l.fn.texts) l.course l.at_hand (g.T.Texts.left l.texts);
  sees : SeesNone g.T.Texts.count g.T.Texts.looked l.fn.texts l.texts l.at_hand.text l.pauses.is_look_due;
}
