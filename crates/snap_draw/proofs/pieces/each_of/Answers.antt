use Rattle.std.proofs.Common.{◌<◌, ◌∙◌, ap, arith, length}
use Rattle.snap_draw.specs.Pieces.{piece_at}
use Rattle.snap_draw.proofs.MorePieces.{more_pieces}
use Rattle.snap_draw.proofs.pieces.each_of.Goals as goal

pub loop-at-preserved : goal.loop-at-preserved
loop-at-preserved c =
    let starts = c.in_ok-starts.starts.items in
    let inside : c.loop-at.at < length starts = omega (arith, c.len-at-end.ensures) in
    more_pieces c.args.order.now c.args.marks.now c.in_ok-own.own.items (piece_at c.args.size c.args.held.now) starts c.loop-at.parts.items c.push.new.self.items _ _ c.loop-at.at _ inside
    c.loop-at.invariant c.in_ok-push.ensures.items c.in_ok-own.ensures.items (c.deref.ensures.value ∙ c.in_ok-piece.ensures ∙ ap (piece_at c.args.size c.args.held.now) c.index.ensures) c.in_ok-shapes_with.ensures
