use Rattle.std.proofs.Common.{◌≡◌, ◌+◌, ◌∷◌, ◌∙◌, [], ap, arith, length, length-append, rules}
use Rattle.rtrb.specs.Ring.{sent}
use Rattle.std.proofs.lemmas.Option.{slice_get-get_or}
use Rattle.snap_plain.proofs.SharingFacts.{one_read}
use Rattle.snap_threads.specs.Claiming.{ClaimView, pieces_of}
use Rattle.snap_threads.proofs.Finishing.{pieces_more}
use Rattle.snap_plain.proofs.rings.send_drawn.Goals as goal

pub loop-piece-init : goal.loop-piece-init
loop-piece-init g c = search rules

pub draw-requires : goal.draw-requires
draw-requires g c = c.loop-piece.invariant.of_counter

pub loop-piece-preserved : goal.loop-piece-preserved
loop-piece-preserved g c =
    let i = c.loop-piece.invariant in
    let drawn = c.in-Some.ensures in
    let old = c.loop-piece.claim in
    let p = c.in-Some.piece in
    let longer : length c.draw.new.claim.drawn ≡ length old.drawn + 1 = ap (λ (claim : ClaimView). length claim.drawn) drawn.piece.1 ∙ length-append old.drawn (p ∷ []) in
    let pieces = ap pieces_of drawn.piece.1 ∙ pieces_more old.pieces p old.drawn (omega (arith, i.of_counter.1, drawn.piece.0)) in
    record {
      of_counter = drawn.same.0;
      room = omega (arith, i.room, longer, c.send_piece.ensures.room);
      sent = one_read c.args.lines.now c.args.limit c.args.pieces.now (pieces_of old) (pieces_of c.draw.new.claim) (sent c.loop-piece.inlet) (sent c.send_piece.new.inlet) p _ i.sent pieces c.send_piece.ensures.sent
          (slice_get-get_or c.args.pieces.now p _ (omega (arith, drawn.piece.0, c.requires.counter)));
    }

pub loop-piece-smaller : goal.loop-piece-smaller
loop-piece-smaller g c =
    let drawn = c.in-Some.ensures in
    let old = c.loop-piece.claim.drawn in
    omega (arith, drawn.few, ap (λ (claim : ClaimView). length claim.drawn) drawn.piece.1, length-append old (c.in-Some.piece ∷ []))
