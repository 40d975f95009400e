use Rattle.std.proofs.Common.{◌≡◌, ◌++◌, ◌∷◌, [], All, rules, arith, length, length-append, map, vec_items, sym, ap, ◌∙◌, subst}
use Rattle.std.proofs.lemmas.List.{map_push, length-map}
use Rattle.snap_core.specs.Calls.{calls_of}
use Rattle.std.proofs.lemmas.List.Elements.{All-push}
use Rattle.snap_threads.specs.Claiming.{ClaimView, pieces_of}
use Rattle.snap_pairs.specs.inside.Pieces.{IsPieceTally}
use Rattle.snap_pairs.specs.declared.worker.Drawn.{Drawn}
use Rattle.snap_threads.proofs.Finishing.{few_pieces, pieces_more}
use Rattle.snap_pairs.proofs.worker.draw_all.Goals as goal

pub overflow_cast-len : goal.overflow_cast-len
overflow_cast-len g c =
    let i = c.loop-piece.invariant in
    let a = few_pieces c.loop-piece.claim.pieces c.loop-piece.claim.drawn in
    let b = ap length i.covers in
    let m = length-map (vec_items c.loop-piece.pairs) (λ (pair : Drawn). pair.piece) in
    omega (arith, a, b, m, i.few, c.requires.pieces, c.args.cutting.pieces_fit.1, c.len.ensures)

pub loop-piece-preserved : goal.loop-piece-preserved
loop-piece-preserved g c =
    let calls = calls_of c.args.index.now in
    let n = c.args.counter.now.pieces in
    let i = c.loop-piece.invariant in
    let drawn = c.in-Some.ensures in
    let old = c.loop-piece.claim in
    let p = c.in-Some.piece in
    let t = c.in_ok-tally.tally in
    let pushed : vec_items c.push.new.self ≡ vec_items c.loop-piece.pairs ++ record { piece = p; tally = t } ∷ [] = search rules in
    let tallied : IsPieceTally calls n p t = subst (λ m. IsPieceTally calls m p t) (sym c.requires.pieces) c.in_ok-tally.ensures in
    record {
      of_counter = drawn.same.0;
      few = drawn.few;
      tallied = subst (All (λ (pair : Drawn). IsPieceTally calls n pair.piece pair.tally)) (sym pushed) (All-push (λ (pair : Drawn). IsPieceTally calls n pair.piece pair.tally) (vec_items c.loop-piece.pairs) (record { piece = p; tally = t }) i.tallied tallied);
      covers = ap pieces_of drawn.piece.1 ∙ pieces_more old.pieces p old.drawn (omega (arith, i.of_counter.1, drawn.piece.0)) ∙ ap (λ ps. ps ++ p ∷ []) i.covers
          ∙ sym (map_push (λ (pair : Drawn). pair.piece) (vec_items c.loop-piece.pairs) (record { piece = p; tally = t })) ∙ ap (map (λ (pair : Drawn). pair.piece)) (sym pushed);
    }

pub loop-piece-init : goal.loop-piece-init
loop-piece-init g c = search rules

pub draw-requires : goal.draw-requires
draw-requires g c = c.loop-piece.invariant.of_counter

pub piece_tally-requires-clause-piece : goal.piece_tally-requires-clause-piece
piece_tally-requires-clause-piece g c = omega (arith, c.in-Some.ensures.piece.0, c.requires.pieces)

pub loop-piece-smaller : goal.loop-piece-smaller
loop-piece-smaller g c =
    let drawn = c.in-Some.ensures in
    let old = c.loop-piece.claim.drawn in
    omega (arith, drawn.few, ap (λ (claim : ClaimView). length claim.drawn) drawn.piece.1, length-append old (c.in-Some.piece ∷ []))

pub returns : goal.returns
returns g c = search rules
