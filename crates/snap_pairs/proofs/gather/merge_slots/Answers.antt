use Rattle.std.proofs.Common.{◌≡◌, ◌<◌, ◌+◌, length, arith, sym, ap, ◌∙◌, subst}
use Rattle.snap_core.specs.Calls.{calls_of, views_of}
use Rattle.snap_conditions.specs.declared.tally.Tally.{Tally}
use Rattle.snap_conditions.specs.Tally.{merged, tally_of, SumsFit}
use Rattle.snap_conditions.proofs.Ranges.{tallies_join}
use Rattle.snap_pairs.specs.inside.Pieces.{block_from, piece_start, views_in_blocks, views_in_piece, with_reads}
use Rattle.snap_pairs.proofs.Gathering.{piece_of}
use Rattle.snap_pairs.proofs.Fronts.{blocks_at_zero, blocks_end, blocks_grow, blocks_inside, front_fits, front_more, front_none, front_whole}
use Rattle.snap_views.proofs.Pieces.{starts_at_zero, starts_grow, starts_inside, ends_whole}
use Rattle.snap_pairs.proofs.gather.merge_slots.Goals as goal

pub loop-slot-init : goal.loop-slot-init
loop-slot-init g c =
    let calls = calls_of c.args.index.now in
    let views = length (views_of calls) in
    let start = starts_at_zero views c.args.cutting.pieces in
    c.none-all.ensures ∙ sym (front_none calls (piece_start c.args.cutting.pieces 0 views) (block_from (piece_start c.args.cutting.pieces 0 views) views) start (ap (λ n. block_from n views) start ∙ blocks_at_zero views) ∙ (tallies_join calls).nothing)

pub merge-all-requires : goal.merge-all-requires
merge-all-requires g c =
    let events = c.args.index.now in
    let calls = calls_of events in
    let views = length (views_of calls) in
    let p = c.args.cutting.pieces in
    let i = c.loop-slot.slot-index in
    let piece = piece_of calls p i c.args.slots.now c.slot-item.result c.in-Some.tally c.requires.fit c.loop-slot-test.true c.slot-item.is c.in-Some.is in
    let some : 0 < p = omega (arith, piece.0) in
    let from = piece_start p i views in
    let to = piece_start p (i + 1) views in
    let grow = starts_grow i (i + 1) views p some (omega arith) in
    let fits = front_fits events c.event_count-events.ensures.ordered from to (block_from from views) (block_from to views) grow (starts_inside (i + 1) views p some (omega (arith, piece.0))) (blocks_grow from to views grow) (blocks_inside to views) in
    subst (λ (t : Tally). SumsFit c.loop-slot.all t) (sym piece.1) (subst (λ (t : Tally). SumsFit t (with_reads (tally_of calls (views_in_piece calls p i)) (tally_of calls (views_in_blocks calls p i)))) (sym c.loop-slot.invariant) fits)

pub loop-slot-preserved : goal.loop-slot-preserved
loop-slot-preserved g c =
    let calls = calls_of c.args.index.now in
    let views = length (views_of calls) in
    let p = c.args.cutting.pieces in
    let i = c.loop-slot.slot-index in
    let piece = piece_of calls p i c.args.slots.now c.slot-item.result c.in-Some.tally c.requires.fit c.loop-slot-test.true c.slot-item.is c.in-Some.is in
    let some : 0 < p = omega (arith, piece.0) in
    let from = piece_start p i views in
    let to = piece_start p (i + 1) views in
    let grow = starts_grow i (i + 1) views p some (omega arith) in
    c.merge-all.ensures ∙ (λ j. merged (c.loop-slot.invariant j) (piece.1 j))
    ∙ front_more calls from to (block_from from views) (block_from to views) grow (blocks_grow from to views grow)

pub returns : goal.returns
returns g c =
    let calls = calls_of c.args.index.now in
    let views = length (views_of calls) in
    let p = c.args.cutting.pieces in
    let end : c.loop-slot.slot-index ≡ p = omega (arith, c.requires.fit.count) in
    let all = ap (λ i. piece_start p i views) end ∙ ends_whole views p c.args.cutting.pieces_fit.0 in
    c.loop-slot.invariant ∙ front_whole calls (piece_start p c.loop-slot.slot-index views) (block_from (piece_start p c.loop-slot.slot-index views) views) all (ap (λ n. block_from n views) all ∙ blocks_end views)
