use Rattle.std.proofs.Common.{◌≡◌, length}
use Rattle.snap_core.specs.Calls.{calls_of, views_of}
use Rattle.snap_pairs.specs.inside.Pieces.{block_from, piece_start}
use Rattle.snap_pairs.proofs.Fronts.{front_tally}
use Rattle.snap_pairs.proofs.gather.merge_slots.Given as goal

abbrev pub invariant-loop-slot : goal.invariant-loop-slot
invariant-loop-slot g l =
    let views = length (views_of (calls_of l.index)) in
    let from = piece_start l.fn.cutting.pieces l.slot-index views in
    l.all ≡ front_tally (calls_of l.index) from (block_from from views)
