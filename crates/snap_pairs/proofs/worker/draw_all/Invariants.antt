use Rattle.std.proofs.Common.{◌≡◌, ◌≤◌, ◌-◌, length, vec_items, map}
use Rattle.snap_core.specs.Calls.{calls_of}
use Rattle.snap_threads.specs.Claiming.{IsClaimOf, pieces_of}
use Rattle.snap_pairs.specs.inside.Pieces.{AreTallied}
use Rattle.snap_pairs.proofs.worker.draw_all.Given as goal

abbrev pub invariant-loop-piece : goal.invariant-loop-piece
invariant-loop-piece g l = record {
  of_counter : IsClaimOf l.counter l.claim;
  few : length l.claim.drawn ≤ l.counter.pieces;
  tallied : AreTallied (calls_of l.index) l.counter.pieces (vec_items l.pairs);
  covers : pieces_of l.claim ≡ map (λ pair. pair.piece) (vec_items l.pairs);
}

abbrev pub decreases-loop-piece : goal.decreases-loop-piece
decreases-loop-piece g l = l.counter.pieces - length l.claim.drawn
