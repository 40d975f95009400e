use Rattle.std.proofs.Common.{◌≤◌, ◌+◌, ◌-◌, length}
use Rattle.rtrb.specs.Ring.{known_free, sent}
use Rattle.snap_plain.specs.Sharing.{AreRead}
use Rattle.snap_threads.specs.Claiming.{IsClaimOf, pieces_of}
use Rattle.snap_plain.proofs.rings.send_drawn.Given as goal

abbrev pub invariant-loop-piece : goal.invariant-loop-piece
invariant-loop-piece g l = record {
  of_counter : IsClaimOf l.counter l.claim;
  room : l.counter.pieces ≤ known_free l.inlet + length l.claim.drawn;
  sent : AreRead l.lines l.limit l.pieces (pieces_of l.claim) (sent l.inlet);
}

abbrev pub decreases-loop-piece : goal.decreases-loop-piece
decreases-loop-piece g l = l.counter.pieces - length l.claim.drawn
