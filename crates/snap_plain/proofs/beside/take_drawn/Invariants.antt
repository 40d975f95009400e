use Rattle.std.proofs.Common.{◌≡◌, ◌-◌, [], All, List, length}
use Rattle.snap_plain.specs.Ahead.{IsAhead}
use Rattle.snap_plain.specs.Turns.{HasTaken}
use Rattle.snap_text.specs.Fields.{Fields}
use Rattle.snap_threads.specs.Claiming.{IsClaimOf}
use Rattle.snap_plain.proofs.beside.take_drawn.Given as goal

abbrev pub invariant-each : goal.invariant-each
invariant-each g l = record {
  taken : (rows : List Fields) → HasTaken l.fn.limit l.lines l.lines [] rows → HasTaken l.fn.limit l.lines l.behind l.history.events rows;
  limit : l.history.limit ≡ l.fn.limit;
  waiting : All (IsAhead l.lines) l.waiting.items;
  of_counter : IsClaimOf l.counter l.claim;
}

abbrev pub decreases-each : goal.decreases-each
decreases-each g l = l.counter.pieces - length l.claim.drawn
