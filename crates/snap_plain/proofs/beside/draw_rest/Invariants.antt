use Rattle.std.proofs.Common.{◌-◌, length}
use Rattle.snap_threads.specs.Claiming.{IsClaimOf}
use Rattle.snap_plain.proofs.beside.draw_rest.Given as goal

abbrev pub invariant-each : goal.invariant-each
invariant-each l = IsClaimOf l.counter l.claim

abbrev pub decreases-each : goal.decreases-each
decreases-each l = l.counter.pieces - length l.claim.drawn
