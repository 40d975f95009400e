use Rattle.std.proofs.Common.{All, length}
use Rattle.snap_plain.specs.Sharing.{IsNewClaim, IsNewJob}
use Rattle.snap_plain.proofs.beside.jobs_for.Given as goal

abbrev pub invariant-each : goal.invariant-each
invariant-each g l = record {
  claims : All (IsNewClaim l.counter) l.claims.items;
  jobs : All (IsNewJob l.counter) l.jobs.items;
}

abbrev pub decreases-each : goal.decreases-each
decreases-each g l = length l.claims.items
