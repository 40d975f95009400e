use Rattle.snap_versions.specs.inside.Updates.{AreEndsFrom}
use Rattle.snap_versions.proofs.times.earliest_ends.Given as goal

abbrev pub invariant-loop-i : goal.invariant-loop-i
invariant-loop-i l = AreEndsFrom l.updates l.i l.ends.items
