use Rattle.snap_views.proofs.Climbing.{IsTaken}
use Rattle.snap_views.proofs.view_chain.climb.Given as goal

abbrev pub invariant-loop-entry : goal.invariant-loop-entry
invariant-loop-entry l = IsTaken l.fn.numbers l.numbers l.entries l.entry-index l.lesser
