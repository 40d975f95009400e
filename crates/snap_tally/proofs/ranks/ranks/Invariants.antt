use Rattle.snap_tally.proofs.Ranked.{AreRanked}
use Rattle.snap_tally.proofs.ranks.ranks.Given as goal

abbrev pub invariant-loop-at : goal.invariant-loop-at
invariant-loop-at g l = AreRanked l.chain.sums.items l.chain.places.items l.ranks.items l.at l.rank l.last
