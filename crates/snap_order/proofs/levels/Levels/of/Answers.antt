use Rattle.snap_order.proofs.Searches.{comparable_without_fault}
use Rattle.snap_order.proofs.levels.Levels.of.Goals as goal

pub invariant_of-result : goal.invariant_of-result
invariant_of-result g c = record {
  kept = c.event_count-events.ensures.ordered;
  chain = c.requires.chain.places;
  comparable = comparable_without_fault c.args.index.now c.event_count-events.ensures.ordered c.requires.fault;
  summed = c.requires.chain.sums;
}
