use Rattle.std.proofs.Common.{subst, rules}
use Rattle.snap_masks.specs.Ranks.{AreRanks}
use Rattle.snap_masks.proofs.Ranking.{ordered}
use Rattle.snap_grid.proofs.sweep.small_ranks.Goals as goal

pub returns-clause-order : goal.returns-clause-order
returns-clause-order c =
    let numbers = c.args.numbers.now in
    ordered numbers c.in_ok-distinct.distinct.items c.in_ok-ranks.ranks.items c.in_ok-distinct.ensures (subst (λ z. AreRanks numbers z c.in_ok-ranks.ranks.items) c.deref.ensures.value c.in_ok-ranks.ensures)

pub returns-then-of-numbers-clause-small : goal.returns-then-of-numbers-clause-small
returns-then-of-numbers-clause-small c = search rules
