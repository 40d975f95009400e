use Rattle.std.proofs.Common.{subst}
use Rattle.snap_masks.specs.Ranks.{AreRanks}
use Rattle.snap_masks.proofs.Ranking.{ordered}
use Rattle.snap_masks.proofs.column.ranks_beyond.Goals as goal

pub returns : goal.returns
returns c = λ _.
    let numbers = c.args.numbers.now in
    ordered numbers c.in_ok-distinct.distinct.items c.in_ok-ranks.ranks.items c.in_ok-distinct.ensures (subst (λ z. AreRanks numbers z c.in_ok-ranks.ranks.items) c.deref.ensures.value c.in_ok-ranks.ensures)
