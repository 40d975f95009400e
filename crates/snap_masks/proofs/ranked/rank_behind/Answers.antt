use Rattle.std.proofs.Common.{arith}
use Rattle.snap_masks.proofs.Ranking.{rank_of_equal, rank_of_other}
use Rattle.snap_masks.proofs.ranked.rank_behind.Goals as goal
use Rattle.snap_masks.proofs.ranked.rank_behind.Goals.{else-rank-distinct-via-then-rank-distinct+else-distinct-rank, else-rank-distinct-via-else-rank-distinct}

pub returns-then-distinct-rank : goal.returns-then-distinct-rank
returns-then-distinct-rank c = rank_of_equal c.args.distinct.now c.args.x c.args.rank c.requires.order c.requires.rank c.if-rank-distinct.true c.if-distinct-rank.true

pub returns-else-rank-distinct : goal.returns-else-rank-distinct
returns-else-rank-distinct c = rank_of_other c.args.distinct.now c.args.x c.args.rank c.requires.order c.requires.rank
    (λ l e. elim c.else-rank-distinct.branch [
      | else-rank-distinct-via-then-rank-distinct+else-distinct-rank w ↦ w.if-distinct-rank.false e
      | else-rank-distinct-via-else-rank-distinct w ↦ omega (arith, l, w.if-rank-distinct.false)
    ])
