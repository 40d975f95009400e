use Rattle.snap_masks.proofs.ranked.rank_by.Goals as goal

pub returns-then-is_rank : goal.returns-then-is_rank
returns-then-is_rank c = c.is_rank.ensures c.if-is_rank.true

pub returns-then-is_rank-2 : goal.returns-then-is_rank-2
returns-then-is_rank-2 c = c.is_rank-2.ensures c.if-is_rank-2.true

pub returns : goal.returns
returns c = c.rank_of.ensures
