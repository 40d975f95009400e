use Rattle.std.proofs.Common.{◌-◌, arith}
use Rattle.snap_masks.proofs.Ranking.{no_falls}
use Rattle.snap_masks.proofs.ranked.is_rank.Goals as goal
use Rattle.snap_masks.proofs.ranked.is_rank.Goals.{else-rank-gt0-via-then-rank-gt0+else-distinct-rank, else-rank-gt0-via-else-rank-gt0}
use Rattle.snap_masks.proofs.ranked.is_rank.Goals.{else-rank-distinct-2-via-then-rank-distinct-2+else-distinct-rank-2, else-rank-distinct-2-via-else-rank-distinct-2}

pub returns : goal.returns
returns c = λ _. record {
  within = omega (arith, c.if-rank-distinct.false);
  before = λ i l. elim c.else-rank-gt0.branch [
    | else-rank-gt0-via-then-rank-gt0+else-distinct-rank w ↦ omega (arith, w.if-distinct-rank.false, no_falls c.args.distinct.now c.requires i (c.args.rank - 1) 0 (omega (arith, l)) (omega (arith, l, c.if-rank-distinct.false)))
    | else-rank-gt0-via-else-rank-gt0 w ↦ absurd (omega (arith, l, w.if-rank-gt0.false))
  ];
  behind = λ i l m. elim c.else-rank-distinct-2.branch [
    | else-rank-distinct-2-via-then-rank-distinct-2+else-distinct-rank-2 w ↦ omega (arith, w.if-distinct-rank-2.false, no_falls c.args.distinct.now c.requires c.args.rank i 0 l m)
    | else-rank-distinct-2-via-else-rank-distinct-2 w ↦ absurd (omega (arith, l, m, w.if-rank-distinct-2.false))
  ];
}
