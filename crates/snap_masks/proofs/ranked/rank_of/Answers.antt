use Rattle.std.proofs.Common.{rules, of_calls, arith}
use Rattle.std.specs.Prelude.{nat_lt}
use Rattle.std.proofs.lemmas.Bool.{ltb-true, ltb-false}
use Rattle.std.proofs.lemmas.Fn.{always_returns_same}
use Rattle.std.proofs.lemmas.List.Sorted.{IsPartitionedBy-ltb}
use Rattle.snap_masks.proofs.Ranking.{no_falls}
use Rattle.snap_masks.proofs.ranked.rank_of.Goals as goal

pub returns : goal.returns
returns c =
    let xs = c.args.distinct.now in
    let point = c.partition_point.ensures.partitioned (λ n. nat_lt n c.args.x) (always_returns_same _ _ _ (λ a r q k. search (rules, of_calls))) (IsPartitionedBy-ltb (λ n. n) xs c.args.x (no_falls xs c.requires)) in
    record {
      within = c.partition_point.ensures.bound;
      before = λ i l. ltb-true _ _ (point.0 i 0 (omega arith) l);
      behind = λ i l m. ltb-false _ _ (point.1 i 0 l m);
    }
