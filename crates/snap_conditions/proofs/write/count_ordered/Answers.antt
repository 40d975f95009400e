use Rattle.std.proofs.Common.{rules, of_calls, arith}
use Rattle.std.specs.Prelude.{nat_le}
use Rattle.std.proofs.lemmas.Bool.{leb-true, leb-false}
use Rattle.std.proofs.lemmas.Fn.{always_returns_same}
use Rattle.std.proofs.lemmas.List.Sorted.{IsPartitionedBy-leb}
use Rattle.snap_conditions.proofs.Missed.{counted_behind}
use Rattle.snap_conditions.proofs.write.count_ordered.Goals as goal

pub returns : goal.returns
returns c =
    let xs = c.args.begins.now in
    let point = c.partition_point-behind.ensures.partitioned (λ n. nat_le n c.args.ended) (always_returns_same _ _ _ (λ a r q k. search (rules, of_calls))) (IsPartitionedBy-leb (λ n. n) xs c.args.ended c.requires) in
    omega (
      arith,
      c.partition_point-behind.ensures.bound,
      counted_behind c.args.ended xs c.partition_point-behind.result c.partition_point-behind.ensures.bound (λ k l. leb-true _ _ (point.0 k 0 (omega arith) l)) (λ k l m. leb-false _ _ (point.1 k 0 l m)),
    )
