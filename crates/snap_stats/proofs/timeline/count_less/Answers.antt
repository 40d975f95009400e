use Rattle.std.proofs.Common.{rules, of_calls, ℕ}
use Rattle.std.specs.Prelude.{nat_lt}
use Rattle.std.proofs.lemmas.Fn.{always_returns_same}
use Rattle.std.proofs.lemmas.List.Sorted.{IsPartitionedBy-ltb}
use Rattle.snap_stats.proofs.Counts.{point_count}
use Rattle.snap_stats.proofs.timeline.count_less.Goals as goal

pub returns : goal.returns
returns c =
    let test = λ (x : ℕ). nat_lt x c.args.limit in
    point_count test c.args.numbers.now c.partition_point.result c.partition_point.ensures.bound
    (c.partition_point.ensures.partitioned test (always_returns_same _ _ _ (λ a r q k. search (rules, of_calls))) (IsPartitionedBy-ltb (λ x. x) c.args.numbers.now c.args.limit c.requires))
