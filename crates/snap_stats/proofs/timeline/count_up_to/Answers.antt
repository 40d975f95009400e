use Rattle.std.proofs.Common.{◌∙◌, ℕ, ap, count_by, not, of_calls, rules, sym}
use Rattle.std.specs.Prelude.{nat_le}
use Rattle.std.proofs.lemmas.Fn.{always_returns_same}
use Rattle.std.proofs.lemmas.List.Sorted.{IsPartitionedBy-leb}
use Rattle.snap_core.specs.Calls.{is_before}
use Rattle.snap_stats.proofs.Counts.{count_all, count_same, le_not, point_count}
use Rattle.snap_stats.proofs.timeline.count_up_to.Goals as goal

pub returns-in-Some : goal.returns-in-Some
returns-in-Some c =
    let test = λ (x : ℕ). nat_le x c.in-Some.ended in
    point_count test c.args.places.now c.partition_point.result c.partition_point.ensures.bound
    (c.partition_point.ensures.partitioned test (always_returns_same _ _ _ (λ a r q k. search (rules, of_calls))) (IsPartitionedBy-leb (λ x. x) c.args.places.now c.in-Some.ended c.requires))
    ∙ count_same test _ c.args.places.now (λ x i. le_not x c.in-Some.ended)
    ∙ ap (λ o. count_by (λ x. not (is_before o x)) c.args.places.now) (sym c.in-Some.is)

pub returns-in-None : goal.returns-in-None
returns-in-None c = count_all c.args.places.now ∙ ap (λ o. count_by (λ x. not (is_before o x)) c.args.places.now) (sym c.in-None.is)
