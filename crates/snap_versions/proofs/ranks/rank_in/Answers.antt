use Rattle.std.proofs.Common.{◌∙◌, ◌+◌, ap, sym, arith, rules, of_calls}
use Rattle.std.specs.Prelude.{nat_lt}
use Rattle.std.proofs.lemmas.Fn.{always_returns_same}
use Rattle.std.proofs.lemmas.List.Sorted.{IsPartitionedBy-ltb}
use Rattle.snap_versions.proofs.Ranking.{rank_found, rank_new}
use Rattle.snap_versions.proofs.ranks.rank_in.Goals as goal
use Rattle.snap_versions.proofs.ranks.rank_in.Goals.{then-below-versions+then-versions-below, else-below-versions, else-below-versions-via-then-below-versions+else-versions-below, else-below-versions-via-else-below-versions}

pub returns : goal.returns
returns c =
    let versions = c.args.versions.now in
    let n = c.args.number in
    let below = c.partition_point-below.result in
    let point = c.partition_point-below.ensures.partitioned (λ m. nat_lt m n) (always_returns_same _ _ _ (λ a r q k. search (rules, of_calls))) (IsPartitionedBy-ltb (λ m. m) versions n c.requires.rising) in
    elim c.if-below-versions.branch [
      | then-below-versions+then-versions-below w ↦ ap (λ m. m + 1) w.lower-is ∙ sym (rank_found versions n below point w.if-below-versions.true w.if-versions-below.true)
      | else-below-versions w ↦ ap (λ m. m + 1) w.lower-is ∙ sym (rank_new versions n below c.requires.rising point (λ l e. elim w.else-below-versions.branch [
        | else-below-versions-via-then-below-versions+else-versions-below v ↦ v.if-versions-below.false e
        | else-below-versions-via-else-below-versions v ↦ omega (arith, l, v.if-below-versions.false)
      ]))
    ]
