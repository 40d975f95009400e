use Rattle.std.proofs.Common.{◌≡◌, ◌<◌, ◌++◌, ◌∷◌, [], ◌∙◌, Global, Vec, ap, arith, length, sym, subst, count_by}
use Rattle.std.proofs.lemmas.List.{get_or_default}
use Rattle.snap_core.specs.Calls.{calls_of}
use Rattle.snap_stats.specs.declared.stats.ComponentStats.{ComponentStats}
use Rattle.snap_stats.proofs.Components.{all_below, components_below, has_none, has_some, made, made_is, none_more, one_more}
use Rattle.snap_stats.proofs.stats.components_in.Goals as goal
use Rattle.snap_stats.proofs.stats.components_in.Goals.{then-updates-gt0+in_ok-push, else-updates-gt0}

pub loop-k-preserved : goal.loop-k-preserved
loop-k-preserved g c =
    let calls = calls_of c.args.index.now in
    let k = c.loop-k.k in
    elim c.if-updates-gt0.branch [
      | then-updates-gt0+in_ok-push w ↦
          let few : k < length c.in_ok-views.views.items = omega (arith, c.loop-k-test.true, c.in_ok-views.ensures.size) in
          let views = w.index.ensures ∙ get_or_default c.in_ok-views.views.items k w.index.result.now 0 few ∙ c.in_ok-views.ensures.counts k c.loop-k-test.true in
          let as_defined = made_is calls k w.writer_of.result c.update_count-updates.result w.index.result.now w.writer_of.ensures c.update_count-updates.ensures views in
          ap (λ (v : Vec ComponentStats Global). v.items) w.components-is ∙ w.in_ok-push.ensures.items
          ∙ ap (λ z. z ++ made k w.writer_of.result c.update_count-updates.result w.index.result.now ∷ []) c.loop-k.invariant
          ∙ ap (λ s. components_below calls k ++ s ∷ []) as_defined
          ∙ sym (one_more calls k (has_some calls k (omega (arith, w.if-updates-gt0.true, c.update_count-updates.ensures))))
      | else-updates-gt0 w ↦
          ap (λ (v : Vec ComponentStats Global). v.items) w.components-is ∙ c.loop-k.invariant
          ∙ sym (none_more calls k (has_none calls k (omega (arith, w.if-updates-gt0.false, c.update_count-updates.ensures))))
    ]

pub returns : goal.returns
returns g c = c.loop-k.invariant ∙ all_below (calls_of c.args.index.now) c.loop-k.k (omega (arith, c.loop-k-test.false, c.loop-k.auto.k-end))
