use Rattle.std.proofs.Common.{rules, ℕ, ◌∙◌}
use Rattle.std.proofs.lemmas.Iterator.{items_from_collect, YieldsList-from_map}
use Rattle.std.proofs.lemmas.Iterator.Consumers.{YieldsList-at}
use Rattle.std.proofs.lemmas.Iterator.Adapters.{YieldsList-from_vec}
use Rattle.std.proofs.lemmas.List.Sorted.{answers_always}
use Rattle.std.proofs.lemmas.Result.{IfOk-weaker}
use Rattle.snap_versions.specs.declared.moments.Ranked.{Ranked}
use Rattle.snap_versions.specs.inside.RankedMoments.{moment_of}
use Rattle.snap_versions.proofs.Sorting.{sorted_pairs}
use Rattle.snap_versions.proofs.moments.in_order.Goals as goal

abbrev rank : Ranked → ℕ × ℕ
rank r = (r.moment.at, r.number)

pub returns : goal.returns
returns c =
    let order = c.sort_unstable_by_key.new.self.items in
    IfOk-weaker c.collect.result _ _
    (λ told is. record {
      order = order;
      same = c.sort_unstable_by_key.ensures.permutation;
      sorted = sorted_pairs rank order (c.sort_unstable_by_key.ensures.sorted rank (answers_always _ _ _ (λ f a r g h. search rules)));
      told = is;
    })
    (items_from_collect _ c.collect.ensures.ran (YieldsList-from_map _ moment_of (YieldsList-at c.map.ensures.source (YieldsList-from_vec order c.into_iter.ensures.rest (c.into_iter.ensures.len ∙ c.sort_unstable_by_key.new.self.ok.0))) c.map.ensures.closure (λ x r q k. search rules)))
