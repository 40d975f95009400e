use Rattle.std.proofs.Common.{rules, ℕ, ◌∙◌, length, map, refl, sym, ap, subst}
use Rattle.std.specs.List.{All}
use Rattle.std.specs.List.Sorted.{IsPermutation}
use Rattle.std.proofs.lemmas.Bool.{false≢true}
use Rattle.std.proofs.lemmas.List.Sorted.{IsNonDecreasingBy-from_sort_by_key}
use Rattle.snap_core.specs.Calls.{calls_of}
use Rattle.snap_views.specs.inside.Chains.{IsSummed, Climbs, joined}
use Rattle.snap_views.specs.Chains.{IsChain}
use Rattle.snap_views.proofs.Chains.{summed, all_summed, sorted_views, is_chain, comparable_from, climbs_from}
use Rattle.snap_views.proofs.view_chain.chain.Goals as goal

pub some_cross-requires-clause-keys : goal.some_cross-requires-clause-keys
some_cross-requires-clause-keys g c =
    let calls = calls_of c.args.index.now in
    subst (All (IsSummed calls)) (sym c.deref.ensures.value) (subst (All (IsSummed calls)) (sym c.in_ok-keys.ensures) (summed calls))

pub climbs-requires-clause-keys : goal.climbs-requires-clause-keys
climbs-requires-clause-keys g c =
    let calls = calls_of c.args.index.now in
    let keys = c.sort_unstable_by_key.new.self.items in
    let same = subst (λ z. IsPermutation z keys) c.in_ok-keys.ensures c.sort_unstable_by_key.ensures.permutation in
    subst (All (IsSummed calls)) (sym c.deref-2.ensures.value) (all_summed calls keys same)

pub returns-then-not-climbs-clause-comparable : goal.returns-then-not-climbs-clause-comparable
returns-then-not-climbs-clause-comparable g c =
    let calls = calls_of c.args.index.now in
    let keys = c.sort_unstable_by_key.new.self.items in
    let same = subst (λ z. IsPermutation z keys) c.in_ok-keys.ensures c.sort_unstable_by_key.ensures.permutation in (
      λ t. absurd (false≢true t),
      λ h.
          let up = climbs_from c.args.index.now c.event_count-events.ensures.ordered h keys (all_summed calls keys same) (sorted_views c.args.index.now c.event_count-events.ensures.ordered keys same (IsNonDecreasingBy-from_sort_by_key joined keys c.sort_unstable_by_key.ensures.sorted (λ a r q k. search rules))) in
          absurd (false≢true (sym c.if-not-climbs.true ∙ c.climbs.ensures.1 (subst (λ z. Climbs calls z (length z)) (sym c.deref-2.ensures.value) up))),
    )

pub returns-clause-sorted : goal.returns-clause-sorted
returns-clause-sorted g c =
    let calls = calls_of c.args.index.now in
    let keys = c.sort_unstable_by_key.new.self.items in
    let same = subst (λ z. IsPermutation z keys) c.in_ok-keys.ensures c.sort_unstable_by_key.ensures.permutation in
    subst (IsChain calls) (sym (c.in_ok-places.ensures ∙ ap (map (λ (key : ℕ × ℕ). key.1)) c.deref-3.ensures.value)) (is_chain calls keys same (sorted_views c.args.index.now c.event_count-events.ensures.ordered keys same (IsNonDecreasingBy-from_sort_by_key joined keys c.sort_unstable_by_key.ensures.sorted (λ a r q k. search rules))))

pub returns-clause-comparable : goal.returns-clause-comparable
returns-clause-comparable g c =
    let calls = calls_of c.args.index.now in
    let keys = c.sort_unstable_by_key.new.self.items in
    let same = subst (λ z. IsPermutation z keys) c.in_ok-keys.ensures c.sort_unstable_by_key.ensures.permutation in
    (λ t. comparable_from calls keys same (subst (λ z. Climbs calls z (length z)) c.deref-2.ensures.value (c.climbs.ensures.0 c.if-not-climbs.false)), λ h. refl)
