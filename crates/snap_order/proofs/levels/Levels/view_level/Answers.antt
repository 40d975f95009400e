use Rattle.std.proofs.Common.{rules, of_calls, ◌∙◌, ℕ, Bool, List, length, get_or, sym, ap, subst, arith}
use Rattle.std.specs.Prelude.{nat_lt, count_by}
use Rattle.std.specs.List.Sorted.{IsPartitionedBy}
use Rattle.std.proofs.lemmas.List.Sorted.{IsPartitionedBy-ltb}
use Rattle.snap_core.specs.declared.event.Event.{Event}
use Rattle.snap_core.specs.Calls.{calls_of, views_of}
use Rattle.snap_views.specs.Quick.{shown_sum}
use Rattle.snap_views.proofs.Sizes.{few_views}
use Rattle.snap_order.proofs.Counts.{point_counts}
use Rattle.snap_order.proofs.Ranking.{word_fits}
use Rattle.snap_order.proofs.Searches.{chain_length, sums_rise_by, sum_place}
use Rattle.snap_order.proofs.levels.Levels.view_level.Goals as goal

pub returns-clause-level : goal.returns-clause-level
returns-clause-level g c =
    let calls = calls_of c.self.inside.index.now in
    let chain = c.self.inside.chain.items in
    let sums = c.self.inside.sums.items in
    let sum = c.args.sum in
    let test : ℕ → Bool = λ place. nat_lt (get_or sums place 0) sum in
    let parted = subst (IsPartitionedBy test) (sym c.deref.ensures.value) (IsPartitionedBy-ltb (λ place. get_or sums place 0) chain sum (sums_rise_by calls chain sums c.self.invariant.chain c.self.invariant.summed)) in
    let point = c.partition_near.ensures.parted test (λ place answer h. search (rules, of_calls, c.as_slice-sums.ensures.value, h.shows)) parted in
    point_counts test c.deref.result.now c.partition_near.result c.partition_near.ensures.bound point
    ∙ ap (count_by test) c.deref.ensures.value ∙ sum_place calls chain sums c.self.invariant.chain c.self.invariant.summed sum
    ∙ ap (λ (z : List Event). count_by (λ s. nat_lt (shown_sum s) sum) (views_of (calls_of z))) c.self.view_is

pub returns-clause-few : goal.returns-clause-few
returns-clause-few g c =
    let views = ap (λ (z : List Event). length (views_of (calls_of z))) c.self.view_is in
    let size = chain_length (calls_of c.self.inside.index.now) c.self.inside.chain.items c.self.invariant.chain in
    omega (arith, c.partition_near.ensures.bound, ap length c.deref.ensures.value, size, views)

pub overflow_cast-result : goal.overflow_cast-result
overflow_cast-result g c =
    let size = chain_length (calls_of c.self.inside.index.now) c.self.inside.chain.items c.self.invariant.chain in
    word_fits c.partition_near.result (omega (arith, c.partition_near.ensures.bound, ap length c.deref.ensures.value, size, few_views c.self.inside.index.now c.self.invariant.kept))
