use Rattle.std.proofs.Common.{◌≡◌, ◌<◌, ◌-◌, ◌∙◌, List, length, map, subst, sym, ap, arith}
use Rattle.std.specs.List.{AllZip, range_with_len}
use Rattle.std.proofs.lemmas.List.{length-map, get_or-map}
use Rattle.std.proofs.lemmas.List.FromFn.{fill_by_all}
use Rattle.std.proofs.lemmas.Slice.Zip.{AllZip-map}
use Rattle.rayon.specs.Lists.{map_base, map_f}
use Rattle.rayon.specs.Numbers.{nat_range}
use Rattle.rayon.proofs.ListFacts.{IfOk-then}
use Rattle.rayon.proofs.ToStd.{nat_range-All}
use Rattle.snap_core.specs.Calls.{Call, calls_of, views_of, nobody}
use Rattle.snap_views.specs.Quick.{shown_sum}
use Rattle.snap_views.specs.Seen.{view_in}
use Rattle.snap_pairs.proofs.reads.shared_sums.Goals as goal

-- the sums by the places of the views
by_places : (calls : List Call) → map shown_sum (views_of calls) ≡ map (λ place. shown_sum (view_in calls place)) (range_with_len 0 (length (views_of calls)))
by_places calls =
    fill_by_all (λ place. shown_sum (view_in calls place)) (map shown_sum (views_of calls)) (length (views_of calls)) 0 (length-map (views_of calls) shown_sum)
    (λ k l. get_or-map shown_sum (views_of calls) k nobody 0 l)

-- the closure's `requires` at each place of the range
pub collect-requires-clause-ready : goal.collect-requires-clause-ready
collect-requires-clause-ready g c κs within =
    let ends = c.into_par_iter.ensures in
    let n = length (views_of (calls_of c.args.index.now)) in
    let inside = nat_range-All (λ i. i < n) 0 n (λ i low high. high) in
    rw (c.with_min_len.ensures.base, c.map.ensures.base, c.map.ensures.f, ends.0, ends.1, c.view_count-views.ensures) (λ k d lt. (inside k d lt, λ y p. tt))

pub returns : goal.returns
returns g c =
    let ends = c.into_par_iter.ensures in
    let calls = calls_of c.args.index.now in
    let n = length (views_of calls) in
    let whole : n - 0 ≡ n = omega arith in
    IfOk-then c.collect.result _ _ c.collect.ensures (λ v h.
    let base = ap map_base c.with_min_len.ensures.base ∙ c.map.ensures.base in
    let sum = ap map_f c.with_min_len.ensures.base ∙ c.map.ensures.f in
    let places = h.1.1 ∙ (λ i. nat_range (base i).start (base i).end) ∙ (λ i. nat_range (ends.0 i) ((ends.1 ∙ c.view_count-views.ensures) i)) ∙ ap (range_with_len 0) whole in
    let each = subst (λ f. AllZip (λ place value. value ≡ shown_sum (view_in (calls_of f.0.now) place)) h.1.0 h.0) sum h.1.2 in
    h.2 ∙ AllZip-map (λ place. shown_sum (view_in calls place)) h.1.0 h.0 each ∙ ap (map (λ place. shown_sum (view_in calls place))) places ∙ sym (by_places calls))
