use Rattle.std.proofs.Common.{◌≡◌, ◌<◌, ◌++◌, ◌∷◌, [], ◌∙◌, length, map, get_or, sym, ap, arith}
use Rattle.std.specs.List.{range_with_len}
use Rattle.std.proofs.lemmas.List.FromFn.{map-range_with_len_more}
use Rattle.snap_core.specs.Calls.{calls_of, views_of}
use Rattle.snap_views.specs.Chains.{summed_at}
use Rattle.snap_views.proofs.Chains.{sum_in}
use Rattle.snap_views.proofs.view_chain.keys.Goals as goal

pub loop-place-preserved : goal.loop-place-preserved
loop-place-preserved g c =
    let calls = calls_of c.args.index.now in
    let place = c.loop-place.place in
    let within : place < length (views_of calls) = (let l = c.loop-place-test.true in let e = c.view_count-place-end.ensures in omega (arith, l, e)) in
    c.in_ok-push.ensures.items ∙ ap (λ z. z ++ (get_or c.args.sums.now place 0, place) ∷ []) c.loop-place.invariant
    ∙ ap (λ z. map (summed_at calls) (range_with_len 0 place) ++ (z, place) ∷ []) (sum_in calls c.args.sums.now place 0 c.requires within)
    ∙ sym (map-range_with_len_more (summed_at calls) 0 place place (omega arith))

pub returns : goal.returns
returns g c =
    let calls = calls_of c.args.index.now in
    let all : c.loop-place.place ≡ length (views_of calls) = (let l = c.loop-place-test.false in let m = c.loop-place.auto.place-end in let e = c.view_count-place-end.ensures in omega (arith, l, m, e)) in
    c.loop-place.invariant ∙ ap (λ n. map (summed_at calls) (range_with_len 0 n)) all
