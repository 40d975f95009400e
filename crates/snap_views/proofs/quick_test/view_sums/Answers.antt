use Rattle.std.proofs.Common.{◌<◌, ◌∙◌, ◌++◌, ◌∷◌, [], length, map, take, sym, ap, arith}
use Rattle.std.proofs.lemmas.List.{map-append, take_all, take_more}
use Rattle.snap_core.specs.Calls.{calls_of, views_of, nobody}
use Rattle.snap_views.specs.Quick.{shown_sum}
use Rattle.snap_views.specs.Seen.{view_in}
use Rattle.snap_views.proofs.quick_test.view_sums.Goals as goal

pub loop-place-preserved : goal.loop-place-preserved
loop-place-preserved g c =
    let views = views_of (calls_of c.args.index.now) in
    let place = c.loop-place.place in
    let within : place < length views = (let l = c.loop-place-test.true in let e = c.view_count-place-end.ensures in omega (arith, l, e)) in
    c.in_ok-push.ensures.items
    ∙ ap (λ z. z ++ c.view_sum.result ∷ []) c.loop-place.invariant
    ∙ ap (λ z. map shown_sum (take place views) ++ z ∷ []) c.view_sum.ensures
    ∙ sym (map-append shown_sum (take place views) (view_in (calls_of c.args.index.now) place ∷ []))
    ∙ sym (ap (map shown_sum) (take_more views place nobody within))

pub returns : goal.returns
returns g c = c.loop-place.invariant ∙ ap (map shown_sum) (take_all c.loop-place.place (views_of (calls_of c.args.index.now)) (let f = c.loop-place-test.false in let e = c.view_count-place-end.ensures in omega (arith, f, e)))
