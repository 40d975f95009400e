use Rattle.std.proofs.Common.{◌++◌, ◌∷◌, [], ◌∙◌, ℕ, map, take, get_or, sym, ap}
use Rattle.std.proofs.lemmas.List.{take_all, take_more, map_push}
use Rattle.snap_views.proofs.view_chain.places.Goals as goal

pub returns : goal.returns
returns c = c.loop-sum.invariant ∙ ap (map (λ (k : ℕ × ℕ). k.1)) (take_all c.loop-sum._sum-index c.args.keys.now c.loop-sum-test.false)

pub loop-sum-preserved : goal.loop-sum-preserved
loop-sum-preserved c =
    let keys = c.args.keys.now in
    let i = c.loop-sum._sum-index in
    let key : ℕ × ℕ = get_or keys i (0, 0) in
    let longer = ap (map (λ (k : ℕ × ℕ). k.1)) (take_more keys i (0, 0) c.loop-sum-test.true) ∙ map_push (λ (k : ℕ × ℕ). k.1) (take i keys) key in
    c.in_ok-push.ensures.items ∙ ap (λ places. places ++ key.1 ∷ []) c.loop-sum.invariant ∙ sym longer
