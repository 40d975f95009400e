use Rattle.std.proofs.Common.{◌≡◌, ◌+◌, ◌<◌, ◌∙◌, List, length, get_or, set, sym, ap, subst, inl, inr, arith}
use Rattle.std.proofs.lemmas.List.{get_or_default}
use Rattle.snap_core.specs.Calls.{Call, calls_of, views_of}
use Rattle.snap_grid.specs.Columns.{number}
use Rattle.snap_views.specs.Chains.{IsViewChain}
use Rattle.snap_views.specs.declared.view_chain.ViewChain.{ViewChain}
use Rattle.snap_views.proofs.Chains.{sums_count}
use Rattle.snap_tally.proofs.Ranked.{AreRanked, IsNext, is_climb, next_ranked, all_ranked}
use Rattle.snap_tally.proofs.ranks.ranks.Goals as goal
use Rattle.snap_tally.proofs.ranks.ranks.Goals.{then-last-sum, else-last-sum}

-- a chain has a place for each view
places_count : (calls : List Call) (chain : ViewChain) → IsViewChain calls chain → length chain.places.items ≡ length (views_of calls)
places_count calls chain h = (is_climb calls chain h).count ∙ sums_count calls chain.sums.items h.sums

pub index-requires : goal.index-requires
index-requires g c = omega (arith, places_count (calls_of c.args.index.now) c.args.chain.now c.requires.chain, c.args.chain.now.places.ok, c.loop-at-test.true, c.view_count-at-end.ensures)

pub index-sum-requires : goal.index-sum-requires
index-sum-requires g c =
    let chain = c.args.chain.now in
    let climb = is_climb (calls_of c.args.index.now) chain c.requires.chain in
    let here : c.loop-at.at < length chain.places.items = omega (arith, places_count (calls_of c.args.index.now) chain c.requires.chain, c.loop-at-test.true, c.view_count-at-end.ensures) in
    let place : c.index.result.now ≡ number chain.places.items c.loop-at.at = c.index.ensures ∙ get_or_default chain.places.items c.loop-at.at c.index.result.now 0 here in
    omega (arith, place, climb.within c.loop-at.at here, chain.sums.ok)

pub index_mut-requires : goal.index_mut-requires
index_mut-requires g c =
    let chain = c.args.chain.now in
    let climb = is_climb (calls_of c.args.index.now) chain c.requires.chain in
    let here : c.loop-at.at < length chain.places.items = omega (arith, places_count (calls_of c.args.index.now) chain c.requires.chain, c.loop-at-test.true, c.view_count-at-end.ensures) in
    let place : c.index.result.now ≡ number chain.places.items c.loop-at.at = c.index.ensures ∙ get_or_default chain.places.items c.loop-at.at c.index.result.now 0 here in
    omega (arith, place, climb.within c.loop-at.at here, c.loop-at.invariant.size, c.loop-at.ranks.ok)

pub loop-at-preserved : goal.loop-at-preserved
loop-at-preserved g c =
    let chain = c.args.chain.now in
    let at = c.loop-at.at in
    let places = chain.places.items in
    let sums = chain.sums.items in
    let ranks = c.loop-at.ranks.items in
    let climb = is_climb (calls_of c.args.index.now) chain c.requires.chain in
    let here : at < length places = omega (arith, places_count (calls_of c.args.index.now) chain c.requires.chain, c.loop-at-test.true, c.view_count-at-end.ensures) in
    let place : c.index.result.now ≡ number places at = c.index.ensures ∙ get_or_default places at c.index.result.now 0 here in
    let sum : c.index-sum.result.now ≡ number sums (number places at) =
    c.index-sum.ensures ∙ ap (λ z. get_or sums z c.index-sum.result.now) place ∙ get_or_default sums (number places at) c.index-sum.result.now 0 (climb.within at here) in
    let next : IsNext at c.loop-at.rank c.loop-at.last (number sums (number places at)) c.if-last-sum.rank c.if-last-sum.last =
    elim c.if-last-sum.branch [
      | then-last-sum w ↦ inl (omega (arith, sum, w.if-last-sum.true), w.rank-is, w.last-is ∙ sum)
      | else-last-sum w ↦ inr (omega (arith, sum, w.if-last-sum.false), w.rank-is, w.last-is)
    ] in
    subst (λ z. AreRanked sums places (set ranks z c.if-last-sum.rank) (at + 1) c.if-last-sum.rank c.if-last-sum.last) (sym place)
    (next_ranked sums places ranks at c.loop-at.rank c.loop-at.last c.if-last-sum.rank c.if-last-sum.last climb here c.loop-at.invariant next)

pub returns : goal.returns
returns g c =
    let chain = c.args.chain.now in
    let climb = is_climb (calls_of c.args.index.now) chain c.requires.chain in
    all_ranked chain.sums.items chain.places.items c.loop-at.ranks.items c.loop-at.at c.loop-at.rank c.loop-at.last climb
    (omega (arith, places_count (calls_of c.args.index.now) chain c.requires.chain, c.loop-at-test.false, c.loop-at.auto.at-end, c.view_count-at-end.ensures)) c.loop-at.invariant
