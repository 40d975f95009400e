use Rattle.std.proofs.Common.{◌≡◌, ◌∷◌, [], ◌∙◌, ap, sym, subst, arith}
use Rattle.snap_core.specs.Calls.{calls_of}
use Rattle.snap_tally.specs.inside.Grids.{ShowAll}
use Rattle.snap_views.proofs.Chains.{sums_count}
use Rattle.snap_views.proofs.Sizes.{few_views}
use Rattle.snap_tally.proofs.Ranked.{show_ranks}
use Rattle.snap_tally.proofs.view_grid.ViewGrid.of_chain.Goals as goal

pub alone-requires : goal.alone-requires
alone-requires g c =
    let es = c.args.index.now in
    omega (arith, c.in_ok-ranks.ensures.count, sums_count (calls_of es) c.args.chain.now.sums.items c.requires.chain.sums, few_views es c.event_count-events.ensures.ordered)

pub of_keys-requires-clause-keys : goal.of_keys-requires-clause-keys
of_keys-requires-clause-keys g c =
    let es = c.args.index.now in
    let ranks = c.in_ok-ranks.ranks.items in
    let is : c.in_ok-keys.keys.items ≡ ranks ∷ [] = c.in_ok-keys.ensures.items ∙ ap (λ z. z ∷ []) c.in_ok-alone.ensures in
    subst (ShowAll (calls_of es)) (sym is) (show_ranks es c.event_count-events.ensures.ordered c.requires.comparable c.args.chain.now.sums.items ranks c.requires.chain.sums c.in_ok-ranks.ensures)
