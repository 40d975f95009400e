use Rattle.std.proofs.Common.{◌∙◌, refl, sym, subst}
use Rattle.snap_core.specs.Calls.{calls_of}
use Rattle.snap_views.specs.Orders.{IsFaultless}
use Rattle.snap_tally.proofs.Faultless.{faultless_tally, of_all_views}
use Rattle.snap_tally.proofs.whole.tally_and_chain_alone.Goals as goal

pub returns-in-Faultless-clause-tally : goal.returns-in-Faultless-clause-tally
returns-in-Faultless-clause-tally g c =
    let es = c.args.index.now in
    let views = c.view_count in
    of_all_views es es views.result _ refl views.ensures (c.tally_without_read-tally.ensures ∙ faultless_tally (calls_of es) 0 views.result (c.in_ok-chain.ensures.faultless.0 (subst IsFaultless (sym c.in-Faultless.is) tt)))
