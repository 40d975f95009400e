use Rattle.std.proofs.lemmas.Result.{IfOk-weaker}
use Rattle.snap_tally.proofs.Faultless.{of_all_views}
use Rattle.snap_tally.proofs.whole.tally_by.Goals as goal

pub returns : goal.returns
returns g c = IfOk-weaker c.tally_by_grid.result _ _ (λ t is. of_all_views c.args.index.now c.args.grid c.view_count.result t c.requires c.view_count.ensures is) c.tally_by_grid.ensures
