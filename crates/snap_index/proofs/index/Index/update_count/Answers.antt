use Rattle.std.proofs.Common.{length, ap, ◌∙◌, arith}
use Rattle.snap_core.specs.Calls.{calls_of}
use Rattle.snap_index.proofs.IndexedCalls.{word_fits}
use Rattle.snap_index.proofs.LookUps.{row_is, row_few}
use Rattle.snap_index.proofs.index.Index.update_count.Goals as goal

pub overflow_cast-result : goal.overflow_cast-result
overflow_cast-result g c =
    let size = ap length c.updates.ensures.updates in
    word_fits _ (omega (arith, size, row_few c.args.self.now c.updates.ensures.ordered c.args.k))

pub returns : goal.returns
returns g c = ap length c.updates.ensures.updates ∙ row_is c.args.k (calls_of c.args.self.now)
