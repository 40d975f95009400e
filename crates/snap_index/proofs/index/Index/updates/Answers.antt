use Rattle.std.proofs.Common.{◌∙◌, arith}
use Rattle.snap_index.proofs.LookUps.{seen}
use Rattle.snap_index.proofs.index.Index.updates.Goals as goal

pub returns : goal.returns
returns g c =
    let i = seen _ _ _ _ _ _ c.self.view_is c.self.invariant in
    record { updates = c.of.ensures ∙ i.tables.of_updates c.args.k (omega arith); kept = c.events-events.ensures.kept; ordered = c.events-events.ensures.ordered }
