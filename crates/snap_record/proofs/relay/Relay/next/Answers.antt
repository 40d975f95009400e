use Rattle.snap_record.proofs.Delivering.{pops_as}
use Rattle.snap_record.proofs.relay.Relay.next.Goals as goal

pub pop_as-requires-clause-rule : goal.pop_as-requires-clause-rule
pop_as-requires-clause-rule g c = (pops_as _ _ _ _ _ c.taker.invariant.role, λ items roles h at. tt)
