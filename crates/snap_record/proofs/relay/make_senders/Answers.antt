use Rattle.snap_record.proofs.Delivering.{forks_as}
use Rattle.snap_record.proofs.relay.make_senders.Goals as goal

pub another-theirs-requires-clause-rule : goal.another-theirs-requires-clause-rule
another-theirs-requires-clause-rule c = forks_as _ _ _ _ _ c.places.invariant.role
