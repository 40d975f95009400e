use Rattle.snap_record.proofs.Delivering.{begins}
use Rattle.snap_record.proofs.relay.Relay.start.Goals as goal

pub with_rule-requires : goal.with_rule-requires
with_rule-requires g c = begins
