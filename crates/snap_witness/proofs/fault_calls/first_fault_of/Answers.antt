use Rattle.snap_witness.proofs.Reported.{is_named}
use Rattle.snap_witness.proofs.fault_calls.first_fault_of.Goals as goal

pub returns-clause-named : goal.returns-clause-named
returns-clause-named g c = is_named c.args.index.now c.event_count-events.ensures.ordered c.args.tally.now c.requires c.args.kind c.first.result c.first.ensures
