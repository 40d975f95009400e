use Rattle.snap_explain.proofs.FirstFaults.{place_fits}
use Rattle.snap_explain.proofs.first_faults.tally_at.Goals as goal

pub overflow_add-place : goal.overflow_add-place
overflow_add-place g c = place_fits c.args.index.now c.event_count-events.ensures.ordered c.args.place c.requires

pub overflow_add-place-in-Integrity : goal.overflow_add-place-in-Integrity
overflow_add-place-in-Integrity g c = place_fits c.args.index.now c.event_count-events.ensures.ordered c.args.place c.requires
