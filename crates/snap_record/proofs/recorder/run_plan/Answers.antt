use Rattle.std.proofs.Common.{arith, ◌∙◌, ap, subst}
use Rattle.snap_record.specs.Plans.{AreWorkers}
use Rattle.snap_record.specs.Relays.{RelayView}
use Rattle.snap_record.proofs.Planning.{few_records}
use Rattle.snap_record.proofs.Running.{all_places, did_scripts}
use Rattle.snap_record.proofs.recorder.run_plan.Goals as goal

pub take_all-requires-clause-places : goal.take_all-requires-clause-places
take_all-requires-clause-places g c =
    all_places c.args.plan.now.scripts c.in_ok-relay.senders.items c.in_ok-relay.interfered c.in_ok-relay.relay.workers
    (ap (λ (r : RelayView). r.workers) c.in_ok-relay.ensures.relay ∙ c.in_ok-recorder.ensures.relay ∙ c.workers.ensures.workers) c.in_ok-relay.ensures.closed

pub returns-clause-workers : goal.returns-clause-workers
returns-clause-workers g c = subst AreWorkers c.workers.ensures.workers c.workers.ensures.range

pub returns-clause-did : goal.returns-clause-did
returns-clause-did g c =
    did_scripts c.in_ok-relay.relay.queue c.args.plan.now.scripts c.in_ok-relay.senders.items c.in_ok-all.all.items c.in_ok-relay.interfered c.in_ok-relay.relay.workers
    (ap (λ (r : RelayView). r.workers) c.in_ok-relay.ensures.relay ∙ c.in_ok-recorder.ensures.relay ∙ c.workers.ensures.workers) c.in_ok-relay.ensures.closed c.in_ok-all.ensures

pub returns-clause-few : goal.returns-clause-few
returns-clause-few g c = few_records c.args.plan.now.scripts c.in_ok-all.all.items c.in_ok-relay.interfered (returns-clause-did g c)
