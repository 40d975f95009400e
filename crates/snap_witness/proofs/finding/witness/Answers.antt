use Rattle.std.proofs.lemmas.Result.{IfOk-weaker}
use Rattle.snap_theory.specs.FaultWitnesses.{fault_witness}
use Rattle.snap_witness.proofs.Answered.{each, whole_calls, few_calls, few_events, has_first, is_not_atomic, is_regular, none_exactly}
use Rattle.snap_witness.proofs.finding.witness.Goals as goal

pub returns-clause-none : goal.returns-clause-none
returns-clause-none g c = IfOk-weaker c.first_witness.result _ _ (none_exactly g.O.Ownership.writers c.args.index.now c.event_count-events.ensures.kept (λ h. h.events) (fault_witness c.args.index.now)) c.first_witness.ensures

pub returns-clause-calls : goal.returns-clause-calls
returns-clause-calls g c = IfOk-weaker c.first_witness.result _ _ (each c.args.index.now c.event_count-events.ensures.ordered _ (whole_calls c.args.index.now)) c.first_witness.ensures

pub returns-clause-few_calls : goal.returns-clause-few_calls
returns-clause-few_calls g c = IfOk-weaker c.first_witness.result _ _ (each c.args.index.now c.event_count-events.ensures.ordered _ (few_calls c.args.index.now)) c.first_witness.ensures

pub returns-clause-few_events : goal.returns-clause-few_events
returns-clause-few_events g c = IfOk-weaker c.first_witness.result _ _ (each c.args.index.now c.event_count-events.ensures.ordered _ (few_events c.args.index.now)) c.first_witness.ensures

pub returns-clause-fault : goal.returns-clause-fault
returns-clause-fault g c = IfOk-weaker c.first_witness.result _ _ (each c.args.index.now c.event_count-events.ensures.ordered _ (has_first c.args.index.now)) c.first_witness.ensures

pub returns-clause-not_atomic : goal.returns-clause-not_atomic
returns-clause-not_atomic g c = IfOk-weaker c.first_witness.result _ _ (each c.args.index.now c.event_count-events.ensures.ordered _ (is_not_atomic c.args.index.now)) c.first_witness.ensures

pub returns-clause-regular : goal.returns-clause-regular
returns-clause-regular g c = IfOk-weaker c.first_witness.result _ _ (each c.args.index.now c.event_count-events.ensures.ordered _ (is_regular c.args.index.now c.event_count-events.ensures.ordered)) c.first_witness.ensures
