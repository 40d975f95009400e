use Rattle.snap_theory.proofs.FaultWitnesses.{ordered_fault_has_witness, atomic_in_order_without_witness}
use Rattle.snap_theory.proofs.Histories.{ordered_choice_keeps_calls}
use Rattle.snap_theory.proofs.version_laws.ordered_faults_have_witnesses.Goals as goal

pub returns-clause-calls : goal.returns-clause-calls
returns-clause-calls c = ordered_choice_keeps_calls

pub returns-clause-each : goal.returns-clause-each
returns-clause-each c = ordered_fault_has_witness

pub returns-clause-atomic : goal.returns-clause-atomic
returns-clause-atomic c = atomic_in_order_without_witness
