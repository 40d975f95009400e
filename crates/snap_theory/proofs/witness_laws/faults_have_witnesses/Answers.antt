use Rattle.snap_theory.proofs.FaultWitnesses.{each_fault_has_witness}
use Rattle.snap_theory.proofs.witness_laws.faults_have_witnesses.Goals as goal

pub returns : goal.returns
returns c = each_fault_has_witness
