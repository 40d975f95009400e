use Rattle.snap_theory.proofs.FaultWitnesses.{atomic_without_witness}
use Rattle.snap_theory.proofs.witness_laws.atomic_without_witness.Goals as goal

pub returns : goal.returns
returns c = atomic_without_witness
