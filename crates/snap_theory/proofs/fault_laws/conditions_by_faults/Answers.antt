use Rattle.snap_theory.proofs.FaultLaws.{conditions_exactly}
use Rattle.snap_theory.proofs.fault_laws.conditions_by_faults.Goals as goal

pub returns : goal.returns
returns c = conditions_exactly
