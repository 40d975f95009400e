use Rattle.snap_theory.proofs.FaultLaws.{regular_exactly}
use Rattle.snap_theory.proofs.fault_laws.regular_by_local_faults.Goals as goal

pub returns : goal.returns
returns c = regular_exactly
