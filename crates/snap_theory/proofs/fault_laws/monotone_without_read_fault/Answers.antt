use Rattle.snap_theory.proofs.StaleViews.{monotone_without_read_fault}
use Rattle.snap_theory.proofs.fault_laws.monotone_without_read_fault.Goals as goal

pub returns : goal.returns
returns c = monotone_without_read_fault
