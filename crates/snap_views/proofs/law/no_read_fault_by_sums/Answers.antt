use Rattle.snap_views.proofs.Quick.{no_read_fault_exactly}
use Rattle.snap_views.proofs.law.no_read_fault_by_sums.Goals as goal

pub returns : goal.returns
returns c = no_read_fault_exactly
