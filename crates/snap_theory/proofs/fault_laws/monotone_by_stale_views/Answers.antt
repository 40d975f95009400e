use Rattle.snap_theory.proofs.StaleViews.{monotone_exactly}
use Rattle.snap_theory.proofs.fault_laws.monotone_by_stale_views.Goals as goal

pub returns : goal.returns
returns c = monotone_exactly
