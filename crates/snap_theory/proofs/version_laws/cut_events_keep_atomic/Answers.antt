use Rattle.snap_theory.proofs.CutEvents.{cut_events_keep_atomic}
use Rattle.snap_theory.proofs.ToldOrders.{telling_keeps_atomic}
use Rattle.snap_theory.proofs.version_laws.cut_events_keep_atomic.Goals as goal

pub returns-clause-telling : goal.returns-clause-telling
returns-clause-telling c = telling_keeps_atomic

pub returns-clause-atomic : goal.returns-clause-atomic
returns-clause-atomic c = cut_events_keep_atomic
