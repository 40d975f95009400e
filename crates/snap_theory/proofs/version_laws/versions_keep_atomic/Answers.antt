use Rattle.snap_theory.proofs.Versioned.{contradiction_is_not_atomic, versions_are_ordered, versions_keep_atomic}
use Rattle.snap_theory.proofs.version_laws.versions_keep_atomic.Goals as goal

pub returns-clause-atomic : goal.returns-clause-atomic
returns-clause-atomic c = versions_keep_atomic

pub returns-clause-ordered : goal.returns-clause-ordered
returns-clause-ordered c = versions_are_ordered

pub returns-clause-contradiction : goal.returns-clause-contradiction
returns-clause-contradiction c = contradiction_is_not_atomic
