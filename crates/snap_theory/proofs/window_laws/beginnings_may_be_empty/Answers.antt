use Rattle.snap_theory.proofs.Empty.{regular_from_nothing, atomic_from_nothing}
use Rattle.snap_theory.proofs.window_laws.beginnings_may_be_empty.Goals as goal

pub returns-clause-regular : goal.returns-clause-regular
returns-clause-regular c = regular_from_nothing

pub returns-clause-atomic : goal.returns-clause-atomic
returns-clause-atomic c = atomic_from_nothing
