use Rattle.snap_theory.proofs.GoingOn.{histories_join}
use Rattle.snap_theory.proofs.Joined.{regular_joins, monotone_joins, atomic_joins}
use Rattle.snap_theory.proofs.window_laws.windows_join.Goals as goal

pub returns-clause-histories : goal.returns-clause-histories
returns-clause-histories c = histories_join

pub returns-clause-regular : goal.returns-clause-regular
returns-clause-regular c = regular_joins

pub returns-clause-monotone : goal.returns-clause-monotone
returns-clause-monotone c = monotone_joins

pub returns-clause-atomic : goal.returns-clause-atomic
returns-clause-atomic c = atomic_joins
