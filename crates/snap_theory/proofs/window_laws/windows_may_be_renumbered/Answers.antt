use Rattle.snap_theory.proofs.Sides.{sides_are_histories}
use Rattle.snap_theory.proofs.Windows.{regular_is_renumbered, monotone_is_renumbered, atomic_is_renumbered}
use Rattle.snap_theory.proofs.window_laws.windows_may_be_renumbered.Goals as goal

pub returns-clause-histories : goal.returns-clause-histories
returns-clause-histories c = sides_are_histories

pub returns-clause-regular : goal.returns-clause-regular
returns-clause-regular c = regular_is_renumbered

pub returns-clause-monotone : goal.returns-clause-monotone
returns-clause-monotone c = monotone_is_renumbered

pub returns-clause-atomic : goal.returns-clause-atomic
returns-clause-atomic c = atomic_is_renumbered
