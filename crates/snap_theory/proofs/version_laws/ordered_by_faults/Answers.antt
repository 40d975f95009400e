use Rattle.snap_theory.proofs.FaultLaws.{ordered_conditions_exactly, ordered_regular_exactly}
use Rattle.snap_theory.proofs.OrderLaws.{atomic_in_order_is_monotone}
use Rattle.snap_theory.proofs.version_laws.ordered_by_faults.Goals as goal

pub returns-clause-conditions : goal.returns-clause-conditions
returns-clause-conditions c = ordered_conditions_exactly

pub returns-clause-regular : goal.returns-clause-regular
returns-clause-regular c = ordered_regular_exactly

pub returns-clause-monotone : goal.returns-clause-monotone
returns-clause-monotone c = atomic_in_order_is_monotone
