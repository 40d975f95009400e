use Rattle.snap_core.proofs.Ordered.{history_is_ordered}
use Rattle.snap_theory.proofs.OrderLaws.{legal_orders_rise, atomic_is_in_order}
use Rattle.snap_theory.proofs.version_laws.histories_are_ordered.Goals as goal

pub returns-clause-ordered : goal.returns-clause-ordered
returns-clause-ordered c = history_is_ordered

pub returns-clause-rising : goal.returns-clause-rising
returns-clause-rising c = legal_orders_rise

pub returns-clause-atomic : goal.returns-clause-atomic
returns-clause-atomic c = atomic_is_in_order
