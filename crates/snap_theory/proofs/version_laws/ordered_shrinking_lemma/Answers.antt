use Rattle.snap_theory.proofs.OrderLaws.{ordered_prints_legal_order, legal_in_order_has_no_fault, atomic_in_order_exactly}
use Rattle.snap_theory.proofs.version_laws.ordered_shrinking_lemma.Goals as goal

pub returns-clause-printed : goal.returns-clause-printed
returns-clause-printed c = ordered_prints_legal_order

pub returns-clause-no_fault : goal.returns-clause-no_fault
returns-clause-no_fault c = legal_in_order_has_no_fault

pub returns-clause-atomic : goal.returns-clause-atomic
returns-clause-atomic c = atomic_in_order_exactly
