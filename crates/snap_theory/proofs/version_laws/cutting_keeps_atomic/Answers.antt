use Rattle.snap_theory.proofs.CutCalls.{cut_calls_are_in_order, cutting_keeps_atomic, nothing_left_is_not_atomic}
use Rattle.snap_theory.proofs.version_laws.cutting_keeps_atomic.Goals as goal

pub returns-clause-atomic : goal.returns-clause-atomic
returns-clause-atomic c = cutting_keeps_atomic

pub returns-clause-nothing_left : goal.returns-clause-nothing_left
returns-clause-nothing_left c = nothing_left_is_not_atomic

pub returns-clause-in_order : goal.returns-clause-in_order
returns-clause-in_order c = cut_calls_are_in_order
