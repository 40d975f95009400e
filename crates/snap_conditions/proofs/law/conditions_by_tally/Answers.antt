use Rattle.snap_conditions.proofs.Ranges.{conditions_by_tally, no_fault_by_tally}
use Rattle.snap_conditions.proofs.law.conditions_by_tally.Goals as goal

pub returns-clause-conditions : goal.returns-clause-conditions
returns-clause-conditions c = conditions_by_tally

pub returns-clause-faults : goal.returns-clause-faults
returns-clause-faults c = no_fault_by_tally
