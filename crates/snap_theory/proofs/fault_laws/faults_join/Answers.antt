use Rattle.snap_theory.proofs.Components.{faults_join, read_fault_has_component}
use Rattle.snap_theory.proofs.fault_laws.faults_join.Goals as goal

pub returns-clause-join : goal.returns-clause-join
returns-clause-join c = faults_join

pub returns-clause-component : goal.returns-clause-component
returns-clause-component c = read_fault_has_component
