use Rattle.snap_theory.proofs.Rising.{faults_rise_always}
use Rattle.snap_theory.proofs.fault_laws.faults_rise.Goals as goal

pub returns : goal.returns
returns c = faults_rise_always
