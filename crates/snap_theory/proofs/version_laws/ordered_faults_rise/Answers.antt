use Rattle.snap_theory.proofs.Rising.{ordered_faults_rise, ordered_updates_are_alone}
use Rattle.snap_theory.proofs.version_laws.ordered_faults_rise.Goals as goal

pub returns-clause-rise : goal.returns-clause-rise
returns-clause-rise c = ordered_faults_rise

pub returns-clause-alone : goal.returns-clause-alone
returns-clause-alone c = ordered_updates_are_alone
