use Rattle.snap_theory.proofs.Rising.{updates_are_alone}
use Rattle.snap_theory.proofs.fault_laws.updates_are_alone.Goals as goal

pub returns : goal.returns
returns c = updates_are_alone
