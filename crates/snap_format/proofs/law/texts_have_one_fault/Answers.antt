use Rattle.snap_format.proofs.Exclusive.{fault_once}
use Rattle.snap_format.proofs.law.texts_have_one_fault.Goals as goal

pub returns : goal.returns
returns c = fault_once
