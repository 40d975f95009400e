use Rattle.snap_format.proofs.Exclusive.{apart}
use Rattle.snap_format.proofs.law.texts_have_no_fault.Goals as goal

pub returns : goal.returns
returns c = apart
