use Rattle.snap_format.proofs.Exclusive.{one_header}
use Rattle.snap_format.proofs.law.headers_differ.Goals as goal

pub returns : goal.returns
returns c = one_header
