use Rattle.std.proofs.Common.{rules}
use Rattle.snap_index.proofs.index.Index.update_call.Goals as goal

pub returns-in_err-write : goal.returns-in_err-write
returns-in_err-write g c = search rules

pub returns : goal.returns
returns g c = search rules
