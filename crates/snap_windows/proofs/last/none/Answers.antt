use Rattle.std.proofs.Common.{refl}
use Rattle.snap_windows.proofs.Tables.{nothing_noted}
use Rattle.snap_windows.proofs.last.none.Goals as goal

pub returns : goal.returns
returns c = nothing_noted _ refl
