use Rattle.std.proofs.Common.{rules}
use Rattle.snap_core.proofs.view.View.number.Goals as goal

pub returns-in-Some : goal.returns-in-Some
returns-in-Some c = search rules
