use Rattle.std.proofs.Common.{rules}
use Rattle.snap_core.proofs.tables.ends.Goals as goal

pub returns-in-EndView : goal.returns-in-EndView
returns-in-EndView c = search rules
