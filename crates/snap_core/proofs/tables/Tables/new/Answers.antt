use Rattle.snap_core.proofs.Recalled.{none_recalled}
use Rattle.snap_core.proofs.tables.Tables.new.Goals as goal

pub returns : goal.returns
returns c = λ writers. none_recalled writers _ c.new.ensures.items c.new-2.ensures.items
