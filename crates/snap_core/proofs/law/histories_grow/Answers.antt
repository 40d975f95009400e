use Rattle.snap_core.proofs.Laws.{history_grows, history_grows_by}
use Rattle.snap_core.proofs.law.histories_grow.Goals as goal

pub returns : goal.returns
returns c = record { one = history_grows; any = history_grows_by }
