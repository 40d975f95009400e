-- The laws, put together.
use Rattle.snap_core.proofs.OrderedPushes.{history_by_push, history_by_back}
use Rattle.snap_core.proofs.Pushes.{history_push, history_back}
use Rattle.snap_core.specs.Laws.{HistoryGrows, HistoryGrowsBy}

pub history_grows : HistoryGrows
history_grows es e = (λ h. history_push es e h.0 h.1, history_back es e)

pub history_grows_by : HistoryGrowsBy
history_grows_by writers es e = (λ h. history_by_push writers es e h.0 h.1, history_by_back writers es e)
