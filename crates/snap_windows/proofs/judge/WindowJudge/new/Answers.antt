use Rattle.snap_windows.proofs.Nothing.{nothing_taken}
use Rattle.snap_windows.proofs.judge.WindowJudge.new.Goals as goal

pub returns-clause-taken : goal.returns-clause-taken
returns-clause-taken c = nothing_taken c.none.result c.none-2.result c.of_any.result _ c.none.ensures c.none-2.ensures c.of_any.ensures.events c.of_any.ensures.limit
