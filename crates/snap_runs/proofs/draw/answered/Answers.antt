use Rattle.std.proofs.Common.{[], rules, subst}
use Rattle.snap_core.specs.Bounded.{IsHistoryBy}
use Rattle.snap_runs.specs.Drawing.{DrawsHistory}
use Rattle.snap_runs.proofs.draw.answered.Goals as goal

pub returns-clause-answer : goal.returns-clause-answer
returns-clause-answer g c = λ writers history. (
  search rules,
  subst (λ es. IsHistoryBy writers es → DrawsHistory (g.M.Markup.draws c.args.markup.now) g.M.Markup.holds (g.M.Markup.says c.args.markup.now) g.M.Markup.writes writers es c.args.records.now [] c.in_ok-status.status c.in_ok-status.text.items) c.in_ok-index.ensures (c.in_ok-status.ensures writers) history,
)
