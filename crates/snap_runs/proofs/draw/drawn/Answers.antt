use Rattle.std.proofs.Common.{IfOk, subst}
use Rattle.snap_core.specs.Bounded.{IsHistoryBy}
use Rattle.snap_core.specs.declared.writers.Writers.{Writers}
use Rattle.snap_runs.specs.Drawing.{DrawsHistory}
use Rattle.snap_runs.proofs.draw.drawn.Goals as goal

pub returns : goal.returns
returns g c =
    subst (λ es. IfOk c.drawn_by.result (λ answer. (writers : Writers) → IsHistoryBy writers es → DrawsHistory (g.M.Markup.draws c.args.markup.now) g.M.Markup.holds (g.M.Markup.says c.args.markup.now) g.M.Markup.writes writers es c.args.numbering.records.now c.args.numbering.sources.now answer.0 answer.1.items)) c.in_ok-index.ensures c.drawn_by.ensures
