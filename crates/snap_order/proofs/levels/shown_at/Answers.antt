use Rattle.std.proofs.Common.{ap, ◌∙◌}
use Rattle.snap_core.specs.Entries.{entry_of, number_in}
use Rattle.snap_core.specs.Calls.{calls_of, shown, shown_number}
use Rattle.snap_order.proofs.Places.{read_view, no_view}
use Rattle.snap_order.proofs.levels.shown_at.Goals as goal

pub returns-in-Some : goal.returns-in-Some
unfolding shown_number shown
returns-in-Some g c = c.number.ensures ∙ ap (λ es. number_in (entry_of c.args.component es)) (read_view (calls_of c.args.index.now) c.args.place c.in-Some.view.now c.in-Some.ensures)

pub returns-in-None : goal.returns-in-None
unfolding shown_number shown
returns-in-None g c = ap (λ es. number_in (entry_of c.args.component es)) (no_view (calls_of c.args.index.now) c.args.place c.in-None.ensures)
