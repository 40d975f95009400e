use Rattle.std.proofs.Common.{ap, ◌∙◌}
use Rattle.std.specs.Prelude.{is_some}
use Rattle.snap_core.specs.Calls.{calls_of, nobody}
use Rattle.snap_core.specs.Orders.{is_completed}
use Rattle.snap_index.specs.IndexedCalls.{as_indexed}
use Rattle.snap_index.specs.declared.call.Call.{Call}
use Rattle.snap_order.proofs.Places.{found, not_lost}
use Rattle.snap_order.proofs.checking.is_completed.Goals as goal

pub returns-in-Some : goal.returns-in-Some
unfolding is_completed
returns-in-Some c = c.is_some.ensures ∙ ap (λ (z : Call). is_some z.ended) (found as_indexed (calls_of c.args.index.now) c.args.number nobody c.in-Some.call.now c.requires c.in-Some.ensures)

pub returns-in-None : goal.returns-in-None
returns-in-None c = absurd (not_lost as_indexed (calls_of c.args.index.now) c.args.number nobody c.requires c.in-None.ensures)
