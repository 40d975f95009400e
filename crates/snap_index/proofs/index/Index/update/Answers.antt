use Rattle.std.proofs.Common.{sym, ◌∙◌}
use Rattle.snap_core.specs.Calls.{is_update_numbered}
use Rattle.snap_index.proofs.LookUps.{call_of_update}
use Rattle.snap_index.proofs.index.Index.update.Goals as goal

pub returns : goal.returns
returns g c = c.call.ensures ∙ call_of_update c.args.self.now (is_update_numbered c.args.k c.args.n) c.in_ok-c.c (sym c.update_call.ensures ∙ c.in_ok-c.was)
