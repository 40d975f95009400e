use Rattle.std.proofs.Common.{sym, ap, ◌∙◌}
use Rattle.snap_core.specs.Calls.{calls_of}
use Rattle.snap_views.specs.Quick.{entry_sum}
use Rattle.snap_views.specs.Seen.{view_in}
use Rattle.snap_views.proofs.EntrySums.{sum_is}
use Rattle.snap_views.proofs.quick_test.view_sum.Goals as goal

pub returns : goal.returns
returns g c = c.entries_sum.ensures ∙ ap entry_sum c.view_at.ensures.entries ∙ sym (sum_is (view_in (calls_of c.args.index.now) c.args.i) c.view_at.ensures.shape)
