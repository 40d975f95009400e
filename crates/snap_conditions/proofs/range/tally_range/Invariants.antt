use Rattle.std.proofs.Common.{◌≡◌}
use Rattle.snap_core.specs.Calls.{calls_of}
use Rattle.snap_conditions.specs.inside.ShownAndNext.{IsOfEntries}
use Rattle.snap_conditions.specs.Tally.{tally_of}
use Rattle.snap_views.specs.Seen.{views_between}
use Rattle.snap_conditions.proofs.range.tally_range.Given as goal

abbrev pub invariant-loop-place : goal.invariant-loop-place
invariant-loop-place g l = IsOfEntries (calls_of l.index) l.updates × (l.tally ≡ tally_of (calls_of l.index) (views_between (calls_of l.index) l.from l.place))
