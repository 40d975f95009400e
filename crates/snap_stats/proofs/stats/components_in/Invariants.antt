use Rattle.std.proofs.Common.{◌≡◌}
use Rattle.snap_core.specs.Calls.{calls_of}
use Rattle.snap_stats.proofs.Components.{components_below}
use Rattle.snap_stats.proofs.stats.components_in.Given as goal

abbrev pub invariant-loop-k : goal.invariant-loop-k
invariant-loop-k g l = l.components.items ≡ components_below (calls_of l.index) l.k
