use Rattle.std.proofs.Common.{◌≡◌, ◌<◌, ◌+◌, ℕ, count_by, get_or, take}
use Rattle.std.specs.Prelude.{◌==◌}
use Rattle.snap_core.specs.Entries.{component_count}
use Rattle.snap_stats.proofs.shown.count_components.Given as goal

abbrev pub invariant-loop-entry : goal.invariant-loop-entry
invariant-loop-entry l = (k : ℕ) → k < component_count → get_or l.counts k 0 ≡ get_or l.fn.counts k 0 + count_by (λ e. e.component == k) (take l.entry-index l.entries)
