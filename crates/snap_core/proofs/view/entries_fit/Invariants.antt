use Rattle.std.proofs.Common.{ℕ, ◌<◌, get_or}
use Rattle.snap_core.specs.declared.entry.Entry.{Entry}
use Rattle.snap_core.specs.Entries.{EntryFits}
use Rattle.snap_core.proofs.view.entries_fit.Given as goal

abbrev pub invariant-loop-e : goal.invariant-loop-e
invariant-loop-e l = (k : ℕ) (d : Entry) → k < l.e-index → EntryFits (get_or l.entries k d)
