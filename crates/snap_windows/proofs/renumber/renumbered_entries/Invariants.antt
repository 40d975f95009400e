use Rattle.std.proofs.Common.{◌≡◌, ℕ, Option, take}
use Rattle.snap_core.specs.declared.entry.Entry.{Entry}
use Rattle.snap_theory.specs.Renumbered.{renumbered_entries}
use Rattle.snap_windows.specs.Last.{HasLeft}
use Rattle.snap_windows.proofs.renumber.renumbered_entries.Given as goal

abbrev pub invariant-each : goal.invariant-each
invariant-each l = (f : ℕ → Option Entry) → HasLeft l.left f → l.found.items ≡ renumbered_entries f (take l.entry-index l.entries)
