use Rattle.std.proofs.Common.{ℕ, ◌<◌, Option}
use Rattle.snap_core.specs.declared.entry.Entry.{Entry}
use Rattle.snap_windows.specs.Last.{HasLeft}
use Rattle.snap_windows.specs.Missed.{ShowsAt}
use Rattle.snap_windows.proofs.missed.missed.Given as goal

abbrev pub invariant-each : goal.invariant-each
invariant-each l = (f : ℕ → Option Entry) → HasLeft l.left f → (k : ℕ) → k < l.component → ShowsAt f l.view k
