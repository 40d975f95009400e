use Rattle.std.proofs.Common.{◌≡◌, ◌||◌, ◌&&◌, not, drop}
use Rattle.snap_core.specs.Entries.{has_zero, rises}
use Rattle.snap_core.proofs.Rising.{rises_above}
use Rattle.snap_core.proofs.view.refusal_of.Given as goal

abbrev pub invariant-loop-entry : goal.invariant-loop-entry
invariant-loop-entry l = record {
  rising : rises l.entries ≡ (not l.falls && rises_above l.least (drop l.entry-index l.entries));
  zeros : has_zero l.entries ≡ (l.has_zero || has_zero (drop l.entry-index l.entries));
}
