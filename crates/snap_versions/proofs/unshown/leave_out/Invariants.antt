use Rattle.std.proofs.Common.{◌≡◌, ◌&&◌, ℕ, not, take}
use Rattle.snap_versions.specs.inside.Versions.{has_version, versions_in}
use Rattle.snap_versions.proofs.Showing.{lists_version}
use Rattle.snap_versions.proofs.unshown.leave_out.Given as goal

abbrev pub invariant-loop-entry : goal.invariant-loop-entry
invariant-loop-entry l = (k n : ℕ) → has_version (versions_in l.versions k) n ≡ (has_version (versions_in l.initial.versions k) n && not (lists_version (take l.entry-index l.entry-items) k n))
