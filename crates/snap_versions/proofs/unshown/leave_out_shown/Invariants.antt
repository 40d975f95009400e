use Rattle.std.proofs.Common.{◌≡◌, ◌&&◌, ℕ, not, take}
use Rattle.snap_versions.specs.inside.Listed.{calls_listed}
use Rattle.snap_versions.specs.inside.Unshown.{is_shown}
use Rattle.snap_versions.specs.inside.Versions.{has_version, versions_in}
use Rattle.snap_versions.proofs.unshown.leave_out_shown.Given as goal

abbrev pub invariant-loop-call : goal.invariant-loop-call
invariant-loop-call l = (k n : ℕ) → has_version (versions_in l.versions k) n ≡ (has_version (versions_in l.initial.versions k) n && not (is_shown (calls_listed (take l.call-index l.calls)) k n))
