use Rattle.std.proofs.Common.{◌≡◌, ◌<◌, ℕ, get_or, None, false}
use Rattle.snap_core.specs.Calls.{is_before}
use Rattle.snap_versions.proofs.times.end_before_begin.Given as goal

abbrev pub invariant-loop-i : goal.invariant-loop-i
invariant-loop-i l = (k : ℕ) → k < l.i → is_before (get_or l.ends k None) (get_or l.begins k 0) ≡ false
