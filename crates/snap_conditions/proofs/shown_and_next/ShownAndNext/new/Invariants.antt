use Rattle.std.proofs.Common.{◌≡◌, ◌<◌, ◌≤◌, ℕ, length, get_or}
use Rattle.snap_core.specs.Calls.{calls_of}
use Rattle.snap_conditions.specs.inside.Places.{end_of}
use Rattle.snap_views.specs.Seen.{end_or_never}
use Rattle.snap_theory.specs.Updates.{update_of}
use Rattle.snap_conditions.proofs.shown_and_next.ShownAndNext.new.Given as goal

abbrev pub invariant-loop-k : goal.invariant-loop-k
invariant-loop-k g l = record {
  size : length l.ends ≡ 256;
  ends : (q : ℕ) → q < l.k → get_or l.ends q 0 ≡ end_or_never (end_of (update_of (calls_of l.index) q 1));
  never : (q : ℕ) → l.k ≤ q → q < 256 → get_or l.ends q 0 ≡ 4294967295;
}
