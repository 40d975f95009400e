use Rattle.std.proofs.Common.{◌≤◌, ◌<◌, ℕ, get_or}
use Rattle.snap_conditions.proofs.shown_and_next.earliest_of.Given as goal

abbrev pub invariant-loop-place : goal.invariant-loop-place
invariant-loop-place l = record {
  places : (k : ℕ) → k < l.place-index → l.earliest ≤ get_or l.places k 0;
  never : l.earliest ≤ 4294967295;
}
