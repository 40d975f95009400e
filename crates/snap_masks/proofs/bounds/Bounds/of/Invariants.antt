use Rattle.std.proofs.Common.{◌≤◌, ◌<◌, ℕ, get_or}
use Rattle.snap_masks.proofs.bounds.Bounds.of.Given as goal

abbrev pub invariant-loop-number : goal.invariant-loop-number
invariant-loop-number l = (i : ℕ) → i < l.number-index → (l.least ≤ get_or l.numbers i 0) × (get_or l.numbers i 0 ≤ l.greatest)
