use Rattle.std.proofs.Common.{◌≡◌, ℕ, length, get_or}
use Rattle.snap_masks.proofs.masks.empty_masks.Given as goal

abbrev pub invariant-loop-mask : goal.invariant-loop-mask
invariant-loop-mask l = record {
  size : length l.masks.items ≡ l._mask;
  empty : (x : ℕ) → get_or l.masks.items x 0 ≡ 0;
}
