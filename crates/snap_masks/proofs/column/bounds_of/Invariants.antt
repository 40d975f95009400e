use Rattle.std.proofs.Common.{◌≡◌, ◌<◌, ◌*◌, ◌-◌, ◌+◌, ℕ, length, get_or}
use Rattle.snap_masks.specs.declared.bounds.Bounds.{Bounds}
use Rattle.snap_masks.specs.Numbers.{IsBounded}
use Rattle.snap_masks.proofs.column.bounds_of.Given as goal

abbrev pub invariant-loop-start : goal.invariant-loop-start
invariant-loop-start l = record {
  at : l.start ≡ length l.bounds.items * 512;
  bounded : (block : ℕ) (b : Bounds) → block < length l.bounds.items → IsBounded l.numbers block (get_or l.bounds.items block b);
}

abbrev pub decreases-loop-start : goal.decreases-loop-start
decreases-loop-start l = length l.numbers + 512 - l.start
