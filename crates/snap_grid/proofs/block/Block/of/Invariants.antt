use Rattle.std.proofs.Common.{◌≡◌, ◌<◌, ℕ, [], length, take, drop, get_or}
use Rattle.snap_grid.proofs.block.Block.of.Given as goal

abbrev pub invariant-loop-j : goal.invariant-loop-j
invariant-loop-j l = record {
  size : length l.masks.items ≡ l.j;
  masked : (j : ℕ) → j < l.j → get_or l.masks.items j [] ≡ take l.count (drop l.from (get_or l.columns j []));
}
