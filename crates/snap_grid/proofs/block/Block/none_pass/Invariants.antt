use Rattle.std.proofs.Common.{◌≡◌, ◌<◌, ◌≤◌, ◌+◌, ◌*◌, ℕ, false, take}
use Rattle.snap_grid.specs.Columns.{any_passes}
use Rattle.snap_grid.specs.inside.Kept.{HaveRows}
use Rattle.snap_grid.proofs.block.Block.none_pass.Given as goal

abbrev pub invariant-loop-j : goal.invariant-loop-j
invariant-loop-j l =
    (a s : ℕ) → a < l.self.count → l.block * 512 ≤ s → s < l.block * 512 + 512 → HaveRows l.self.columns.now (s + 1) → any_passes l.more (take l.j l.self.columns.now) (l.self.from + a) s ≡ false
