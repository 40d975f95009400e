use Rattle.std.proofs.Common.{◌≡◌, ◌<◌, ◌+◌, ◌*◌, ◌-◌, ℕ, false}
use Rattle.snap_grid.specs.Columns.{clashes}
use Rattle.snap_grid.proofs.grid.Grid.first_clash.Given as goal

abbrev pub invariant-loop-block : goal.invariant-loop-block
invariant-loop-block l = record {
  within : l.block * 512 < l.rows + 512;
  none : (b : ℕ) → b < l.block * 512 → b < l.rows → clashes l.self l.row b ≡ false;
}

abbrev pub decreases-loop-block : goal.decreases-loop-block
decreases-loop-block l = l.rows - l.block * 512
