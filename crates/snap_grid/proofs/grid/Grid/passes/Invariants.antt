use Rattle.std.proofs.Common.{◌≡◌, false, take}
use Rattle.snap_grid.specs.Columns.{any_passes}
use Rattle.snap_grid.proofs.grid.Grid.passes.Given as goal

abbrev pub invariant-loop-j : goal.invariant-loop-j
invariant-loop-j l = any_passes l.more (take l.j l.self.columns) l.row l.other ≡ false
