use Rattle.std.proofs.Common.{◌≤◌, ◌*◌}
use Rattle.snap_grid.specs.inside.Clashes.{ClashesWith}
use Rattle.snap_grid.proofs.grid.Grid.clashing.Given as goal

abbrev pub invariant-loop-i : goal.invariant-loop-i
invariant-loop-i l = record {
  small : l.found ≤ l.i * 512;
  found : ClashesWith l.self l.ours.from l.ours.count (l.block * 512) l.i (record { count = l.found; drops = l.drops; rows = l.rows });
}
