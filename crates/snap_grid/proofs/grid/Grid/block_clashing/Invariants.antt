use Rattle.std.proofs.Common.{◌≡◌, ◌≤◌, ◌*◌, ◌-◌, min}
use Rattle.snap_grid.specs.inside.Clashes.{ClashesWith}
use Rattle.snap_grid.proofs.grid.Grid.block_clashing.Given as goal

abbrev pub invariant-loop-done : goal.invariant-loop-done
invariant-loop-done l = record {
  at : l.done ≡ min (l.block * 512) l.all;
  small : l.found ≤ l.done * 512;
  found : ClashesWith l.self l.from l.count 0 l.done (record { count = l.found; drops = l.drops; rows = l.rows });
}

abbrev pub decreases-loop-done : goal.decreases-loop-done
decreases-loop-done l = l.all - l.done
