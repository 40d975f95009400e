use Rattle.std.proofs.Common.{◌≤◌, length}
use Rattle.snap_grid.specs.inside.Kinds.{AreKinds}
use Rattle.snap_grid.proofs.kinds.Kinds.of.Given as goal

abbrev pub invariant-loop-row : goal.invariant-loop-row
invariant-loop-row l = record {
  few : length l.kinds.items ≤ l.row;
  kinds : AreKinds l.columns l.from l.row l.kinds.items;
}
