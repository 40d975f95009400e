use Rattle.std.proofs.Common.{◌≡◌, ◌<◌, ◌≤◌, ℕ, [], get_or, length}
use Rattle.snap_core.specs.Calls.{calls_of}
use Rattle.snap_tally.specs.Grids.{AreColumnsOf}
use Rattle.snap_tally.specs.inside.NumberTables.{IsRowOf}
use Rattle.snap_tally.proofs.columns.columns_between.Given as goal

abbrev pub invariant-loop-k : goal.invariant-loop-k
invariant-loop-k g l = record {
  size : length l.table ≡ 256;
  columns : AreColumnsOf (calls_of l.index) l.from l.k l.columns.items;
  left : (j : ℕ) → l.k ≤ j → j < l.to → IsRowOf (calls_of l.index) j (get_or l.table j []);
}
