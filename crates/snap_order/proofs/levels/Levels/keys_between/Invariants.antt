use Rattle.std.proofs.Common.{◌≡◌, ◌≤◌, vec_items}
use Rattle.snap_core.specs.Calls.{calls_of}
use Rattle.snap_order.specs.inside.Blocks.{keys_between}
use Rattle.snap_order.proofs.levels.Levels.keys_between.Given as goal

abbrev pub invariant-loop-number : goal.invariant-loop-number
invariant-loop-number g l = record {
  low : l.from ≤ l.number;
  high : l.number ≤ l.to;
  keys : vec_items l.keys ≡ keys_between (calls_of l.self) l.from l.number;
}
