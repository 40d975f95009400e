use Rattle.std.proofs.Common.{◌≡◌, ◌≤◌, length, vec_items, vec_len}
use Rattle.snap_core.specs.Calls.{calls_of}
use Rattle.snap_order.specs.inside.Blocks.{AreBlocks, block_start, keys_between}
use Rattle.snap_order.proofs.levels.Levels.joined.Given as goal

abbrev pub invariant-loop-part : goal.invariant-loop-part
invariant-loop-part g l = record {
  few : length (vec_items l.parts) ≤ l.fn.blocks;
  parts : AreBlocks (calls_of l.self) l.fn.blocks (vec_items l.parts);
  keys : vec_items l.all ≡ keys_between (calls_of l.self) (block_start l.fn.blocks (length (vec_items l.parts)) (length (calls_of l.self))) (length (calls_of l.self));
}

abbrev pub decreases-loop-part : goal.decreases-loop-part
decreases-loop-part g l = vec_len l.parts
