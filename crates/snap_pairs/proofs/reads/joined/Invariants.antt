use Rattle.std.proofs.Common.{◌≤◌, length, vec_items, vec_len}
use Rattle.snap_core.specs.Calls.{calls_of}
use Rattle.snap_tally.specs.Grids.{AreColumnsOf}
use Rattle.snap_pairs.specs.inside.Reads.{AreParts, part_start}
use Rattle.snap_pairs.proofs.reads.joined.Given as goal

abbrev pub invariant-loop-part : goal.invariant-loop-part
invariant-loop-part g l = record {
  few : length (vec_items l.parts) ≤ l.fn.cutting.workers;
  parts : AreParts (calls_of l.index) l.fn.cutting.workers (vec_items l.parts);
  columns : AreColumnsOf (calls_of l.index) (part_start l.fn.cutting.workers (length (vec_items l.parts))) 256 (vec_items l.all);
}

abbrev pub decreases-loop-part : goal.decreases-loop-part
decreases-loop-part g l = vec_len l.parts
