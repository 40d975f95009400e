use Rattle.std.proofs.Common.{◌≡◌, ◌≤◌, ◌-◌, length}
use Rattle.snap_index.specs.Rows.{rows}
use Rattle.snap_index.specs.inside.Tables.{padded}
use Rattle.snap_index.proofs.table.make_room.Given as goal

abbrev pub invariant-loop-alloc : goal.invariant-loop-alloc
invariant-loop-alloc g l = record {
  same : padded (rows l.table.items) ≡ padded (rows l.fn.table.items);
  limit : length l.table.items ≤ 256;
}

abbrev pub decreases-loop-alloc : goal.decreases-loop-alloc
decreases-loop-alloc g l = 256 - length l.table.items
