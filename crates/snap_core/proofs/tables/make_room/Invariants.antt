use Rattle.std.proofs.Common.{◌≡◌, ◌+◌, ◌-◌, ℕ, slice_index_or, vec_len, None}
use Rattle.snap_core.proofs.tables.make_room.Given as goal

abbrev pub invariant-loop-table : goal.invariant-loop-table
invariant-loop-table g l = (i : ℕ) → slice_index_or l.table.items i None ≡ slice_index_or l.fn.table.items i None

abbrev pub decreases-loop-table : goal.decreases-loop-table
decreases-loop-table g l = l.place + 1 - vec_len l.table
