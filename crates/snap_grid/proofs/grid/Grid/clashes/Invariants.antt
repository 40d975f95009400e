use Rattle.std.proofs.Common.{◌≡◌, ◌≤◌, ◌*◌, ◌-◌}
use Rattle.std.specs.Prelude.{find, sum_by}
use Rattle.std.specs.List.{range_with_len}
use Rattle.snap_grid.specs.Columns.{clash_count, drop_count, has_clash}
use Rattle.snap_grid.proofs.grid.Grid.clashes.Given as goal
use Rattle.snap_masks.specs.Limits.{row_limit}

abbrev pub invariant-loop-start : goal.invariant-loop-start
invariant-loop-start l = record {
  behind : l.from ≤ l.start;
  within : l.start ≤ l.to;
  small : l.count ≤ (l.start - l.from) * row_limit;
  few_drops : l.drops ≤ (l.start - l.from) * row_limit;
  counted : l.count ≡ sum_by (clash_count l.self) (range_with_len l.from (l.start - l.from));
  dropped : l.drops ≡ sum_by (drop_count l.self) (range_with_len l.from (l.start - l.from));
  found : l.first ≡ find (has_clash l.self) (range_with_len l.from (l.start - l.from));
}

abbrev pub decreases-loop-start : goal.decreases-loop-start
decreases-loop-start l = l.to - l.start
