use Rattle.std.proofs.Common.{◌≡◌, ◌+◌, ◌*◌, take}
use Rattle.std.specs.Prelude.{count_by}
use Rattle.std.specs.List.{list_any, range_with_len}
use Rattle.snap_grid.specs.inside.Kinds.{sum_of_kinds}
use Rattle.snap_masks.specs.Masks.{mask_below}
use Rattle.snap_grid.proofs.Kindred.{tells}
use Rattle.snap_grid.proofs.grid.Grid.kinds_clashing.Given as goal

abbrev pub invariant-loop-k : goal.invariant-loop-k
invariant-loop-k l = record {
  found : l.found ≡ sum_of_kinds (λ b. count_by (λ a. tells l.self.columns l.apart (l.ours.from + a) b) (range_with_len 0 l.ours.count)) (l.block * 512) (take l.k l.kinds);
  rows : l.rows ≡ mask_below (λ a. list_any (λ kind. tells l.self.columns l.apart (l.ours.from + a) (l.block * 512 + kind.row)) (take l.k l.kinds)) l.ours.count;
}
