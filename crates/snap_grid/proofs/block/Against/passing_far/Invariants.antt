use Rattle.std.proofs.Common.{◌≡◌, not, take}
use Rattle.std.specs.Prelude.{true, false}
use Rattle.snap_grid.specs.inside.Facing.{faces}
use Rattle.snap_masks.specs.Masks.{mask_below}
use Rattle.snap_grid.proofs.block.Against.passing_far.Given as goal

abbrev pub invariant-loop-j : goal.invariant-loop-j
invariant-loop-j l = record {
  at_most : l.at_most ≡ mask_below (λ a. not (faces true l.self.more l.self.near.items (take l.j l.self.far.items) a l.row)) l.self.ours;
  less : l.less ≡ mask_below (λ a. faces false l.self.less l.self.near.items (take l.j l.self.far.items) a l.row) l.self.ours;
}
