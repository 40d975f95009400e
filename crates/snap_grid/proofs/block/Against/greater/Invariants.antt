use Rattle.std.proofs.Common.{◌≡◌, ◌≤◌, ◌-◌, ◌||◌, length, not, take}
use Rattle.std.specs.Prelude.{true}
use Rattle.snap_grid.specs.inside.Facing.{any_faces}
use Rattle.snap_masks.specs.Masks.{mask_below}
use Rattle.snap_grid.proofs.block.Against.greater.Given as goal

abbrev pub invariant-loop-done : goal.invariant-loop-done
invariant-loop-done l = record {
  within : l.done ≤ length l.self.near.items;
  at_most : l.at_most ≡ mask_below (λ a. not (l.self.more || any_faces true (take l.done l.self.near.items) a l.row)) l.self.ours;
}

abbrev pub decreases-loop-done : goal.decreases-loop-done
decreases-loop-done l = length l.self.near.items - l.done

abbrev pub invariant-loop-j : goal.invariant-loop-j
invariant-loop-j l = record {
  at_most : l.at_most ≡ mask_below (λ a. not (l.self.more || any_faces true (take l.j l.self.near.items) a l.row)) l.self.ours;
}
