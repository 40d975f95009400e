use Rattle.std.proofs.Common.{◌≡◌, true}
use Rattle.snap_masks.specs.Masks.{mask_below}
use Rattle.snap_masks.proofs.mask.mask_of_all.Given as goal

abbrev pub invariant-loop-row : goal.invariant-loop-row
invariant-loop-row l = l.mask ≡ mask_below (λ a. true) l.row
