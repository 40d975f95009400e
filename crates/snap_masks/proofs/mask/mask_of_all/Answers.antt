use Rattle.std.proofs.Common.{ap, ◌∙◌}
use Rattle.std.specs.Prelude.{bit_or, ◌^◌}
use Rattle.snap_masks.proofs.Bits.{all_set}
use Rattle.snap_masks.proofs.mask.mask_of_all.Goals as goal

pub loop-row-preserved : goal.loop-row-preserved
loop-row-preserved c = c.set.ensures ∙ ap (λ m. bit_or m (2 ^ c.loop-row.row)) c.loop-row.invariant ∙ all_set c.loop-row.row
