use Rattle.std.proofs.Common.{◌∙◌, arith}
use Rattle.snap_masks.proofs.Lanes.{zip_small, zip_number, and_bitwise}
use Rattle.std.proofs.lemmas.Simd.{length-zip2}
use Rattle.std.specs.Prelude.{bit_and}
use Rattle.snap_masks.proofs.mask.Mask.and.Goals as goal

pub invariant_of-result : goal.invariant_of-result
invariant_of-result c = record {
  count = length-zip2 bit_and c.self.inside.lanes c.other.inside.lanes (omega (arith, c.self.invariant.count, c.other.invariant.count)) ∙ c.self.invariant.count;
  small = zip_small _ _ and_bitwise c.self.inside.lanes c.other.inside.lanes c.self.invariant.small c.other.invariant.small;
}

pub returns : goal.returns
returns c =
    rw (← c.self.view_is, ← c.other.view_is) (zip_number _ _ and_bitwise c.self.inside.lanes c.other.inside.lanes (omega (arith, c.self.invariant.count, c.other.invariant.count)) c.self.invariant.small c.other.invariant.small)
