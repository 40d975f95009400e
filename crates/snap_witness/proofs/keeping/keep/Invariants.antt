use Rattle.std.proofs.Common.{◌≡◌, take}
use Rattle.snap_core.specs.UsualLimits.{greatest_limit}
use Rattle.snap_theory.specs.Kept.{kept_from, is_among}
use Rattle.snap_theory.specs.Witness.{numbers_of}
use Rattle.snap_witness.proofs.keeping.keep.Given as goal

abbrev pub invariant-loop-i : goal.invariant-loop-i
invariant-loop-i l = record {
  kept : l.history.events ≡ kept_from (is_among l.places) (numbers_of l.pairs) 0 (take l.i l.events);
  limit : l.history.limit ≡ greatest_limit;
}
