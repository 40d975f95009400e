use Rattle.std.proofs.Common.{◌<◌, ◌+◌, ℕ}
use Rattle.std.specs.Prelude.{slice_index}
use Rattle.snap_format.specs.Stamps.{stamps_of}
use Rattle.snap_format.proofs.repeats.are_rising.Given as goal

abbrev pub invariant-loop-i : goal.invariant-loop-i
invariant-loop-i l = (k : ℕ) → k + 1 < l.i → slice_index (stamps_of l.stamped) k < slice_index (stamps_of l.stamped) (k + 1)
