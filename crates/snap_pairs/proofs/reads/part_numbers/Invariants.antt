use Rattle.std.proofs.Common.{◌≡◌, ◌<◌, ℕ, length, get_or}
use Rattle.snap_pairs.proofs.reads.part_numbers.Given as goal

abbrev pub invariant-loop-part : goal.invariant-loop-part
invariant-loop-part l = record {
  count : length l.parts.items ≡ l.part;
  each : (i : ℕ) → i < l.part → get_or l.parts.items i 0 ≡ i;
}
