use Rattle.std.proofs.Common.{◌≡◌, ◌<◌, ℕ, length, get_or}
use Rattle.snap_masks.specs.Ranks.{IsRank}
use Rattle.snap_masks.proofs.ranked.ranks_of.Given as goal

abbrev pub invariant-loop-i : goal.invariant-loop-i
invariant-loop-i l = record {
  size : length l.ranks.items ≡ l.i;
  each : (a : ℕ) → a < l.i → IsRank l.distinct (get_or l.numbers a 0) (get_or l.ranks.items a 0);
}
