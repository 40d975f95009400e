use Rattle.std.proofs.Common.{◌<◌, ◌≤◌, ◌-◌, length, slice_index_or}
use Rattle.snap_follow.specs.declared.waiting.Turn.{Turn}
use Rattle.snap_follow.proofs.waiting.Waiting.rank.Given as goal

abbrev pub invariant-loop-low : goal.invariant-loop-low
invariant-loop-low l = record {
  within : (l.low ≤ l.high) × (l.high ≤ length l.self.turns.items);
  goes : 0 < l.step;
  below : (d : Turn) → 0 < l.low → (slice_index_or l.self.turns.items (l.low - 1) d).at < l.at;
  above : (d : Turn) → l.high < length l.self.turns.items → l.at < (slice_index_or l.self.turns.items l.high d).at;
}

abbrev pub decreases-loop-low : goal.decreases-loop-low
decreases-loop-low l = l.high - l.low
