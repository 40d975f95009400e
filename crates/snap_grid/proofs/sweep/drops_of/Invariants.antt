use Rattle.std.proofs.Common.{◌≡◌, ◌≤◌, ◌<◌, ℕ, length, get_or}
use Rattle.snap_grid.specs.Columns.{number}
use Rattle.snap_grid.specs.inside.Sweeps.{HasCounted, drops_from}
use Rattle.snap_grid.proofs.sweep.drops_of.Given as goal

abbrev pub invariant-loop-left : goal.invariant-loop-left
invariant-loop-left l = record {
  within : l.left ≤ length l.keys.items;
  counted : HasCounted l.size l.ranks.items l.from l.nodes;
  behind : (b i : ℕ) (d : ℕ × ℕ) → l.from ≤ b → b < length l.begins → i < l.left → (get_or l.keys.items i d).0 < number l.begins b;
  rows : length l.counts.items ≡ length l.begins;
  done : (i : ℕ) (d : ℕ × ℕ) → l.left ≤ i → i < length l.keys.items → number l.counts.items (get_or l.keys.items i d).1 ≡ drops_from l.numbers l.begins l.ends (get_or l.keys.items i d).1;
}

abbrev pub decreases-loop-left : goal.decreases-loop-left
decreases-loop-left l = l.left
