use Rattle.std.proofs.Common.{◌≡◌, ◌≢◌, ◌≤◌, ◌<◌, ◌+◌, ℕ, get_or, length}
use Rattle.snap_grid.proofs.tree.raise.Given as goal

abbrev pub invariant-loop-node : goal.invariant-loop-node
invariant-loop-node l = record {
  count : length l.nodes ≡ l.size + l.size;
  within : l.node < l.size + l.size;
  sums : (i : ℕ) → 1 ≤ i → i < l.size → i ≢ l.node → get_or l.nodes (i + i) 0 + get_or l.nodes (i + i + 1) 0 ≡ get_or l.nodes i 0;
  owed : 1 ≤ l.node → l.node < l.size → get_or l.nodes (l.node + l.node) 0 + get_or l.nodes (l.node + l.node + 1) 0 ≡ get_or l.nodes l.node 0 + 1;
  untouched : (i : ℕ) → i ≤ l.node → get_or l.nodes i 0 ≡ get_or l.fn.nodes i 0;
  most : (i : ℕ) → get_or l.nodes i 0 ≤ get_or l.fn.nodes i 0 + 1;
  begun : l.size ≤ l.node → l.node ≡ l.size + l.place;
  others : (i : ℕ) → l.size ≤ i → i ≢ l.size + l.place → get_or l.nodes i 0 ≡ get_or l.fn.nodes i 0;
  raised : l.node < l.size → get_or l.nodes (l.size + l.place) 0 ≡ get_or l.fn.nodes (l.size + l.place) 0 + 1;
}

abbrev pub decreases-loop-node : goal.decreases-loop-node
decreases-loop-node l = l.node
