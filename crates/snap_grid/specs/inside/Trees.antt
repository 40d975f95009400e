-- Sums of counts in a tree, kept in a list of nodes. Node i is above the nodes 2 i and 2 i + 1, and the second half of the list has
-- the counts. This is the iterative form of a segment tree.
use Rattle.std.specs.Prelude.{ℕ, ◌+◌, ◌<◌, ◌≤◌, ◌≡◌, List, length, get_or, sum_by}
use Rattle.std.specs.List.{range_with_len}

-- the sum of m nodes from `first` on
abbrev pub node_sum : List ℕ → ℕ → ℕ → ℕ
node_sum nodes first m = sum_by (λ i. get_or nodes i 0) (range_with_len first m)

-- the sum of the counts at the places below `place`
abbrev pub sum_below_place : ℕ → List ℕ → ℕ → ℕ
sum_below_place size nodes place = node_sum nodes size place

-- a tree of `size` counts: each node above two others is their sum
pub record IsTree (size : ℕ) (nodes : List ℕ) : Type 0 where
  pub some : 0 < size
  pub count : length nodes ≡ size + size
  pub sums : (i : ℕ) → 1 ≤ i → i < size → get_or nodes (i + i) 0 + get_or nodes (i + i + 1) 0 ≡ get_or nodes i 0
