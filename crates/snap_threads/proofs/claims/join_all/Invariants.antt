use Rattle.std.proofs.Common.{◌≡◌, ◌+◌, [], length, All}
use Rattle.snap_core.specs.Sums.{total}
use Rattle.snap_threads.proofs.claims.join_all.Given as goal

abbrev pub invariant-loop-claim : goal.invariant-loop-claim
invariant-loop-claim l = record {
  same : l.table ≡ l.initial.table;
  at : l.all.table_id ≡ l.initial.table.shared.table_id;
  bare : l.all.me.1 ≡ [];
  count : length l.all.me.0 + length l.claims.items ≡ length l.fn.claims.items;
  sums : (f : _) → total f l.all.me.0 + total (λ c. f c.drawn) l.claims.items ≡ total (λ c. f c.drawn) l.fn.claims.items;
  of : All (λ c. (c.table ≡ l.initial.table.shared.table_id) × (c.pieces ≡ l.initial.table.shared.key.pieces)) l.claims.items;
}

abbrev pub decreases-loop-claim : goal.decreases-loop-claim
decreases-loop-claim l = goal.left-loop-claim l
