use Rattle.std.proofs.Common.{ℕ, ◌≡◌, map, take}
use Rattle.snap_order.proofs.printing.numbers.Given as goal

abbrev pub invariant-loop-rank : goal.invariant-loop-rank
invariant-loop-rank l = l.numbers.items ≡ map (λ (k : ℕ × ℕ). k.1) (take l._rank-index l.keys)
