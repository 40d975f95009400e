use Rattle.std.proofs.Common.{ℕ, ◌≡◌, map, take}
use Rattle.snap_views.proofs.view_chain.places.Given as goal

abbrev pub invariant-loop-sum : goal.invariant-loop-sum
invariant-loop-sum l = l.places.items ≡ map (λ (key : ℕ × ℕ). key.1) (take l._sum-index l.keys)
