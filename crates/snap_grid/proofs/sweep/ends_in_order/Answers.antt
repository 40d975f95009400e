use Rattle.std.proofs.Common.{rules, ◌≡◌, ℕ, length, arith}
use Rattle.std.proofs.lemmas.List.Sorted.{IsNonDecreasingBy-from_sort_by_key}
use Rattle.snap_grid.proofs.Sweeps.{in_order}
use Rattle.snap_grid.proofs.sweep.ends_in_order.Goals as goal

pub returns : goal.returns
returns c =
    let s = c.sort_unstable_by_key.ensures in
    let sorted = c.sort_unstable_by_key.new.self.items in
    let all : c.loop-row.row ≡ length c.args.ends.now = omega (arith, c.loop-row-test.false, c.loop-row.auto.row-end) in
    in_order c.args.ends.now c.loop-row.keys.items sorted (omega (arith, c.loop-row.invariant.count)) (λ i d l. c.loop-row.invariant.each i d (omega (arith, l))) s.permutation (omega (arith, s.len, c.sort_unstable_by_key.new.self.ok, c.loop-row.keys.ok))
    (IsNonDecreasingBy-from_sort_by_key (λ (key : ℕ × ℕ). key.0) sorted s.sorted (λ a r q k. search rules))
