use Rattle.std.proofs.Common.{◌≡◌, List, ℕ, sym, subst, rules, arith}
use Rattle.std.specs.Prelude.{◌==◌}
use Rattle.std.specs.List.{dedup, Contains}
use Rattle.std.specs.List.Sorted.{IsStrictlyIncreasing, IsPermutation}
use Rattle.std.proofs.lemmas.List.Filters.{dedup_is}
use Rattle.std.proofs.lemmas.List.Kept.{Contains-dedup_nat}
use Rattle.std.proofs.lemmas.List.Sorted.{Contains-permutation}
use Rattle.std.proofs.lemmas.Map.Keys.{IsStrictlyIncreasing-dedup}
use Rattle.snap_masks.proofs.ranked.distinct_of.Goals as goal

pub returns : goal.returns
returns c =
    let numbers = c.args.numbers.now in
    let sorted = c.sort_unstable.new.self.items in
    let copied : c.in_ok-distinct.distinct.items ≡ numbers = c.in_ok-distinct.ensures.items_if_clones_equal (search rules) in
    let moved = subst (λ (z : List ℕ). IsPermutation z sorted) copied c.sort_unstable.ensures.permutation in
    let kept : c.dedup.new.self.items ≡ dedup (λ a b. a == b) sorted = dedup_is (λ a b. a == b) sorted c.dedup.new.self.items c.dedup.ensures.filtered in
    record {
      order = subst IsStrictlyIncreasing (sym kept) (IsStrictlyIncreasing-dedup sorted c.sort_unstable.ensures.sorted);
      few = omega (arith, c.dedup.ensures.bound, c.sort_unstable.ensures.len, c.in_ok-distinct.ensures.len);
      each = λ n h. subst (λ (z : List ℕ). Contains z n) (sym kept) (Contains-dedup_nat sorted n (Contains-permutation numbers sorted n moved h));
    }
