use Rattle.std.proofs.Common.{◌≡◌, ◌∙◌, ◌<◌, ◌+◌, refl, ℕ, Bool, List, Vec, Global, count_by, length, set, sym, ap, subst, arith}
use Rattle.std.specs.List.Sorted.{IsNonDecreasing, IsPermutation}
use Rattle.std.proofs.lemmas.List.{length-map, map-set}
use Rattle.std.proofs.lemmas.List.Sorted.{IsNonDecreasingBy-from_sort}
use Rattle.snap_index.specs.Rows.{rows}
use Rattle.snap_versions.specs.inside.Versions.{versions_in}
use Rattle.snap_versions.proofs.Tables.{all_sorted, list_read, same_more, sorted_more}
use Rattle.snap_versions.proofs.versions.sort_each.Goals as goal

pub loop-list-preserved : goal.loop-list-preserved
loop-list-preserved c =
    let old = c.loop-list.lists in
    let i = c.loop-list.list-index in
    let new = c.sort_unstable.new.self in
    let within : i < length old = omega (arith, c.loop-list.auto.lists) in
    let inside : i < length (rows old) = omega (arith, within, length-map old (λ (v : Vec ℕ Global). v.items)) in
    let table : set (rows old) i new.items ≡ rows (set old i new) = sym (map-set (λ (v : Vec ℕ Global). v.items) old i new) in
    let list = ap (λ (v : Vec ℕ Global). v.items) (sym c.list-item.is) ∙ list_read old i i c.list-item.result refl within c.list-item.is in
    let moved = subst (λ (z : List ℕ). IsPermutation z new.items) list c.sort_unstable.ensures.permutation in
    record {
      rising = subst (λ z. (k : ℕ) → k < i + 1 → IsNonDecreasing (versions_in z k)) table
          (sorted_more (rows old) i new.items inside (IsNonDecreasingBy-from_sort (λ x. x) new.items c.sort_unstable.ensures.sorted) c.loop-list.invariant.rising);
      same = subst (λ z. (k : ℕ) (test : ℕ → Bool) → count_by test (versions_in z k) ≡ count_by test (versions_in (rows c.args.lists.now) k)) table
          (same_more (rows c.args.lists.now) (rows old) i new.items inside moved c.loop-list.invariant.same);
    }

pub returns-clause-rising : goal.returns-clause-rising
returns-clause-rising c = all_sorted (rows c.loop-list.lists) c.loop-list.list-index (omega (arith, c.loop-list.auto.lists, length-map c.loop-list.lists (λ (v : Vec ℕ Global). v.items), c.loop-list-test.false)) c.loop-list.invariant.rising

pub returns-clause-same : goal.returns-clause-same
returns-clause-same c = c.loop-list.invariant.same
