use Rattle.std.proofs.Common.{◌≡◌, ◌<◌, ℕ, Bool, count_by}
use Rattle.std.specs.List.Sorted.{IsNonDecreasing}
use Rattle.snap_index.specs.Rows.{rows}
use Rattle.snap_versions.specs.inside.Versions.{versions_in}
use Rattle.snap_versions.proofs.versions.sort_each.Given as goal

abbrev pub invariant-loop-list : goal.invariant-loop-list
invariant-loop-list l = record {
  rising : (k : ℕ) → k < l.list-index → IsNonDecreasing (versions_in (rows l.lists) k);
  same : (k : ℕ) (test : ℕ → Bool) → count_by test (versions_in (rows l.lists) k) ≡ count_by test (versions_in (rows l.initial.lists) k);
}
