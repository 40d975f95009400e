use Rattle.std.proofs.Common.{rules, ℕ}
use Rattle.std.proofs.lemmas.List.Sorted.{answers_always}
use Rattle.snap_versions.specs.declared.update.Update.{Update}
use Rattle.snap_versions.proofs.Sorting.{sorted_pairs}
use Rattle.snap_versions.proofs.update.sort_by_version.Goals as goal

abbrev version : Update → ℕ × ℕ
version u = (u.entry.component, u.entry.number)

pub returns-clause-sorted : goal.returns-clause-sorted
returns-clause-sorted c = sorted_pairs version c.sort_unstable_by_key.new.self.items (c.sort_unstable_by_key.ensures.sorted version (answers_always _ _ _ (λ f a r g h. search rules)))
