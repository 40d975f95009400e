use Rattle.std.proofs.Common.{rules, List, subst, ap, ◌∙◌, length}
use Rattle.std.specs.List.Sorted.{IsPermutation}
use Rattle.std.proofs.lemmas.List.Sorted.{IsNonDecreasingBy-from_sort_by_key, length_permutation}
use Rattle.snap_board.proofs.Stamps.{Stamp}
use Rattle.snap_record.proofs.Sorting.{sorted_merged}
use Rattle.snap_record.proofs.timeline.in_order.Goals as goal

pub returns-clause-merged : goal.returns-clause-merged
returns-clause-merged c =
    let s = c.sort_unstable_by_key.ensures in
    sorted_merged c.args.all.items c.sort_unstable_by_key.new.self.items (subst (λ (es : List Stamp). IsPermutation es c.sort_unstable_by_key.new.self.items) c.in_ok-events.ensures s.permutation)
    (IsNonDecreasingBy-from_sort_by_key (λ (x : Stamp). x.0) _ s.sorted (λ a r q k. search rules)) c.requires

pub returns-clause-len : goal.returns-clause-len
returns-clause-len c = length_permutation _ _ c.sort_unstable_by_key.ensures.permutation ∙ ap length c.in_ok-events.ensures
