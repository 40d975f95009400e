use Rattle.std.proofs.Common.{◌≡◌, ◌++◌, codes, take}
use Rattle.std.specs.List.{flat_map}
use Rattle.snap_core.specs.Entries.{entry_of, number_in}
use Rattle.snap_explain.specs.Views.{number_word}
use Rattle.snap_explain.proofs.view.put_other_numbers.Given as goal

abbrev pub invariant-loop-update : goal.invariant-loop-update
invariant-loop-update l =
    l.out.items ≡ l.fn.out.items ++ flat_map (λ update. codes " and " ++ number_word (λ k. number_in (entry_of k l.shown)) update) (take l.update-index l.updates)
