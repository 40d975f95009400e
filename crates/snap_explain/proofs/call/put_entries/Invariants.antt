use Rattle.std.proofs.Common.{◌≡◌, ◌++◌, codes, take}
use Rattle.std.specs.List.{flat_map}
use Rattle.snap_report.specs.Lines.{entry_word}
use Rattle.snap_explain.proofs.call.put_entries.Given as goal

abbrev pub invariant-loop-entry : goal.invariant-loop-entry
invariant-loop-entry l = l.out.items ≡ l.fn.out.items ++ flat_map (λ entry. codes " " ++ entry_word entry) (take l.entry-index l.entries)
