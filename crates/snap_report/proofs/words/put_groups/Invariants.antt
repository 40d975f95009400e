use Rattle.std.proofs.Common.{◌≡◌, ◌++◌, ◌+◌, ◌≤◌, codes, length, vec_len}
use Rattle.std.specs.List.{flat_map}
use Rattle.snap_report.specs.Lines.{entry_word}
use Rattle.snap_report.proofs.words.put_groups.Given as goal

abbrev pub invariant-loop-left : goal.invariant-loop-left
invariant-loop-left l = record {
  left : l.place + length l.left ≤ length l.entries;
  known : l.place ≤ vec_len l.known;
  put : l.out.items ++ flat_map (λ entry. codes " " ++ entry_word entry) l.left ≡ l.fn.out.items ++ flat_map (λ entry. codes " " ++ entry_word entry) l.entries;
}

abbrev pub decreases-loop-left : goal.decreases-loop-left
decreases-loop-left l = length l.left
