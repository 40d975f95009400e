use Rattle.std.proofs.Common.{◌≡◌, ◌++◌, ◌+◌, ◌*◌, ◌≤◌, codes, drop, length}
use Rattle.std.specs.List.{flat_map}
use Rattle.snap_report.specs.Lines.{entry_word}
use Rattle.snap_report.proofs.words.write_entries.Given as goal

abbrev pub invariant-loop-i : goal.invariant-loop-i
invariant-loop-i l = record {
  left : l.i ≤ length l.entries;
  room : 26 * l.i ≤ l.at;
  within : l.at ≤ l.end;
  start : l.end + 26 * l.i ≤ l.at + 26 * length l.entries;
  same : length l.buffer ≡ length l.fn.buffer;
  written : drop l.at l.buffer ≡ flat_map (λ entry. codes " " ++ entry_word entry) (drop l.i l.entries) ++ drop l.end l.fn.buffer;
}

abbrev pub decreases-loop-i : goal.decreases-loop-i
decreases-loop-i l = l.i
