use Rattle.std.proofs.Common.{◌≡◌, ◌≤◌, ◌+◌, length}
use Rattle.snap_text.specs.Fields.{parts}
use Rattle.snap_explain.specs.inside.Parts.{parts_after, size_after}
use Rattle.snap_explain.proofs.mistake.count_parts.Given as goal

abbrev pub invariant-loop-left : goal.invariant-loop-left
invariant-loop-left l = record {
  same : length (parts l.mark l.text) ≡ l.count + length (parts_after l.mark l.left);
  room : l.count + size_after l.left ≤ length l.text + 1;
}

abbrev pub decreases-loop-left : goal.decreases-loop-left
decreases-loop-left l = size_after l.left
