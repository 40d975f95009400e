use Rattle.std.proofs.Common.{◌≡◌, ◌≤◌, ◌+◌, length}
use Rattle.snap_text.specs.Fields.{parts}
use Rattle.snap_explain.specs.Mistakes.{first_mistake}
use Rattle.snap_explain.specs.inside.Parts.{parts_after, size_after}
use Rattle.snap_explain.proofs.mistake.first_mistake.Given as goal

abbrev pub invariant-loop-left : goal.invariant-loop-left
invariant-loop-left l = record {
  same : first_mistake 1 (parts 32 l.field) ≡ first_mistake (l.place + 1) (parts_after 32 l.left);
  room : l.place + size_after l.left ≤ length l.field + 1;
}

abbrev pub decreases-loop-left : goal.decreases-loop-left
decreases-loop-left l = size_after l.left
