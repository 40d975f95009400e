use Rattle.std.proofs.Common.{◌≡◌, ◌≤◌, ◌+◌, ◌∷◌, length}
use Rattle.snap_text.specs.Fields.{parts}
use Rattle.snap_explain.specs.Mistakes.{first_fall}
use Rattle.snap_explain.specs.inside.Parts.{parts_after, size_after}
use Rattle.snap_explain.proofs.mistake.first_fall.Given as goal

abbrev pub invariant-loop-left : goal.invariant-loop-left
invariant-loop-left l = record {
  same : first_fall 1 (parts 32 l.field) ≡ first_fall l.place (l.entry ∷ parts_after 32 l.left);
  room : l.place + size_after l.left ≤ length l.field + 1;
}

abbrev pub decreases-loop-left : goal.decreases-loop-left
decreases-loop-left l = size_after l.left
