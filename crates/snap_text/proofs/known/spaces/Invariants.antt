use Rattle.std.proofs.Common.{◌≡◌, ◌+◌, ◌≤◌, ◌==◌, length}
use Rattle.std.specs.Prelude.{count_by}
use Rattle.snap_text.proofs.known.spaces.Given as goal

abbrev pub invariant-loop-left : goal.invariant-loop-left
invariant-loop-left l = record { counted : l.count + count_by (λ b. b == 32) l.left ≡ count_by (λ b. b == 32) l.text; few : l.count + length l.left ≤ length l.text }

abbrev pub decreases-loop-left : goal.decreases-loop-left
decreases-loop-left l = length l.left
