use Rattle.std.proofs.Common.{◌≡◌, ◌++◌, ℕ, List, length}
use Rattle.snap_follow.specs.inside.Courses.{TakesBytes}
use Rattle.snap_follow.proofs.course.Course.take_piece.Given as goal

abbrev pub invariant-loop-at : goal.invariant-loop-at
invariant-loop-at l = (front : List ℕ) × (l.piece ≡ front ++ l.left) × TakesBytes l.fn.self l.self front

abbrev pub decreases-loop-at : goal.decreases-loop-at
decreases-loop-at l = length l.left
