use Rattle.std.proofs.Common.{◌≡◌, length}
use Rattle.snap_core.proofs.entry.are_same.Given as goal

abbrev pub invariant-loop-left : goal.invariant-loop-left
invariant-loop-left l = record { size : length l.left ≡ length l.others; forth : l.left ≡ l.others → l.a ≡ l.b; back : l.a ≡ l.b → l.left ≡ l.others }

abbrev pub decreases-loop-left : goal.decreases-loop-left
decreases-loop-left l = length l.left
