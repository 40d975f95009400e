use Rattle.std.proofs.Common.{◌≡◌, count_by, take}
use Rattle.snap_stats.proofs.shown.count_marks.Given as goal

abbrev pub invariant-loop-mark : goal.invariant-loop-mark
invariant-loop-mark l = l.count ≡ count_by (λ mark. mark) (take l.mark-index l.marks)
