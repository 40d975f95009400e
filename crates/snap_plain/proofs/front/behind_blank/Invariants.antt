use Rattle.std.proofs.Common.{List, length}
use Rattle.snap_plain.specs.Lines.{HasRows, IsRest}
use Rattle.snap_text.specs.Fields.{Fields}
use Rattle.snap_plain.proofs.front.behind_blank.Given as goal

abbrev pub invariant-loop-left : goal.invariant-loop-left
invariant-loop-left l = record {
  same : (rows : List Fields) → HasRows l.text rows → HasRows l.left rows;
  rest : IsRest l.left l.text;
}

abbrev pub decreases-loop-left : goal.decreases-loop-left
decreases-loop-left l = length l.left

abbrev pub invariant-loop-left-2 : goal.invariant-loop-left-2
invariant-loop-left-2 l = record {
  same : (rows : List Fields) → HasRows l.text rows → HasRows l.left rows;
  rest : IsRest l.left l.text;
}

abbrev pub decreases-loop-left-2 : goal.decreases-loop-left-2
decreases-loop-left-2 l = length l.left
