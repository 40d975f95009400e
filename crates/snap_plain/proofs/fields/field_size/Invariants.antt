use Rattle.std.proofs.Common.{◌≡◌, ◌-◌, ◌≤◌, length, take, drop}
use Rattle.std.specs.List.{All}
use Rattle.snap_plain.specs.Lines.{IsInner}
use Rattle.snap_plain.proofs.fields.field_size.Given as goal

abbrev pub invariant-loop-left : goal.invariant-loop-left
invariant-loop-left l = record {
  within : length l.left ≤ length l.text;
  rest : l.left ≡ drop (length l.text - length l.left) l.text;
  inner : All IsInner (take (length l.text - length l.left) l.text);
}

abbrev pub decreases-loop-left : goal.decreases-loop-left
decreases-loop-left l = length l.left
