use Rattle.std.proofs.Common.{take}
use Rattle.std.specs.List.{All}
use Rattle.snap_plain.specs.Lines.{IsInner}
use Rattle.snap_plain.proofs.fields.field_size_from.Given as goal

abbrev pub invariant-loop-at : goal.invariant-loop-at
invariant-loop-at l = All IsInner (take l.at l.text)
