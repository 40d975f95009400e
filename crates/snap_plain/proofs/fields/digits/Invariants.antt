use Rattle.std.proofs.Common.{◌-◌, ◌≤◌, length, take}
use Rattle.std.specs.List.{All}
use Rattle.snap_plain.specs.Lines.{IsInner}
use Rattle.snap_plain.proofs.fields.digits.Given as goal

abbrev pub invariant-loop-count : goal.invariant-loop-count
invariant-loop-count l = (l.count ≤ length l.text) × All IsInner (take l.count l.text)

abbrev pub decreases-loop-count : goal.decreases-loop-count
decreases-loop-count l = length l.text - l.count
