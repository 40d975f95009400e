use Rattle.std.proofs.Common.{◌≡◌, map, take}
use Rattle.std.specs.List.{range_with_len}
use Rattle.snap_draw.specs.declared.layout.Line.{Line}
use Rattle.snap_draw.specs.inside.Layout.{spans_in}
use Rattle.snap_draw.proofs.layout.lines_of.Given as goal

abbrev pub invariant-loop-lane : goal.invariant-loop-lane
invariant-loop-lane l =
    (map (λ (it : Line). it.process) l.lines.items ≡ take l.lane l.shapes.lanes.items)
    × (map (λ (it : Line). it.spans.items) l.lines.items ≡ map (spans_in l.step l.shapes.bars.items) (range_with_len 0 l.lane))
