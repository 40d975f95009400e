use Rattle.std.proofs.Common.{◌<◌, ◌∙◌, List, ap, arith, length}
use Rattle.snap_draw.specs.declared.shapes.Bar.{Bar}
use Rattle.snap_draw.specs.inside.Layout.{spans_in}
use Rattle.snap_draw.proofs.MoreLines.{more_processes, more_spans}
use Rattle.snap_draw.proofs.layout.lines_of.Goals as goal

pub loop-lane-preserved : goal.loop-lane-preserved
loop-lane-preserved c =
    let held = c.loop-lane.lines.items in
    let now = c.push.new.self.items in
    let lanes = c.args.shapes.now.lanes.items in
    let inside : c.loop-lane.lane < length lanes = omega (arith, c.len-lane-end.ensures) in (
      more_processes lanes held now _ c.loop-lane.lane _ inside c.loop-lane.invariant.0 c.in_ok-push.ensures.items c.index.ensures,
      more_spans (spans_in c.args.step c.args.shapes.now.bars.items) held now _ c.loop-lane.lane c.loop-lane.invariant.1 c.in_ok-push.ensures.items
          (c.in_ok-spans_in.ensures ∙ ap (λ (bars : List Bar). spans_in c.args.step bars c.loop-lane.lane) c.deref.ensures.value),
    )
