use Rattle.std.proofs.Common.{◌∙◌, ap}
use Rattle.snap_draw.specs.Timelines.{lane_of}
use Rattle.snap_draw.proofs.shapes.bar_of.Goals as goal

pub returns : goal.returns
returns c = λ i. record {
  drawn = c.args.drawn.now;
  lane = (c.lane_of.ensures ∙ ap (λ p. lane_of c.args.lanes.now p) c.from.ensures) i;
  begin = c.column_of.ensures i;
  end = c.end_column.ensures i;
  place = c.place_of.ensures i;
}
