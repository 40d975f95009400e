use Rattle.snap_draw.specs.Timelines.{lanes_of}
use Rattle.snap_draw.proofs.shapes.lanes_of.Goals as goal

pub returns : goal.returns
unfolding lanes_of
returns c = c.lanes_below.ensures
