use Rattle.std.proofs.Common.{ap, sym}
use Rattle.snap_draw.specs.Timelines.{end_column}
use Rattle.snap_draw.proofs.shapes.end_column.Goals as goal

pub returns-in-None : goal.returns-in-None
returns-in-None c = sym (ap (λ ended. end_column c.args.places.now ended) c.in-None.is)
