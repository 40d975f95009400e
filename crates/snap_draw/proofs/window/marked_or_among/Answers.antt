use Rattle.std.proofs.Common.{rules}
use Rattle.snap_draw.proofs.window.marked_or_among.Goals as goal

pub returns : goal.returns
returns c = search rules
