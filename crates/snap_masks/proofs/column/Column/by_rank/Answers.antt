use Rattle.std.proofs.Common.{rules}
use Rattle.snap_masks.proofs.column.Column.by_rank.Goals as goal

pub returns : goal.returns
returns c = search rules
