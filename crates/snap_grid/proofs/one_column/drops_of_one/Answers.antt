use Rattle.std.proofs.Common.{rules}
use Rattle.snap_grid.proofs.one_column.drops_of_one.Goals as goal

pub drops_of-requires-clause-rising : goal.drops_of-requires-clause-rising
drops_of-requires-clause-rising c = search rules
