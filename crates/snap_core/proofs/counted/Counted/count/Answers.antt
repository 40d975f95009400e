use Rattle.std.proofs.Common.{rules}
use Rattle.snap_core.proofs.counted.Counted.count.Goals as goal

pub returns-clause-counts : goal.returns-clause-counts
returns-clause-counts g c = search rules
