use Rattle.std.proofs.Common.{rules}
use Rattle.snap_core.proofs.counted.Counted.write.Goals as goal

pub returns-then-not-is_empty-clause-counts : goal.returns-then-not-is_empty-clause-counts
returns-then-not-is_empty-clause-counts g c = search rules
