use Rattle.std.proofs.Common.{rules}
use Rattle.snap_conditions.specs.Tally.{tally_of}
use Rattle.snap_conditions.proofs.range.add_without_read.Goals as goal

pub returns-clause-tally : goal.returns-clause-tally
unfolding tally_of
returns-clause-tally g c = search rules
