use Rattle.snap_conditions.proofs.Ranges.{regular_by_tally}
use Rattle.snap_conditions.proofs.law.regular_by_tally.Goals as goal

pub returns : goal.returns
returns c = regular_by_tally
