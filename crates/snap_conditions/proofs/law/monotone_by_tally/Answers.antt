use Rattle.snap_conditions.proofs.StaleViews.{monotone_by_tally}
use Rattle.snap_conditions.proofs.law.monotone_by_tally.Goals as goal

pub returns : goal.returns
returns c = monotone_by_tally
