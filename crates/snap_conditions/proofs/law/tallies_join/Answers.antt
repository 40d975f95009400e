use Rattle.snap_conditions.proofs.Ranges.{tallies_join, ranges_fit}
use Rattle.snap_conditions.proofs.law.tallies_join.Goals as goal

pub returns-clause-join : goal.returns-clause-join
returns-clause-join c = tallies_join

pub returns-clause-fit : goal.returns-clause-fit
returns-clause-fit c = ranges_fit
