use Rattle.snap_text.proofs.BackFacts.{alone}
use Rattle.snap_text.proofs.law.fields_are_one_events.Goals as goal

pub returns : goal.returns
returns c = alone
