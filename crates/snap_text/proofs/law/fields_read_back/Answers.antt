use Rattle.snap_text.proofs.BackFacts.{event_back}
use Rattle.snap_text.proofs.law.fields_read_back.Goals as goal

pub returns : goal.returns
returns c = event_back
