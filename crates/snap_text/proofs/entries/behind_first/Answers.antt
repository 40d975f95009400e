use Rattle.snap_text.proofs.KnownFacts.{none_spelled}
use Rattle.snap_text.proofs.entries.behind_first.Goals as goal

pub returns-in-None : goal.returns-in-None
returns-in-None c = none_spelled
