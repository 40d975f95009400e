use Rattle.snap_text.proofs.GrammarFacts.{record_is}
use Rattle.snap_text.proofs.law.records_are_spelled.Goals as goal

pub returns : goal.returns
returns c = record_is
