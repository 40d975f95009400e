use Rattle.snap_format.proofs.LengthFacts.{text_short}
use Rattle.snap_format.proofs.law.texts_are_short.Goals as goal

pub returns : goal.returns
returns c = text_short
