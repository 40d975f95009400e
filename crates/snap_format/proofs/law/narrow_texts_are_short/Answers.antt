use Rattle.snap_format.proofs.LengthFacts.{narrow_text_short}
use Rattle.snap_format.proofs.law.narrow_texts_are_short.Goals as goal

pub returns : goal.returns
returns c = narrow_text_short
