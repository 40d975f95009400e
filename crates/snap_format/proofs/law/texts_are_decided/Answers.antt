use Rattle.snap_format.proofs.Decided.{text_decided}
use Rattle.snap_format.proofs.law.texts_are_decided.Goals as goal

pub returns : goal.returns
returns c = text_decided
