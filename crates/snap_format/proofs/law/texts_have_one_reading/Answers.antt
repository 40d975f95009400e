use Rattle.snap_format.proofs.Exclusive.{text_once}
use Rattle.snap_format.proofs.law.texts_have_one_reading.Goals as goal

pub returns : goal.returns
returns c = text_once
