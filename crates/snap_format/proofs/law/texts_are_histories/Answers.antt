use Rattle.snap_format.proofs.Histories.{text_kept}
use Rattle.snap_format.proofs.law.texts_are_histories.Goals as goal

pub returns : goal.returns
returns c = text_kept
