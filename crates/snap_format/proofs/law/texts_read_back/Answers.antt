use Rattle.snap_format.proofs.TextFacts.{text_reads}
use Rattle.snap_format.proofs.law.texts_read_back.Goals as goal

pub returns : goal.returns
returns c = text_reads
