use Rattle.snap_format.proofs.StampText.{stamped_reads}
use Rattle.snap_format.proofs.law.stamped_texts_read_back.Goals as goal

pub returns : goal.returns
returns c = stamped_reads
