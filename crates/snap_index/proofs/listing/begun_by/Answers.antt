use Rattle.std.proofs.Common.{rules}
use Rattle.snap_index.proofs.listing.begun_by.Goals as goal

pub returns-in-BeginView : goal.returns-in-BeginView
returns-in-BeginView c = search rules
