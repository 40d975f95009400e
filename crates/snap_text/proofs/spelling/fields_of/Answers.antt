use Rattle.std.proofs.Common.{rules}
use Rattle.snap_text.proofs.spelling.fields_of.Goals as goal

pub returns-in-EndUpdate : goal.returns-in-EndUpdate
returns-in-EndUpdate c = search rules
