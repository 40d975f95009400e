use Rattle.std.proofs.Common.{rules}
use Rattle.snap_text.specs.Fields.{update_at}
use Rattle.snap_text.proofs.fields.update_of.Goals as goal

pub returns-then-entry-eq0 : goal.returns-then-entry-eq0
unfolding update_at
returns-then-entry-eq0 c = search rules
