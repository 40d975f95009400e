use Rattle.std.proofs.Common.{rules}
use Rattle.snap_text.specs.Fields.{event_of}
use Rattle.snap_text.proofs.fields.event_of_fields.Goals as goal

pub returns-then-updates : goal.returns-then-updates
unfolding event_of
returns-then-updates c = search rules
