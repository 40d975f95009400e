use Rattle.std.proofs.Common.{rules}
use Rattle.snap_core.proofs.view.View.entries.Goals as goal

pub returns-clause-entries : goal.returns-clause-entries
returns-clause-entries c = search rules
