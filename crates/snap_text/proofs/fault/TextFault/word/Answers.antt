use Rattle.std.proofs.Common.{rules}
use Rattle.snap_text.proofs.fault.TextFault.word.Goals as goal

pub returns-in-Busy : goal.returns-in-Busy
returns-in-Busy c = search rules
