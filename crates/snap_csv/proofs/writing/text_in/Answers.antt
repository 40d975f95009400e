use Rattle.std.proofs.Common.{◌∙◌}
use Rattle.snap_csv.proofs.writing.text_in.Goals as goal

pub returns-in-Ok : goal.returns-in-Ok
returns-in-Ok c = λ text h. c.in-Ok.ensures.ok ∙ h.bytes
