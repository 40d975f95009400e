use Rattle.snap_check.proofs.Each.{each_report}
use Rattle.snap_check.proofs.law.each_text_has_a_report.Goals as goal

pub returns : goal.returns
returns c = each_report
