use Rattle.snap_check.proofs.Once as once
use Rattle.snap_check.proofs.law.one_report.Goals as goal

pub returns : goal.returns
returns c = once.one_report
