use Rattle.std.proofs.Common.{ap, sym}
use Rattle.snap_files.specs.Files.{answer_code}
use Rattle.snap_files.proofs.page.code_of.Goals as goal

pub returns-in-Err : goal.returns-in-Err
returns-in-Err c = sym (ap answer_code c.in-Err.is)
