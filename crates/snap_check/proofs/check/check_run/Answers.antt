use Rattle.snap_core.specs.Counting.{inner_of}
use Rattle.snap_check.proofs.Plain.{failed_plain, wrote_plain}
use Rattle.snap_check.proofs.check.check_run.Goals as goal

pub returns-in-Err-clause-wrote : goal.returns-in-Err-clause-wrote
returns-in-Err-clause-wrote g c =
    let held = g.W.Write.contents (inner_of c.args.writer.now) in
    let new = g.W.Write.contents (inner_of c.check_run_with.new.writer) in
    let plain = c.plain-options.ensures in
    failed_plain c.plain-options.result plain.quiet plain.limit plain.views (g.R.Read.remaining (inner_of c.args.reader.now)) held new c.in-Err.fault c.in-Err.ensures.wrote

pub returns-in-Ok-Some-clause-wrote : goal.returns-in-Ok-Some-clause-wrote
returns-in-Ok-Some-clause-wrote g c =
    let held = g.W.Write.contents (inner_of c.args.writer.now) in
    let new = g.W.Write.contents (inner_of c.check_run_with.new.writer) in
    let plain = c.plain-options.ensures in
    wrote_plain c.plain-options.result plain.quiet plain.limit (g.R.Read.remaining (inner_of c.args.reader.now)) held new c.in-Ok-Some.field-0 c.in-Ok-Some.status c.in-Ok-Some.field-0-is c.in-Ok-Some.ensures.wrote
