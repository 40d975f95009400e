use Rattle.snap_core.specs.Calls.{call_numbered, calls_of, nobody}
use Rattle.snap_core.proofs.Histories.{numbered_calls}
use Rattle.snap_report.proofs.Calls.{op_is}
use Rattle.snap_draw.proofs.Made.{same_drawn}
use Rattle.snap_draw.proofs.drawn.call_at.Goals as goal

pub returns : goal.returns
returns g c =
    let es = c.args.index.now in
    let n = c.args.number in
    same_drawn n c.in-Some.call.now (call_numbered (calls_of es) n) (op_is es n c.in-Some.call.now c.requires c.in-Some.ensures) (numbered_calls es n nobody c.requires)
