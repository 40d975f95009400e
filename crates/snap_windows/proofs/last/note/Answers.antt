use Rattle.std.proofs.Common.{arith}
use Rattle.snap_windows.proofs.Tables.{noted, not_noted}
use Rattle.snap_windows.proofs.last.note.Goals as goal

pub returns-in-BeginUpdate : goal.returns-in-BeginUpdate
returns-in-BeginUpdate c = λ es h.
    let e = c.in-BeginUpdate.entry in
    let p = c.in-BeginUpdate.process in
    rw (c.in-BeginUpdate.is, c.from.ensures) (noted c.args.last.now es p e (omega (arith, c.told-last)) h)

pub returns-in_default : goal.returns-in_default
returns-in_default c = λ es h. not_noted c.args.last.now es c.args.event.now c.in_default.not-BeginUpdate h
