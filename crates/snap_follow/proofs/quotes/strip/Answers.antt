use Rattle.snap_follow.proofs.Unquoting.{byte_gone, byte_stays, nothing_stripped}
use Rattle.snap_follow.proofs.quotes.strip.Goals as goal

pub loop-byte-init : goal.loop-byte-init
loop-byte-init c = rw c.requires (nothing_stripped c.args.line.now)

pub loop-byte-preserved-in_ok-push : goal.loop-byte-preserved-in_ok-push
loop-byte-preserved-in_ok-push c =
    let before = rw c.in-Some.ensures.cases.0 at c.loop-byte.invariant in
    rw c.in_ok-push.ensures.items (byte_stays c.args.line.now c.in-Some.behind.now c.loop-byte.bare.items c.loop-byte.at c.in-Some-step.next c.in-Some.byte.now (rw c.if-stays.true at c.in-Some-step.ensures) before)

pub loop-byte-preserved : goal.loop-byte-preserved
loop-byte-preserved c =
    let before = rw c.in-Some.ensures.cases.0 at c.loop-byte.invariant in
    byte_gone c.args.line.now c.in-Some.behind.now c.loop-byte.bare.items c.loop-byte.at c.in-Some-step.next c.in-Some.byte.now (rw c.if-stays.false at c.in-Some-step.ensures) before
