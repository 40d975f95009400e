use Rattle.std.proofs.Common.{◌≡◌, ◌<◌, length, subst, arith}
use Rattle.std.specs.Prelude.{IfOk}
use Rattle.snap_draw.proofs.Cut.{long_cut}
use Rattle.snap_draw.proofs.window.near_faults.Goals as goal

pub returns : goal.returns
returns c =
    let long : c.args.limit < length c.args.calls.items = omega (arith, c.if-len-limit.false, c.len.ensures) in
    subst (λ z. IfOk c.marked_or_among.result (λ drawn. drawn.items ≡ z))
    (long_cut c.args.limit c.args.marks.now c.args.calls.items c.deref.result.now c.in_ok-near.near.items c.deref-2.result.now c.deref-3.result.now
    long c.deref.ensures.value c.in_ok-near.ensures c.deref-2.ensures.value c.deref-3.ensures.value)
    c.marked_or_among.ensures
