use Rattle.std.proofs.Common.{◌≡◌, ◌-◌, length, take, drop, sym, arith, rules}
use Rattle.std.proofs.lemmas.List.{take_all, length-drop}
use Rattle.std.proofs.Math.Seq.{take-add}
use Rattle.snap_core.proofs.Sending.{appends_more, sends_whole}
use Rattle.snap_core.proofs.counted.Counted.send.Goals as goal

pub loop-sent-preserved : goal.loop-sent-preserved
loop-sent-preserved g c =
    let sent = c.loop-sent.sent in
    let text = c.args.text.now in
    let tail : take (length text - sent) (drop sent text) ≡ drop sent text = take_all _ _ (omega (arith, length-drop sent text)) in
    let bound = rw tail at c.in_ok-n.ensures.bound in
    let piece = rw tail at c.in_ok-n.ensures.bytes in
    record {
      within = omega (arith, bound, length-drop sent text, c.loop-sent-test.true);
      bytes = appends_more _ _ _ _ _ _ c.loop-sent.invariant.bytes piece (sym (take-add sent c.in_ok-n.n text));
      count = search rules;
    }

pub returns-clause-counts : goal.returns-clause-counts
returns-clause-counts g c = search rules

pub returns-clause-bytes : goal.returns-clause-bytes
returns-clause-bytes g c = sends_whole _ _ _ c.args.text.now c.loop-sent.sent c.flush.result (omega arith) c.loop-sent.invariant.bytes c.flush.ensures.bytes
