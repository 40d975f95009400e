use Rattle.std.proofs.Common.{◌≡◌, ◌≤◌, ◌+◌, ◌-◌, ◌++◌, ◌∙◌, List, ap, arith, drop, length, length-drop, subst, sym, take, ℕ}
use Rattle.std.proofs.lemmas.List.{take-append-drop, take_all}
use Rattle.snap_core.specs.Counting.{inner_of}
use Rattle.snap_core.specs.declared.counted.Counted.{Counted}
use Rattle.snap_commands.specs.Painting.{CutsPainted, SendsPainted}
use Rattle.snap_commands.proofs.Pieces.{cut_before, cut_behind, front_joined, front_sent, none_sent, rest_painted, sends_more, sent_both, whatever_error, whole_sent}
use Rattle.snap_commands.proofs.verdicts.send_painted.Goals.{then-text-at-eq10+in_ok-sent, else-text-at-eq10}
use Rattle.snap_commands.proofs.verdicts.send_painted.Goals as goal

pub loop-at-init : goal.loop-at-init
loop-at-init g c = record { begins = omega arith; ends = omega arith; painted = none_sent _ }

pub loop-at-preserved : goal.loop-at-preserved
loop-at-preserved g c =
    let text = c.args.text.now in
    let so_far = c.loop-at.invariant in
    elim c.if-text-at-eq10.branch [
      | then-text-at-eq10+in_ok-sent w ↦
          let low = w.in_ok-sent.ensures.place.0 in
          let high = w.in_ok-sent.ensures.place.1 in
          let both = sent_both _ _ _ (take c.loop-at.sent text) (take (w.in_ok-sent.sent - c.loop-at.sent) (drop c.loop-at.sent text)) so_far.painted w.in_ok-sent.ensures.sent in
          let sent_is = w.sent-is in
          let begin_is = w.begin-is in
          record {
            begins = omega (arith, sent_is, begin_is, high);
            ends = omega (arith, begin_is);
            painted = subst (λ (v : Counted g.row.W.Denot). SendsPainted (g.W.Write.contents (inner_of c.args.writer.now)) (g.W.Write.contents (inner_of v)) (take c.if-text-at-eq10.sent text)) (sym w.writer-is)
                (subst (λ (n : ℕ). SendsPainted (g.W.Write.contents (inner_of c.args.writer.now)) (g.W.Write.contents (inner_of w.send_line.new.writer)) (take n text)) (sym w.sent-is)
                (subst (λ (l : List ℕ). SendsPainted (g.W.Write.contents (inner_of c.args.writer.now)) (g.W.Write.contents (inner_of w.send_line.new.writer)) l) (front_joined text c.loop-at.sent w.in_ok-sent.sent low) both));
          }
      | else-text-at-eq10 w ↦
          let sent_is = w.sent-is in
          let begin_is = w.begin-is in
          let begins = so_far.begins in
          let ends = so_far.ends in
          record {
            begins = omega (arith, sent_is, begin_is, begins);
            ends = omega (arith, begin_is, ends);
            painted = subst (λ (v : Counted g.row.W.Denot). SendsPainted (g.W.Write.contents (inner_of c.args.writer.now)) (g.W.Write.contents (inner_of v)) (take c.if-text-at-eq10.sent text)) (sym w.writer-is)
                (subst (λ (n : ℕ). SendsPainted (g.W.Write.contents (inner_of c.args.writer.now)) (g.W.Write.contents (inner_of c.loop-at.writer)) (take n text)) (sym w.sent-is) so_far.painted);
          }
    ]

pub returns-in_err-sent-clause-cut : goal.returns-in_err-sent-clause-cut
returns-in_err-sent-clause-cut g c =
    let text = c.args.text.now in
    let sent = c.loop-at.sent in
    let end = c.loop-at.at + 1 in
    let so_far = c.loop-at.invariant in
    let begins = so_far.begins in
    let ends = so_far.ends in
    let low : sent ≤ end = omega (arith, begins, ends) in
    let cut = cut_behind _ _ _ (take sent text) (take (end - sent) (drop sent text)) so_far.painted c.in_err-sent.ensures.cut in
    let whole = ap (λ (l : List ℕ). l ++ drop end text) (front_joined text sent end low) ∙ take-append-drop end text in
    whatever_error _ c.from_residual.result
    (subst (λ (l : List ℕ). CutsPainted (g.W.Write.contents (inner_of c.args.writer.now)) (g.W.Write.contents (inner_of c.send_line.new.writer)) l) whole
    (cut_before _ _ (take sent text ++ take (end - sent) (drop sent text)) (drop end text) cut))

-- the rest of a text as the code cuts it off
rest_is : (text : List ℕ) (i : ℕ) → take (length text - i) (drop i text) ≡ drop i text
rest_is text i = take_all (length text - i) (drop i text) (omega (arith, length-drop i text))

pub returns-clause-sent : goal.returns-clause-sent
returns-clause-sent g c =
    let text = c.args.text.now in
    let front = c.loop-at.invariant.painted in
    let rest = rw (rest_is text c.loop-at.sent) at c.send.ensures.bytes in
    whole_sent _ _ text (front.out ++ drop c.loop-at.sent text) c.send.result (rest_painted _ _ text c.loop-at.sent front)
    (sends_more _ _ _ front.out (drop c.loop-at.sent text) c.send.result front.sent rest)

pub returns-clause-cut : goal.returns-clause-cut
returns-clause-cut g c =
    let text = c.args.text.now in
    let front = c.loop-at.invariant.painted in
    let rest = rw (rest_is text c.loop-at.sent) at c.send.ensures.bytes in
    front_sent _ _ text (front.out ++ drop c.loop-at.sent text) c.send.result (rest_painted _ _ text c.loop-at.sent front)
    (sends_more _ _ _ front.out (drop c.loop-at.sent text) c.send.result front.sent rest)
