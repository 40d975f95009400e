use Rattle.std.proofs.Common.{◌-◌, List, drop, subst, take, ℕ}
use Rattle.snap_core.specs.Counting.{inner_of}
use Rattle.snap_commands.specs.Painting.{CutsPainted, SendsPainted}
use Rattle.snap_commands.proofs.Pieces.{cut_behind, part_cut, part_sent, parts_joined, sent_both, whatever_error}
use Rattle.snap_commands.proofs.verdicts.send_line.Goals as goal

pub returns-in_err-send-clause-cut : goal.returns-in_err-send-clause-cut
returns-in_err-send-clause-cut g c =
    let text = c.args.text.now in
    let part = take (c.args.begin - c.args.sent) (drop c.args.sent text) in
    let line = take (c.args.end - c.args.begin) (drop c.args.begin text) in
    let joined = parts_joined text c.args.sent c.args.begin c.args.end c.requires.begins c.requires.ends in
    whatever_error _ c.from_residual.result
    (subst (λ (l : List ℕ). CutsPainted (g.W.Write.contents (inner_of c.args.writer.now)) (g.W.Write.contents (inner_of c.send.new.self)) l) joined (part_cut _ _ part line c.in_err-send.ensures.bytes))

pub returns-in_err-send_colored-clause-cut : goal.returns-in_err-send_colored-clause-cut
returns-in_err-send_colored-clause-cut g c =
    let text = c.args.text.now in
    let part = take (c.args.begin - c.args.sent) (drop c.args.sent text) in
    let line = take (c.args.end - c.args.begin) (drop c.args.begin text) in
    let joined = parts_joined text c.args.sent c.args.begin c.args.end c.requires.begins c.requires.ends in
    whatever_error _ c.from_residual-in_err-send_colored.result
    (subst (λ (l : List ℕ). CutsPainted (g.W.Write.contents (inner_of c.args.writer.now)) (g.W.Write.contents (inner_of c.send_colored.new.writer)) l) joined
    (cut_behind _ _ _ part line (part_sent _ _ part c.in_ok-send.ensures.bytes) c.in_err-send_colored.ensures.cut))

pub returns-clause-sent : goal.returns-clause-sent
returns-clause-sent g c =
    let text = c.args.text.now in
    let part = take (c.args.begin - c.args.sent) (drop c.args.sent text) in
    let line = take (c.args.end - c.args.begin) (drop c.args.begin text) in
    let joined = parts_joined text c.args.sent c.args.begin c.args.end c.requires.begins c.requires.ends in
    subst (λ (l : List ℕ). SendsPainted (g.W.Write.contents (inner_of c.args.writer.now)) (g.W.Write.contents (inner_of c.send_colored.new.writer)) l) joined
    (sent_both _ _ _ part line (part_sent _ _ part c.in_ok-send.ensures.bytes) c.in_ok-send_colored.ensures.sent)
