use Rattle.std.proofs.Common.{◌≡◌, arith}
use Rattle.std.proofs.lemmas.Bool.Decides.{nat_tests}
use Rattle.snap_follow.proofs.Rising.{popped}
use Rattle.snap_follow.proofs.waiting.Waiting.take_first.Goals as goal

pub returns : goal.returns
returns c =
    let more : c.args.self.now.turns.len ≡ 0 → ⊥ = grind (arith, nat_tests, c.if-is_empty.ensures) in
    popped c.pop_front.result c.args.self.now.turns.items c.pop_front.new.self.items c.args.self.now.turns.len _ c.pop_front.ensures.items c.pop_front.ensures.variant more
