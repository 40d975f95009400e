use Rattle.std.proofs.Common.{◌∙◌, ℕ, map, ap}
use Rattle.std.proofs.lemmas.List.{take_all}
use Rattle.snap_order.proofs.printing.numbers.Goals as goal

pub returns : goal.returns
returns c = c.loop-rank.invariant ∙ ap (map (λ (k : ℕ × ℕ). k.1)) (take_all c.loop-rank._rank-index c.args.keys.now c.loop-rank-test.false)
