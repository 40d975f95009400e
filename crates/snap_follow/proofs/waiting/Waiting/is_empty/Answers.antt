use Rattle.std.proofs.Common.{◌≡◌, ◌∙◌, ap, arith, length}
use Rattle.std.specs.Prelude.{◌==◌}
use Rattle.snap_follow.proofs.waiting.Waiting.is_empty.Goals as goal

pub returns : goal.returns
returns c =
    let same : c.args.self.now.turns.len ≡ length c.args.self.now.turns.items = omega (arith, c.args.self.now.turns.ok.0) in
    c.is_empty.ensures ∙ ap (λ n. n == 0) same
