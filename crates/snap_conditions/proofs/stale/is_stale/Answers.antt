use Rattle.std.proofs.Common.{◌&&◌, sym, ap, ◌∙◌}
use Rattle.snap_theory.specs.Faults.{exceeds}
use Rattle.snap_conditions.proofs.SeenPairs.{exceeds_seen, stale_seen}
use Rattle.snap_conditions.proofs.stale.is_stale.Goals as goal

pub returns-then-is_before : goal.returns-then-is_before
returns-then-is_before c = λ r s v w.
    let test = stale_seen r s c.args.view.now c.args.other.now v w ∙ ap (λ b. b && exceeds r s) (sym c.is_before.ensures ∙ c.if-is_before.true) in
    sym (test ∙ exceeds_seen r s c.args.view.now c.args.other.now c.args.row.now c.compare.result.first v w c.requires.row c.compare.ensures.first)

pub returns-else-is_before : goal.returns-else-is_before
returns-else-is_before c = λ r s v w.
    c.if-is_before.false ∙ sym (stale_seen r s c.args.view.now c.args.other.now v w ∙ ap (λ b. b && exceeds r s) (sym c.is_before.ensures ∙ c.if-is_before.false))
