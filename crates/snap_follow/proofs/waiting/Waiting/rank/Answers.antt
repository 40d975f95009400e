use Rattle.std.proofs.Common.{◌≡◌, ◌<◌, ◌∙◌, ap, arith, length}
use Rattle.snap_follow.proofs.Rising.{same_at}
use Rattle.snap_follow.proofs.waiting.Waiting.rank.Goals.{then-low-eq0, else-low-eq0}
use Rattle.snap_follow.proofs.waiting.Waiting.rank.Goals as goal

pub returns-then-found-at : goal.returns-then-found-at
returns-then-found-at c =
    let turns = c.args.self.now.turns.items in
    let middle = c.if-low-eq0.middle in
    let below : middle < length turns = elim c.if-low-eq0.branch [
      | then-low-eq0 w ↦ omega (arith, w.middle-is, w.saturating_sub-middle.ensures, c.loop-low-test.true, c.loop-low.invariant.goes, c.loop-low.invariant.within.1)
      | else-low-eq0 w ↦ omega (arith, w.middle-is, c.loop-low-test.true, c.loop-low.invariant.within.1)
    ] in
    let same : c.index.result.now.at ≡ c.args.at = omega (arith, c.if-found-at.true) in
    (middle, below, λ d. ap (λ t. t.at) (same_at turns middle c.index.result.now d below c.index.ensures) ∙ same)
