use Rattle.std.proofs.Common.{arith}
use Rattle.snap_masks.proofs.Lanes.{first_lane, no_lane}
use Rattle.snap_masks.proofs.mask.Mask.first.Goals as goal

pub returns-then-self-lane-ne0 : goal.returns-then-self-lane-ne0
returns-then-self-lane-ne0 c =
    rw (← c.self.view_is) (first_lane c.self.inside.lanes c.loop-lane.lane c.self.invariant c.loop-lane-test.true (omega (arith, c.if-self-lane-ne0.true)) c.loop-lane.invariant)

pub returns : goal.returns
returns c = rw (← c.self.view_is) (no_lane c.self.inside.lanes c.self.invariant (λ k l. c.loop-lane.invariant k (omega (arith, l, c.loop-lane-test.false))))
