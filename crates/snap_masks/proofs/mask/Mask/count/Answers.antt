use Rattle.std.proofs.Common.{◌≤◌, sym, ap, ◌∙◌, arith}
use Rattle.std.specs.Prelude.{count_ones, sum_by}
use Rattle.std.proofs.lemmas.List.{take_all}
use Rattle.std.proofs.lemmas.List.Sums.{sum_by_more_le}
use Rattle.snap_masks.proofs.Lanes.{ones_lanes, few_sum}
use Rattle.snap_masks.proofs.mask.Mask.count.Goals as goal

pub overflow_add-count : goal.overflow_add-count
overflow_add-count c =
    let lanes = c.self.inside.lanes in
    let few : sum_by count_ones lanes ≤ 512 = omega (arith, few_sum lanes c.self.invariant.small, c.self.invariant.count) in
    record { fits = omega (arith, few, c.loop-lane.invariant, sum_by_more_le count_ones lanes c.loop-lane.lane 0 (omega (arith, c.loop-lane-test.true, c.self.invariant.count))) }

pub returns : goal.returns
returns c =
    let lanes = c.self.inside.lanes in
    rw (← c.self.view_is) (c.loop-lane.invariant ∙ ap (sum_by count_ones) (take_all c.loop-lane.lane lanes (omega (arith, c.loop-lane-test.false, c.self.invariant.count))) ∙ sym (ones_lanes lanes c.self.invariant.small))
