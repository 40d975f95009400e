use Rattle.std.proofs.Common.{◌≡◌, ◌-◌, ◌+◌, length, take, drop, true, false, refl, arith, length-take, length-drop}
use Rattle.std.specs.List.{AllWithin}
use Rattle.std.proofs.lemmas.Fn.{always_returns_same}
use Rattle.snap_order.proofs.Parts.{passing_to, failing_from, slice_is_part, parted_part, point_by_part}
use Rattle.snap_order.proofs.near.partition_from_start.Goals as goal
use Rattle.snap_order.proofs.near.partition_from_start.Goals.{then-loop-ahead-test+else-test, else-loop-ahead-test}

pub loop-ahead-preserved : goal.loop-ahead-preserved
loop-ahead-preserved g c = record {
  before = omega arith;
  within = omega arith;
  front = λ passes t parted.
      let at = t _ true record { shown = _; shows = refl; says = record { met = c.if-test.ensures } } in
      passing_to passes c.args.places.now parted c.loop-ahead.ahead (c.loop-ahead.ahead + 1) (omega arith) (omega arith) at;
}

pub returns-clause-parted : goal.returns-clause-parted
returns-clause-parted g c = λ passes t parted.
    let xs = c.args.places.now in
    let low = c.loop-ahead.passing in
    let n = c.min-high.result - low in
    let ys = take n (drop low xs) in
    let size : length ys ≡ n = omega (arith, length-take n (drop low xs), length-drop low xs) in
    let part = slice_is_part xs low n (omega arith) in
    let back : AllWithin (λ x. passes x ≡ false) xs (low + length ys) (length xs) = elim c.loop-ahead-test.branch [
      | then-loop-ahead-test+else-test w ↦
          let at = t _ false record { shown = _; shows = refl; says = record { met = w.if-test.ensures } } in
          failing_from passes xs parted c.loop-ahead.ahead (low + length ys) (omega arith) (omega arith) at
      | else-loop-ahead-test w ↦ λ k d a b. absurd (omega arith)
    ] in
    let key = always_returns_same _ _ _ (λ a r q k. (t a.0.now r record { shown = a.0; shows = refl {a = a.0.now}; says = record { met = k.met.0 } }, k.met.1)) in
    point_by_part passes xs parted ys low part c.partition_point.result c.partition_point.ensures.bound (c.loop-ahead.invariant.front passes t parted) back
    (c.partition_point.ensures.partitioned passes key (parted_part passes xs parted ys low part))
