use Rattle.std.proofs.Common.{◌≡◌, ◌-◌, ◌+◌, length, take, drop, true, false, refl, arith, length-take, length-drop}
use Rattle.std.specs.List.{AllWithin}
use Rattle.std.proofs.lemmas.Fn.{always_returns_same}
use Rattle.snap_order.proofs.Parts.{passing_to, failing_from, slice_is_part, parted_part, point_by_part}
use Rattle.snap_order.proofs.near.partition_from_end.Goals as goal
use Rattle.snap_order.proofs.near.partition_from_end.Goals.{then-loop-back-test+else-not-test, else-loop-back-test}

pub loop-back-preserved : goal.loop-back-preserved
loop-back-preserved g c = record {
  before = omega arith;
  within = omega arith;
  rest = λ passes t parted.
      let xs = c.args.places.now in
      let at = t _ false record { shown = _; shows = refl; says = record { met = c.if-not-test.ensures } } in
      failing_from passes xs parted (length xs - 1 - c.loop-back.back) (length xs - (c.loop-back.back + 1)) (omega arith) (omega arith) at;
}

pub returns-clause-parted : goal.returns-clause-parted
returns-clause-parted g c = λ passes t parted.
    let xs = c.args.places.now in
    let low = c.saturating_sub-low.result in
    let n = length xs - c.loop-back.failing - low in
    let ys = take n (drop low xs) in
    let size : low + length ys ≡ length xs - c.loop-back.failing = omega (arith, length-take n (drop low xs), length-drop low xs) in
    let part = slice_is_part xs low n (omega arith) in
    let front : AllWithin (λ x. passes x ≡ true) xs 0 low = elim c.loop-back-test.branch [
      | then-loop-back-test+else-not-test w ↦
          let at = t _ true record { shown = _; shows = refl; says = record { met = w.if-not-test.ensures } } in
          passing_to passes xs parted (length xs - 1 - c.loop-back.back) low (omega arith) (omega arith) at
      | else-loop-back-test w ↦ λ k d a b. absurd (omega arith)
    ] in
    let back : AllWithin (λ x. passes x ≡ false) xs (low + length ys) (length xs) = λ k d a b. c.loop-back.invariant.rest passes t parted k d (omega (arith, a, size)) b in
    let key = always_returns_same _ _ _ (λ a r q k. (t a.0.now r record { shown = a.0; shows = refl {a = a.0.now}; says = record { met = k.met.0 } }, k.met.1)) in
    point_by_part passes xs parted ys low part c.partition_point.result c.partition_point.ensures.bound front back
    (c.partition_point.ensures.partitioned passes key (parted_part passes xs parted ys low part))
