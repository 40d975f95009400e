use Rattle.std.proofs.Common.{◌≡◌, length, get_or, true, false, sym, ap, ◌∙◌, arith}
use Rattle.std.specs.List.{AllWithin, SameBelow}
use Rattle.snap_order.proofs.Parts.{IsPartFrom, tail_is_part, failing_from, parted_front, parted_part, point_by_part}
use Rattle.snap_order.proofs.near.partition_near.Goals as goal

pub returns-then-passing-before-clause-parted : goal.returns-then-passing-before-clause-parted
returns-then-passing-before-clause-parted g c = λ passes t parted.
    let xs = c.args.places.now in
    let ys = c.split_at.result.0.now in
    let index = c.partition_from_end-passing.result in
    let same : SameBelow xs ys (length ys) = λ k d b. c.split_at.ensures.by_index.1 k d (omega (arith, b)) in
    let point = c.partition_from_end-passing.ensures.parted passes t (parted_front passes xs parted ys (omega arith) same) in
    let fails : false ≡ passes (get_or xs index 0) = sym (point.1 index 0 (omega arith) (omega arith)) ∙ ap passes (same index 0 (omega arith)) in
    (λ k d a b. sym (ap passes (same k d (omega (arith, b)))) ∙ point.0 k d a b, failing_from passes xs parted index index (omega arith) (omega arith) fails)

pub returns-clause-parted : goal.returns-clause-parted
returns-clause-parted g c = λ passes t parted.
    let xs = c.args.places.now in
    let ys = c.split_at.result.0.now in
    let zs = c.split_at.result.1.now in
    let low = c.partition_from_end-passing.result in
    let same : SameBelow xs ys (length ys) = λ k d b. c.split_at.ensures.by_index.1 k d (omega (arith, b)) in
    let part : IsPartFrom xs zs low = tail_is_part xs zs c.min.result low (omega arith) (omega arith) c.split_at.ensures.by_index.2 in
    let point = c.partition_from_end-passing.ensures.parted passes t (parted_front passes xs parted ys (omega arith) same) in
    let front : AllWithin (λ x. passes x ≡ true) xs 0 low = λ k d a b. sym (ap passes (same k d (omega (arith, b)))) ∙ point.0 k d a b in
    point_by_part passes xs parted zs low part c.partition_from_start.result (omega arith) front (λ k d a b. absurd (omega (arith, a, b)))
    (c.partition_from_start.ensures.parted passes t (parted_part passes xs parted zs low part))
