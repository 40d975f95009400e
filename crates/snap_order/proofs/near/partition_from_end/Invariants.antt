use Rattle.std.proofs.Common.{length, ◌-◌, ◌≤◌, ◌≡◌, ℕ, Bool, false}
use Rattle.std.specs.List.{AllWithin}
use Rattle.std.specs.List.Sorted.{IsPartitionedBy}
use Rattle.snap_order.specs.inside.Near.{Tests}
use Rattle.snap_order.proofs.near.partition_from_end.Given as goal

abbrev pub invariant-loop-back : goal.invariant-loop-back
invariant-loop-back g l = record {
  before : l.failing ≤ l.back;
  within : l.failing ≤ length l.places;
  rest : (passes : ℕ → Bool) → Tests g.F.Fn l.test passes → IsPartitionedBy passes l.places → AllWithin (λ place. passes place ≡ false) l.places (length l.places - l.failing) (length l.places);
}

abbrev pub decreases-loop-back : goal.decreases-loop-back
decreases-loop-back g l = length l.places - l.back
