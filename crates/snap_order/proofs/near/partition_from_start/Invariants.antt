use Rattle.std.proofs.Common.{length, ◌-◌, ◌≤◌, ◌≡◌, ℕ, Bool, true}
use Rattle.std.specs.List.{AllWithin}
use Rattle.std.specs.List.Sorted.{IsPartitionedBy}
use Rattle.snap_order.specs.inside.Near.{Tests}
use Rattle.snap_order.proofs.near.partition_from_start.Given as goal

abbrev pub invariant-loop-ahead : goal.invariant-loop-ahead
invariant-loop-ahead g l = record {
  before : l.passing ≤ l.ahead;
  within : l.passing ≤ length l.places;
  front : (passes : ℕ → Bool) → Tests g.F.Fn l.test passes → IsPartitionedBy passes l.places → AllWithin (λ place. passes place ≡ true) l.places 0 l.passing;
}

abbrev pub decreases-loop-ahead : goal.decreases-loop-ahead
decreases-loop-ahead g l = length l.places - l.ahead
