-- The place at which a test stops to hold.
use Rattle.std.specs.Borrow.{Bor}
use Rattle.std.specs.Prelude.{ℕ, Bool, true, false, List, ◌≡◌}
use Rattle.std.specs.Fn.{Shared, FnReturnsAt}
use Rattle.std.specs.List.Sorted.{IsPartitionedBy, IsPartitionPoint}

-- each call of a test answers what `passes` gives for the place
abbrev pub Tests : {F : Type 0} → Shared F (Bor ℕ × Unit {0}) Bool → F → (ℕ → Bool) → Type 0
Tests g test passes = (place : ℕ) (answer : Bool) → FnReturnsAt g test place answer → answer ≡ passes place

-- if places that pass a test come before those that do not, it holds for those before an index, and for no others
abbrev pub PartsAt : {F : Type 0} → Shared F (Bor ℕ × Unit {0}) Bool → F → List ℕ → ℕ → Type 0
PartsAt g test places i = (passes : ℕ → Bool) → Tests g test passes → IsPartitionedBy passes places → IsPartitionPoint (λ place. passes place ≡ true) (λ place. passes place ≡ false) places i
