-- How the numbers of two views compare, component by component.
use Rattle.std.specs.Prelude.{ℕ, ◌+◌, ◌≡◌, ◌<◌, nat_lt, List, Option, find, get_or}
use Rattle.snap_core.specs.Entries.{component_count}
use Rattle.snap_theory.specs.Faults.{components}
use Rattle.snap_views.specs.Rows.{row_number, sum_below}

-- the least component of which the first numbers are less than the second
unfoldable pub first_less : (ℕ → ℕ) → (ℕ → ℕ) → Option ℕ
first_less f g = find (λ k. nat_lt (f k) (g k)) components

-- for each component, the sum of its number and of the numbers of the components below it
abbrev pub AreSums : List ℕ → List ℕ → Type 0
AreSums numbers sums = (k : ℕ) → k < component_count → get_or sums k 0 ≡ sum_below (row_number numbers) (k + 1)
