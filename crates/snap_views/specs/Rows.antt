-- The numbers that entries show of all components, in a row.
use Rattle.std.specs.Prelude.{ℕ, zero, suc, ◌+◌, ◌≡◌, ◌<◌, List, get_or}
use Rattle.snap_core.specs.declared.entry.Entry.{Entry}
use Rattle.snap_core.specs.Entries.{component_count, entry_of, number_in}

-- the number that entries show of a component, 0 if they list none
abbrev pub number_among : List Entry → ℕ → ℕ
number_among es k = number_in (entry_of k es)

-- the number of a component in a row
abbrev pub row_number : List ℕ → ℕ → ℕ
row_number numbers k = get_or numbers k 0

abbrev pub AreNumbersOf : List Entry → List ℕ → Type 0
AreNumbersOf es numbers = (k : ℕ) → k < component_count → row_number numbers k ≡ number_among es k

-- the first numbers are less than the second for some component
abbrev pub IsLessSomewhere : (ℕ → ℕ) → (ℕ → ℕ) → Type 0
IsLessSomewhere f g = (k : ℕ) × (k < component_count) × (f k < g k)

-- the sum of the first n numbers
unfoldable pub sum_below : (ℕ → ℕ) → ℕ → ℕ
sum_below f zero = 0
sum_below f (suc n) = sum_below f n + f n
