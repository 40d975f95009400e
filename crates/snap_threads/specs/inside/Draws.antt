-- The rule of the counter's table.
use Rattle.std.specs.Prelude.{◌≡◌, ℕ, ◌-◌, ◌≤◌, zero, suc, nat_lt, List, [], ◌∷◌, ◌++◌, length, slice_index}
use mathlib.Core.Option.{some}
use lib.ListN.{get_elem?}
use Rattle.atomic_table.specs.Table.{State, Me, Step}
use Rattle.snap_core.specs.Sums.{total, one_if, times, once_below}
use Rattle.snap_threads.specs.Draws.{Hand, first_of}

-- the number of elements of the list that are at or above p
abbrev pub past : ℕ → List ℕ → ℕ
past p xs = total (λ y. one_if (nat_lt p (suc y))) xs

-- n claims that drew nothing
abbrev pub empties : ℕ → Hand
empties zero = []
empties (suc n) = [] ∷ empties n

-- the numbers in all lists are those below the counter, each once, and each list has at most one at or above the pieces
pub record IsDrawn (pieces workers : ℕ) (s : State (Unit {0}) Hand) : Type 0 where
  -- the counter is the only word
  pub words : length s.words ≡ 1
  pub each : (x : ℕ) → total (λ hand. total (times x) hand) s.views ≡ once_below x (slice_index s.words 0)
  pub one : (seat : ℕ) (hand : Hand) → get_elem? s.views seat ≡ some hand → (j : ℕ) (xs : List ℕ) → get_elem? hand j ≡ some xs → past pieces xs ≤ 1
  -- there is a list for each worker
  pub lists : total (λ hand. length hand) s.views ≡ workers
  pub above : total (λ hand. total (past pieces) hand) s.views ≡ slice_index s.words 0 - pieces

abbrev pub only_first : Hand → Hand
only_first [] = []
only_first (x ∷ xs) = x ∷ []

abbrev pub but_first : Hand → Hand
but_first [] = []
but_first (x ∷ xs) = xs

abbrev pub add_first : ℕ → Hand → Hand
add_first n [] = []
add_first n (x ∷ xs) = (x ++ n ∷ []) ∷ xs

-- a draw puts the number that it found after the others, of which there were at most that many
abbrev pub DrawsFound : Step (Unit {0}) → Me (Unit {0}) Hand → ℕ → Me (Unit {0}) Hand → Type 0
DrawsFound step me found now = (now ≡ (add_first found me.0, me.1)) × (length (first_of me.0) ≤ found)
