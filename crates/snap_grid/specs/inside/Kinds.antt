-- Rows of a block that have the same numbers.
use Rattle.std.specs.Prelude.{ℕ, ◌+◌, ◌*◌, ◌-◌, ◌<◌, ◌≡◌, List, [], length, get_or, min, sum_by, Option, IfSome}
use Rattle.std.specs.List.{range_with_len}
use Rattle.snap_grid.specs.declared.kind.Kind.{Kind}
use Rattle.std.specs.declared.alloc.Global.{Global}
use Rattle.std.specs.declared.vec.Vec.{Vec}
use Rattle.snap_grid.specs.Columns.{HaveSameRows, number}
use Rattle.snap_grid.specs.inside.Sweeps.{AreDropsOfOne}

-- two rows have the same number in each column
abbrev pub AreAlike : List (List ℕ) → ℕ → ℕ → Type 0
AreAlike columns a b = (j : ℕ) → j < length columns → number (get_or columns j []) a ≡ number (get_or columns j []) b

-- what a function gives for a row depends only on the row's numbers
abbrev pub IsOfNumbers : List (List ℕ) → (ℕ → ℕ) → Type 0
IsOfNumbers columns f = (a b : ℕ) → AreAlike columns a b → f a ≡ f b

-- what a function gives for the rows of all kinds, each counted as often as there are rows of its kind
abbrev pub sum_of_kinds : (ℕ → ℕ) → ℕ → List Kind → ℕ
sum_of_kinds f first kinds = sum_by (λ kind. kind.times * f (first + kind.row)) kinds

-- the kinds of m rows from `first` on. What depends only on a row's numbers adds up to as much over the kinds as over the rows
pub record AreKinds (columns : List (List ℕ)) (first m : ℕ) (kinds : List Kind) : Type 0 where
  pub within : (k : ℕ) (kind : Kind) → k < length kinds → (get_or kinds k kind).row < m
  pub sums : (f : ℕ → ℕ) → IsOfNumbers columns f → sum_by f (range_with_len first m) ≡ sum_of_kinds f first kinds

-- the kinds of each block, of `rows` rows in all
pub record HaveKinds (columns : List (List ℕ)) (rows : ℕ) (kinds : List (List Kind)) : Type 0 where
  pub blocks : (block : ℕ) → block * 512 < rows → block < length kinds
  pub each : (block : ℕ) (some : List Kind) → block < length kinds → AreKinds columns (block * 512) (min 512 (rows - block * 512)) (get_or kinds block some)

-- what a grid keeps
pub record IsGrid (columns : List (List ℕ)) (begins ends : List ℕ) (kinds : List (List Kind)) (drops : Option (Vec ℕ Global)) : Type 0 where
  pub same : HaveSameRows columns begins ends
  pub kinds_are : HaveKinds columns (length begins) kinds
  pub dropping : IfSome drops (λ counts. AreDropsOfOne columns begins ends counts.items)
