-- Clashes of rows with others.
use Rattle.std.specs.Prelude.{ℕ, ◌+◌, ◌<◌, ◌≡◌, Bool, false, sum_by, count_by}
use Rattle.std.specs.List.{range_with_len, list_any}
use Rattle.snap_grid.specs.declared.grid.Clashing.{Clashing}
use Rattle.snap_grid.specs.Columns.{GridValue, clashes, drops}
use Rattle.snap_masks.specs.Masks.{mask_below}

-- the number of pairs that pass a test, of n rows from `from` on and m rows from `first` on
abbrev pub pair_count : (ℕ → ℕ → Bool) → ℕ → ℕ → ℕ → ℕ → ℕ
pair_count p from n first m = sum_by (λ b. count_by (λ a. p (from + a) b) (range_with_len 0 n)) (range_with_len first m)

-- none of n rows from `from` on clashes with one of m rows from `first` on, or drops to it
abbrev pub AreApart : GridValue → ℕ → ℕ → ℕ → ℕ → Type 0
AreApart g from n first m = (a b : ℕ) → a < n → b < m → (clashes g (from + a) (first + b) ≡ false) × (drops g (from + a) (first + b) ≡ false)

-- the clashes and the drops of n rows from `from` on against m rows from `first` on
pub record ClashesWith (g : GridValue) (from n first m : ℕ) (c : Clashing) : Type 0 where
  pub count : c.count ≡ pair_count (clashes g) from n first m
  pub drops : c.drops ≡ pair_count (drops g) from n first m
  pub rows : c.rows ≡ mask_below (λ a. list_any (λ b. clashes g (from + a) b) (range_with_len first m)) n
