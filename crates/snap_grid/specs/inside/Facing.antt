-- Our rows against those of another block, in some columns.
use Rattle.std.specs.Prelude.{ℕ, true, ◌<◌, ◌≤◌, ◌≡◌, Bool, ◌||◌, List, length, get_or}
use Rattle.std.specs.List.{list_any}
use Rattle.snap_masks.specs.declared.facing.Facing.{Facing}
use Rattle.snap_grid.specs.Columns.{number, passes}
use Rattle.snap_masks.specs.Masks.{mask_below}

-- whether our row has in some of the columns a greater number than theirs, if `more`; else a smaller number
abbrev pub any_faces : Bool → List Facing → ℕ → ℕ → Bool
any_faces more columns a b = list_any (λ column. passes more (number column.ours.now a) (number column.theirs.now b)) columns

-- whether that follows from bounds, from columns that have a table, or from columns that have none
abbrev pub faces : Bool → Bool → List Facing → List Facing → ℕ → ℕ → Bool
faces more told near far a b = (told || any_faces more near a b) || any_faces more far a b

-- each column has a table
abbrev pub AreTabled : List Facing → Type 0
AreTabled columns = (j : ℕ) (column : Facing) → j < length columns → 0 < length (get_or columns j column).under.now

-- no column has a table
abbrev pub AreFar : List Facing → Type 0
AreFar columns = (j : ℕ) (column : Facing) → j < length columns → length (get_or columns j column).under.now ≡ 0

-- columns of n of our rows and m of their rows
pub record AreFacing (columns : List Facing) (n m : ℕ) : Type 0 where
  pub ours : (j : ℕ) (column : Facing) → j < length columns → length (get_or columns j column).ours.now ≡ n
  pub theirs : (j : ℕ) (column : Facing) → j < length columns → length (get_or columns j column).theirs.now ≡ m

-- the mask of all of our n rows; n and m are at most 512
pub record IsWhole (all n m : ℕ) : Type 0 where
  pub few : n ≤ 512
  pub few_theirs : m ≤ 512
  pub whole : all ≡ mask_below (λ a. true) n
