-- What blocks keep.
use Rattle.std.specs.Prelude.{ℕ, true, ◌+◌, ◌<◌, ◌≤◌, ◌≡◌, List, [], length, get_or, take, drop}
use Rattle.snap_masks.specs.Masks.{mask_below}

-- each column has at least n rows
abbrev pub HaveRows : List (List ℕ) → ℕ → Type 0
HaveRows columns n = (j : ℕ) → j < length columns → n ≤ length (get_or columns j [])

-- the masks of n rows from `from` on, column by column, and the mask of all
pub record AreRows (columns masks : List (List ℕ)) (from n all : ℕ) : Type 0 where
  pub few : n ≤ 512
  pub count : length masks ≡ length columns
  pub within : HaveRows columns (from + n)
  pub masked : (j : ℕ) → j < length columns → get_or masks j [] ≡ take n (drop from (get_or columns j []))
  pub whole : all ≡ mask_below (λ a. true) n
