-- The completed views by the sums of what they show.
use Rattle.std.specs.Prelude.{ℕ, List, map, length, ◌≡◌, AllPairs}
use Rattle.std.specs.List.{range_with_len}
use Rattle.std.specs.List.Sorted.{IsPermutation}
use Rattle.snap_core.specs.Calls.{Call, views_of}
use Rattle.snap_theory.specs.KeyOrder.{KeyLess}
use Rattle.snap_views.specs.Quick.{shown_sum}
use Rattle.snap_views.specs.Seen.{view_in}
use Rattle.snap_views.specs.declared.view_chain.ViewChain.{ViewChain}

-- the sum of each completed view, by call number
abbrev pub AreViewSums : List Call → List ℕ → Type 0
AreViewSums calls sums = sums ≡ map shown_sum (views_of calls)

-- the sum of the completed view at a place, and the place
abbrev pub summed_at : List Call → ℕ → ℕ × ℕ
summed_at calls place = (shown_sum (view_in calls place), place)

-- the places of all completed views, sorted by their sums and then by place
pub record IsChain (calls : List Call) (places : List ℕ) : Type 0 where
  pub views : IsPermutation (range_with_len 0 (length (views_of calls))) places
  pub sorted : AllPairs (λ a b. KeyLess (summed_at calls a) (summed_at calls b)) places

-- the chain of the completed views, and the sum of each view
pub record IsViewChain (calls : List Call) (chain : ViewChain) : Type 0 where
  pub places : IsChain calls chain.places.items
  pub sums : AreViewSums calls chain.sums.items
