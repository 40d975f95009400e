-- The greatest sums of the completed views that ended before each place of a history, found by a sweep over its places.
use Rattle.std.specs.Prelude.{ℕ, suc, List, length, get_or, Some, ◌≡◌, ◌<◌, ◌≤◌, ◌⊎◌}
use Rattle.snap_core.specs.Calls.{Call, views_of}
use Rattle.snap_views.specs.Quick.{shown_sum}
use Rattle.snap_views.specs.Seen.{view_in}

-- the sum of a completed view that ended before a place
pub record IsSumBefore (calls : List Call) (place sum : ℕ) : Type 0 where
  pub view : ℕ
  pub within : view < length (views_of calls)
  pub ended : ℕ
  pub ends : (view_in calls view).ended ≡ Some ended
  pub before : ended < place
  pub is : sum ≡ shown_sum (view_in calls view)

-- each place has 0, or the sum of a view that ended before it. Before the place `reached`, each place after the end of one of the
-- first n completed views has at least that view's sum. From there on, the first place after its end has
pub record IsSwept (calls : List Call) (n reached : ℕ) (sums : List ℕ) : Type 0 where
  pub most : (view ended place : ℕ) → view < n → (view_in calls view).ended ≡ Some ended → ended < place → place < length sums → (reached ≤ place → suc ended ≡ place) → shown_sum (view_in calls view) ≤ get_or sums place 0
  pub some : (place : ℕ) → place < length sums → (get_or sums place 0 ≡ 0) ⊎ IsSumBefore calls place (get_or sums place 0)
