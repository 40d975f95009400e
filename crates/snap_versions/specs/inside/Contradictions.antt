-- Where the latest begin of the updates up to one comes after the earliest end of those from it on.
use Rattle.std.specs.Prelude.{ℕ, false, List, length, get_or, ◌≡◌, ◌<◌, Option, Some, None}
use Rattle.snap_core.specs.Calls.{is_before}

-- some update has this end, before this begin
pub record HasEndBefore (begins : List ℕ) (ends : List (Option ℕ)) (ended begun : ℕ) : Type 0 where
  pub update : ℕ
  pub within : update < length begins
  pub end : get_or ends update None ≡ Some ended
  pub begin : get_or begins update 0 ≡ begun
  pub before : ended < begun

-- no update has an end before its begin
abbrev pub HasNoEndBefore : List ℕ → List (Option ℕ) → Type 0
HasNoEndBefore begins ends = (update : ℕ) → update < length begins → is_before (get_or ends update None) (get_or begins update 0) ≡ false

abbrev pub IsEndBefore : List ℕ → List (Option ℕ) → Option (ℕ × ℕ) → Type 0
IsEndBefore begins ends None = HasNoEndBefore begins ends
IsEndBefore begins ends (Some places) = HasEndBefore begins ends places.0 places.1
