-- The desks that are in, by what is kept of each.
use Rattle.std.specs.Prelude.{◌≡◌, ℕ, ◌<◌, ◌≤◌, zero, suc, true, cond, nat_lt, Option, Some, None, IsSome, List, [], ◌∷◌, ◌++◌, slice_index_or}
use Rattle.snap_core.specs.declared.entry.Entry.{Entry}
use Rattle.snap_board.specs.declared.desk_state.DeskState.{DeskState}
use Rattle.snap_account.specs.Seats.{Brief}
use Rattle.snap_account.specs.Limits.{tick_cap}

abbrev pub brief_of : ℕ → DeskState → Brief
brief_of d k = record { desk = d; ticks = k.ticks; number = k.stores; value = k.value; idle = true }

abbrev pub slot_brief : ℕ → Option DeskState → List Brief
slot_brief d None = []
slot_brief d (Some k) = brief_of d k ∷ []

-- the desks below n that are in, the highest first
abbrev pub desks_in : ℕ → List (Option DeskState) → List Brief
desks_in zero slots = []
desks_in (suc d) slots = slot_brief d (slice_index_or slots d None) ++ desks_in d slots

abbrev pub AreSmall : List (Option DeskState) → Type 0
AreSmall slots = (d : ℕ) (k : DeskState) → slice_index_or slots d None ≡ Some k → (k.stores ≤ k.ticks) × (k.ticks ≤ tick_cap)

-- all desks below n are in
abbrev pub AllIn : ℕ → List (Option DeskState) → Type 0
AllIn n slots = (d : ℕ) → d < n → IsSome (slice_index_or slots d None)

-- none of the desks from d up to n is in
abbrev pub NoneFrom : ℕ → ℕ → List (Option DeskState) → Type 0
NoneFrom d n slots = (k : ℕ) → d ≤ k → k < n → slice_index_or slots k None ≡ None

abbrev pub no_calls : DeskState
no_calls = record { ticks = 0; stores = 0; value = 0 }

-- the desks below n are in, with no calls
abbrev pub Fresh : ℕ → List (Option DeskState) → Type 0
Fresh n slots = (k : ℕ) → slice_index_or slots k None ≡ cond (nat_lt k n) (Some no_calls) None

-- what is kept of desk d, as the entry that it stored last
abbrev pub kept_entry : ℕ → Option DeskState → Option Entry
kept_entry d None = None
kept_entry d (Some k) = cond (nat_lt 0 k.stores) (Some (record { component = d; number = k.stores; value = k.value })) None

-- the last stores of the desks below n, by what is kept of each
abbrev pub HasLast : ℕ → List (Option DeskState) → List (Option Entry) → Type 0
HasLast n slots last = (k : ℕ) → k < n → slice_index_or last k None ≡ kept_entry k (slice_index_or slots k None)
