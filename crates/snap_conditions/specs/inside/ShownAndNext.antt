-- The updates around a view, of each component: the one that it shows and the next one.
use Rattle.std.specs.Prelude.{ℕ, suc, ◌≡◌, ◌<◌, ◌≤◌, true, ⊤, IsTrue, List, [], ◌∷◌, get_or}
use Rattle.std.specs.List.{All}
use Rattle.snap_core.specs.declared.entry.Entry.{Entry}
use Rattle.snap_core.specs.Calls.{Call, entries_of, shown_number}
use Rattle.snap_core.specs.Entries.{component_count, rises}
use Rattle.snap_conditions.specs.declared.shown_and_next.ShownAndNext.{ShownAndNext}
use Rattle.snap_conditions.specs.inside.Limits.{IsLimit}
use Rattle.snap_conditions.specs.inside.Places.{value_of, begin_of, end_of, is_written, value_or_none, begin_or_0}
use Rattle.snap_views.specs.Seen.{end_or_never}
use Rattle.snap_theory.specs.Updates.{update_of}
use Rattle.snap_views.specs.Rows.{number_among}

-- the value of the update that a view shows of a component; a number that no update writes if there is no such update
abbrev pub value_shown : List Call → Call → ℕ → ℕ
value_shown calls r k = value_or_none (value_of (update_of calls k (shown_number r k)))

-- the place at which the update that a view shows of a component begins, 0 if there is no such update
abbrev pub begin_shown : List Call → Call → ℕ → ℕ
begin_shown calls r k = begin_or_0 (begin_of (update_of calls k (shown_number r k)))

-- the place at which the next update ends; a place after all begins if there is none or it is pending
abbrev pub end_next : List Call → Call → ℕ → ℕ
end_next calls r k = end_or_never (end_of (update_of calls k (suc (shown_number r k))))

-- an entry is the number and the value of an update
abbrev pub IsWritten : List Call → Entry → Type 0
IsWritten calls e = is_written (update_of calls e.component e.number) e ≡ true

-- these values and places for a view, and its numbers below the limit
pub record IsOfView (calls : List Call) (r : Call) (updates : ShownAndNext) : Type 0 where
  pub limit : IsLimit calls updates.limit
  pub numbers : (k : ℕ) → k < updates.limit → get_or updates.numbers k 0 ≡ shown_number r k
  pub values : (k : ℕ) → k < component_count → get_or updates.values k 0 ≡ value_shown calls r k
  pub begins : (k : ℕ) → k < component_count → get_or updates.begins k 0 ≡ begin_shown calls r k
  pub ends : (k : ℕ) → k < component_count → get_or updates.ends k 0 ≡ end_next calls r k
  pub latest : (k : ℕ) → k < component_count → begin_shown calls r k ≤ updates.latest
  pub earliest : (k : ℕ) → k < component_count → updates.earliest ≤ end_next calls r k
  pub written : IsTrue updates.written → All (IsWritten calls) (entries_of r.operation)

-- the updates around the number of each component
pub record AreAround (calls : List Call) (updates : ShownAndNext) : Type 0 where
  pub values : (k : ℕ) → k < component_count → get_or updates.values k 0 ≡ value_or_none (value_of (update_of calls k (get_or updates.numbers k 0)))
  pub begins : (k : ℕ) → k < component_count → get_or updates.begins k 0 ≡ begin_or_0 (begin_of (update_of calls k (get_or updates.numbers k 0)))
  pub ends : (k : ℕ) → k < component_count → get_or updates.ends k 0 ≡ end_or_never (end_of (update_of calls k (suc (get_or updates.numbers k 0))))

-- the updates around the entries of the last view
pub record IsOfEntries (calls : List Call) (updates : ShownAndNext) : Type 0 where
  pub limit : IsLimit calls updates.limit
  pub numbers : (k : ℕ) → k < updates.limit → get_or updates.numbers k 0 ≡ number_among updates.entries.now k
  pub around : AreAround calls updates
  pub latest : (k : ℕ) → k < component_count → get_or updates.begins k 0 ≤ updates.latest
  pub earliest : (k : ℕ) → k < component_count → updates.earliest ≤ get_or updates.ends k 0
  pub written : IsTrue updates.written → All (IsWritten calls) updates.entries.now

-- the value at an entry's component is that of the update of its number
abbrev pub IsValueOf : List Call → ShownAndNext → Entry → Type 0
IsValueOf calls updates e = get_or updates.values e.component 0 ≡ value_or_none (value_of (update_of calls e.component e.number))

-- the first entry, if there is one, is of component k or of a greater one
abbrev pub StartsFrom : ℕ → List Entry → Type 0
StartsFrom k [] = ⊤
StartsFrom k (e ∷ es) = k ≤ e.component

-- the entries that are left of all of them: those of component k and of greater ones
pub record AreFrom (k : ℕ) (all left : List Entry) : Type 0 where
  pub rising : rises left ≡ true
  pub starts : StartsFrom k left
  pub numbers : (j : ℕ) → k ≤ j → number_among left j ≡ number_among all j
