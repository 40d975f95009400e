-- The places at which updates begin and end, and the tests of faults by these places.
use Rattle.std.specs.Prelude.{ℕ, ◌≤◌, ⊤, Bool, false, List, Option, Some, None, get_or, unwrap_or}
use Rattle.snap_core.specs.declared.entry.Entry.{Entry}
use Rattle.snap_core.specs.Calls.{Call, is_before}
use Rattle.snap_index.specs.IndexedCalls.{value_written}
use Rattle.snap_theory.specs.Faults.{writes_entry}
use Rattle.snap_theory.specs.Updates.{update_of}

-- the place at which a call ended, if there is a call and it ended
abbrev pub end_of : Option Call → Option ℕ
end_of None = None
end_of (Some a) = a.ended

-- the place at which a call began, if there is a call
abbrev pub begin_of : Option Call → Option ℕ
begin_of None = None
begin_of (Some a) = Some a.begun

-- the value of an update, if there is one
abbrev pub value_of : Option Call → Option ℕ
value_of None = None
value_of (Some a) = Some (value_written a.operation)

-- a begin that comes after an end
abbrev pub begins_behind : Option ℕ → Option ℕ → Bool
begins_behind ended None = false
begins_behind ended (Some begun) = is_before ended begun

-- whether a call is the update that writes an entry
abbrev pub is_written : Option Call → Entry → Bool
is_written None e = false
is_written (Some c) e = writes_entry c.operation e

-- a begin that is not later than another, or no begin at all
abbrev pub IsNoLater : Option ℕ → Option ℕ → Type 0
IsNoLater None latest = ⊤
IsNoLater (Some begun) None = ⊥
IsNoLater (Some begun) (Some latest) = begun ≤ latest

-- the place at which the update that an entry shows began, if there is one
abbrev pub begin_of_shown : List Call → List Entry → ℕ → Option ℕ
begin_of_shown calls entries i = let e = get_or entries i (record { component = 0; number = 0; value = 0 }) in begin_of (update_of calls e.component e.number)

-- a value; without a value, a number that no update writes
abbrev pub value_or_none : Option ℕ → ℕ
value_or_none value = unwrap_or value 4294967296

-- a begin, or 0 if there is none
abbrev pub begin_or_0 : Option ℕ → ℕ
begin_or_0 begun = unwrap_or begun 0
