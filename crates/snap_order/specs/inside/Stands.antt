-- What is tested of a call before it is put after others.
use Rattle.std.specs.Prelude.{ℕ, Bool, true, false, List, Option, length, get_or, ◌≡◌, ◌<◌, ◌⊎◌}
use Rattle.snap_core.specs.declared.entry.Entry.{Entry}
use Rattle.snap_core.specs.Calls.{Call, call_numbered, is_before, is_view, entries_of}
use Rattle.snap_core.specs.Orders.{is_completed, is_update}
use Rattle.snap_order.specs.inside.Shown.{ShowsLast}

-- c may come after calls that left these last entries, with this as their latest begin
pub record MayStand (c : Call) (last : List (Option Entry)) (latest : ℕ) : Type 0 where
  -- it precedes none of them
  pub precedes_none : is_before c.ended latest ≡ false
  pub stands : (is_completed c ≡ true) ⊎ (is_update c ≡ true)
  pub shows : is_view c ≡ true → ShowsLast (entries_of c.operation) last

-- each completed call was seen
abbrev pub SeesCompleted : List Call → List Bool → Type 0
SeesCompleted calls seen = (k : ℕ) → k < length calls → is_completed (call_numbered calls k) ≡ true → get_or seen k false ≡ true
