-- The quick test for read faults: sums of the numbers that views show, and which of two views shows more.
use Rattle.std.specs.Prelude.{ℕ, true, false, List, [], ◌≡◌, ◌≤◌, ◌↔◌}
use Rattle.std.specs.List.{sum_by}
use Rattle.snap_core.specs.declared.entry.Entry.{Entry}
use Rattle.snap_core.specs.declared.event.Event.{Event}
use Rattle.snap_core.specs.Events.{HasByteComponents}
use Rattle.snap_core.specs.Calls.{Call, calls_of, views_of, precedes, shown_number}
use Rattle.snap_core.specs.Regular.{IsViewOf}
use Rattle.snap_theory.specs.Faults.{components, exceeds, read_faults}

-- the sum of the numbers that a view shows
unfoldable pub shown_sum : Call → ℕ
shown_sum r = sum_by (shown_number r) components

-- the sum of the numbers of some entries
abbrev pub entry_sum : List Entry → ℕ
entry_sum es = sum_by (λ e. e.number) es

-- of any two completed views, one shows no component above the other's
abbrev pub AreComparable : List Call → Type 0
AreComparable calls = (r s : Call) → IsViewOf calls r → IsViewOf calls s → exceeds r s ≡ true → exceeds s r ≡ false

-- no completed view precedes one with a smaller sum
abbrev pub AreOrdered : List Call → Type 0
AreOrdered calls = (r s : Call) → IsViewOf calls r → IsViewOf calls s → precedes r s ≡ true → shown_sum r ≤ shown_sum s

-- the quick test, which comes before a comparison of pairs of views
pub record PassesQuickTest (calls : List Call) : Type 0 where
  pub comparable : AreComparable calls
  pub ordered : AreOrdered calls

-- there is no read fault exactly when the quick test passes
abbrev pub NoReadFaultExactly : Type 0
NoReadFaultExactly = (events : List Event) → HasByteComponents events → (read_faults (calls_of events) (views_of (calls_of events)) ≡ []) ↔ PassesQuickTest (calls_of events)
