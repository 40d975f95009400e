-- What a cut at a quiet moment keeps, whatever the length of the history, and however many processes may write a component.
use Rattle.std.specs.Prelude.{ℕ, List, ◌++◌, ◌↔◌, ◌≡◌, ◌<◌, All, Contains}
use Rattle.snap_core.specs.declared.entry.Entry.{Entry}
use Rattle.snap_core.specs.declared.event.Event.{Event}
use Rattle.snap_core.specs.Entries.{number_in}
use Rattle.snap_core.specs.declared.event.Event.TheVariants.{BeginUpdate}
use Rattle.snap_core.specs.Bounded.{IsHistoryBy}
use Rattle.snap_core.specs.Events.{EventFits}
use Rattle.snap_core.specs.declared.writers.Writers.{Writers}
use Rattle.snap_core.specs.declared.writers.Writers.TheVariants.{One}
use Rattle.snap_core.specs.Calls.{Call, calls_of}
use Rattle.snap_core.specs.Monotone.{IsMonotone}
use Rattle.snap_core.specs.Regular.{IsRegular}
use Rattle.snap_theory.specs.Versions.{IsAtomicBy}
use Rattle.snap_theory.specs.Windows.{IsQuiet, left_by, nothing, IsRegularFrom, IsAtomicFromBy}
use Rattle.snap_theory.specs.Renumbered.{renumbered, ShowsNoLess}

-- if nothing was left, regular and atomic from that beginning are regular and atomic
abbrev pub RegularFromNothing : Type 0
RegularFromNothing = (calls : List Call) → IsRegularFrom nothing calls ↔ IsRegular calls

abbrev pub AtomicFromNothing : Type 0
AtomicFromNothing = (writers : Writers) (calls : List Call) → IsAtomicFromBy writers nothing calls ↔ IsAtomicBy writers calls

-- regular exactly when both sides of a quiet moment are, the later one from what the earlier one left
abbrev pub RegularJoins : Type 0
RegularJoins =
    (writers : Writers) (before after : List Event) → IsHistoryBy writers (before ++ after) → IsQuiet before →
    IsRegular (calls_of (before ++ after)) ↔ (IsRegular (calls_of before) × IsRegularFrom (left_by before) (calls_of after))

-- a regular history is monotone exactly when both sides are
abbrev pub MonotoneJoins : Type 0
MonotoneJoins =
    (writers : Writers) (before after : List Event) → IsHistoryBy writers (before ++ after) → IsQuiet before → IsRegular (calls_of (before ++ after)) →
    IsMonotone (calls_of (before ++ after)) ↔ (IsMonotone (calls_of before) × IsMonotone (calls_of after))

-- atomic exactly when both sides are, the later one from what the earlier one left
abbrev pub AtomicJoins : Type 0
AtomicJoins =
    (writers : Writers) (before after : List Event) → IsHistoryBy writers (before ++ after) → IsQuiet before →
    IsAtomicBy writers (calls_of (before ++ after)) ↔ (IsAtomicBy writers (calls_of before) × IsAtomicFromBy writers (left_by before) (calls_of after))

-- both sides are histories, the later one with numbers from 1
abbrev pub SidesAreHistories : Type 0
SidesAreHistories =
    (writers : Writers) (before after : List Event) → IsHistoryBy writers (before ++ after) → IsQuiet before →
    IsHistoryBy writers before × IsHistoryBy writers (renumbered (left_by before) after)

-- later updates go on: each has a greater number than what was left of its component. Where a component has one writer, it has the
-- process of the earlier updates too
pub record GoesOn (writers : Writers) (before after : List Event) : Type 0 where
  pub numbers : (p : ℕ) (e : Entry) → Contains after (BeginUpdate p e) → number_in (left_by before e.component) < e.number
  pub process : writers ≡ One → (p q : ℕ) (d e : Entry) → Contains before (BeginUpdate p d) → Contains after (BeginUpdate q e) → d.component ≡ e.component → p ≡ q

-- a history exactly when both sides are, the later one with numbers from 1, and later updates go on
abbrev pub HistoriesJoin : Type 0
HistoriesJoin =
    (writers : Writers) (before after : List Event) → IsQuiet before →
    IsHistoryBy writers (before ++ after) ↔ (IsHistoryBy writers before × IsHistoryBy writers (renumbered (left_by before) after) × GoesOn writers before after)

-- regular from what was left exactly when each view shows that or more, and the history with numbers from 1 is regular
abbrev pub RegularRenumbered : Type 0
RegularRenumbered =
    (writers : Writers) (before after : List Event) → IsHistoryBy writers (before ++ after) → All EventFits after → IsQuiet before →
    IsRegularFrom (left_by before) (calls_of after) ↔ (ShowsNoLess (left_by before) (calls_of after) × IsRegular (calls_of (renumbered (left_by before) after)))

-- if each view shows what was left or more, monotone exactly when the history with numbers from 1 is
abbrev pub MonotoneRenumbered : Type 0
MonotoneRenumbered =
    (writers : Writers) (before after : List Event) → IsHistoryBy writers (before ++ after) → All EventFits after → IsQuiet before → ShowsNoLess (left_by before) (calls_of after) →
    IsMonotone (calls_of after) ↔ IsMonotone (calls_of (renumbered (left_by before) after))

-- atomic from what was left exactly when each view shows that or more, and the history with numbers from 1 is atomic
abbrev pub AtomicRenumbered : Type 0
AtomicRenumbered =
    (writers : Writers) (before after : List Event) → IsHistoryBy writers (before ++ after) → All EventFits after → IsQuiet before →
    IsAtomicFromBy writers (left_by before) (calls_of after) ↔ (ShowsNoLess (left_by before) (calls_of after) × IsAtomicBy writers (calls_of (renumbered (left_by before) after)))
