-- What a tally says of a history, whatever its length, and how tallies of ranges add up.
use Rattle.std.specs.Prelude.{◌≤◌, ℕ, List, [], length, ◌++◌, ◌≡◌, ◌↔◌}
use Rattle.snap_core.specs.declared.event.Event.{Event}
use Rattle.snap_core.specs.Ordered.{IsOrdered}
use Rattle.snap_core.specs.Bounded.{IsBoundedOrdered}
use Rattle.snap_core.specs.Events.{HasByteComponents}
use Rattle.snap_core.specs.Calls.{Call, calls_of, views_of}
use Rattle.snap_core.specs.Monotone.{IsMonotone}
use Rattle.snap_core.specs.Regular.{IsRegular}
use Rattle.snap_theory.specs.Conditions.{MeetsConditions}
use Rattle.snap_theory.specs.Faults.{HasNoFault}
use Rattle.snap_conditions.specs.Tally.{tally_of, no_fault, merged, SumsFit, CountsNoLocalFault, CountsNoFault}
use Rattle.snap_views.specs.Seen.{views_between}

-- the tally of no view has no fault; the tally of two ranges of views, one after the other, is the merge of their tallies
pub record TalliesJoin (calls : List Call) : Type 0 where
  pub nothing : tally_of calls [] ≡ no_fault
  pub both : (rs ss : List Call) → tally_of calls (rs ++ ss) ≡ merged (tally_of calls rs) (tally_of calls ss)
  pub adjoining : (from middle to : ℕ) → from ≤ middle → middle ≤ to → tally_of calls (views_between calls from to) ≡ merged (tally_of calls (views_between calls from middle)) (tally_of calls (views_between calls middle to))
  pub whole : views_between calls 0 (length (views_of calls)) ≡ views_of calls

-- the sum of the counts of two adjoining ranges fits the type of a count
abbrev pub TalliesFit : Type 0
TalliesFit =
    (events : List Event) → IsBoundedOrdered events → (from middle to : ℕ) → from ≤ middle → middle ≤ to → to ≤ length (views_of (calls_of events)) →
    SumsFit (tally_of (calls_of events) (views_between (calls_of events) from middle)) (tally_of (calls_of events) (views_between (calls_of events) middle to))

-- regular exactly when the tally of all completed views counts no fault of one view alone
abbrev pub RegularByTally : Type 0
RegularByTally = (events : List Event) → IsOrdered events → HasByteComponents events → CountsNoLocalFault (tally_of (calls_of events) (views_of (calls_of events))) ↔ IsRegular (calls_of events)

-- monotone exactly when the tally of all completed views counts no stale view
abbrev pub MonotoneByTally : Type 0
MonotoneByTally = (calls : List Call) → ((tally_of calls (views_of calls)).stale ≡ 0) ↔ IsMonotone calls

-- the four conditions hold exactly when the tally of all completed views counts no fault
abbrev pub ConditionsByTally : Type 0
ConditionsByTally = (events : List Event) → IsOrdered events → HasByteComponents events → CountsNoFault (tally_of (calls_of events) (views_of (calls_of events))) ↔ MeetsConditions (calls_of events)

abbrev pub NoFaultByTally : Type 0
NoFaultByTally = (calls : List Call) → CountsNoFault (tally_of calls (views_of calls)) ↔ HasNoFault calls
