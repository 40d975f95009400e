-- The fault laws, put together.
use Rattle.std.proofs.Common.{List}
use Rattle.snap_core.specs.declared.event.Event.{Event}
use Rattle.snap_core.specs.Events.{IsHistory, HasByteComponents}
use Rattle.snap_core.specs.Calls.{calls_of}
use Rattle.snap_theory.specs.Conditions.{MeetsConditions}
use Rattle.snap_theory.specs.Faults.{HasNoFault}
use Rattle.snap_theory.specs.FaultLaws.{RegularExactly, ConditionsExactly}
use Rattle.snap_core.specs.Ordered.{IsOrdered}
use Rattle.snap_theory.specs.VersionLaws.{OrderedRegularExactly, OrderedConditionsExactly}
use Rattle.snap_theory.proofs.Local.{local_from_tests, conditions_from_tests, local_tests, all_tests, regular_meets, meets_regular}
use Rattle.snap_theory.proofs.FaultLists.{tests_from_local, tests_from_none, local_from_passes, none_from_passes}
use Rattle.snap_core.proofs.Histories.{byte_components}
use Rattle.snap_core.proofs.Ordered.{are_ordered_calls, history_is_ordered}

pub ordered_meets : (events : List Event) → IsOrdered events → HasByteComponents events → HasNoFault (calls_of events) → MeetsConditions (calls_of events)
ordered_meets es h b n =
    let f = are_ordered_calls es h in
    conditions_from_tests (calls_of es) f (tests_from_none (calls_of es) f (byte_components es b) n)

pub none_from_meets : (events : List Event) → MeetsConditions (calls_of events) → HasNoFault (calls_of events)
none_from_meets es m = none_from_passes (calls_of es) (all_tests (calls_of es) m)

pub ordered_regular_exactly : OrderedRegularExactly
ordered_regular_exactly es h b =
    let f = are_ordered_calls es h in (
      λ r. local_from_passes (calls_of es) (local_tests (calls_of es) (regular_meets (calls_of es) f r)),
      λ n. meets_regular (calls_of es) f (local_from_tests (calls_of es) f (tests_from_local (calls_of es) (byte_components es b) n)),
    )

pub ordered_conditions_exactly : OrderedConditionsExactly
ordered_conditions_exactly es h b = (none_from_meets es, ordered_meets es h b)

-- of a history with one writer of each component

pub meets_from_none : (events : List Event) → IsHistory events → HasByteComponents events → HasNoFault (calls_of events) → MeetsConditions (calls_of events)
meets_from_none es h = ordered_meets es (history_is_ordered es h)

pub regular_exactly : RegularExactly
regular_exactly es h = ordered_regular_exactly es (history_is_ordered es h)

pub conditions_exactly : ConditionsExactly
conditions_exactly es h = ordered_conditions_exactly es (history_is_ordered es h)
