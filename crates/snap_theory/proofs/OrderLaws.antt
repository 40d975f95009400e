-- The laws of orders, put together.
use Rattle.std.proofs.Common.{◌↔◌, List, sym, subst}
use Rattle.snap_core.specs.declared.writers.Writers.{Writers}
use Rattle.snap_core.specs.declared.writers.Writers.TheVariants.{One, Many}
use Rattle.snap_core.specs.Bounded.{IsHistoryBy}
use Rattle.snap_core.specs.declared.event.Event.{Event}
use Rattle.snap_core.specs.Events.{HasByteComponents}
use Rattle.snap_core.specs.Calls.{calls_of}
use Rattle.snap_theory.specs.Faults.{HasNoFault}
use Rattle.snap_theory.specs.Versions.{IsAtomicBy, IsAtomicInOrder, IsLegalBy}
use Rattle.snap_theory.specs.Levels.{printed_order, IsPrintedOrder}
use Rattle.snap_theory.proofs.Starts.{start_push, start_back}
use Rattle.snap_theory.proofs.Keys.{sorted_keys_give_order}
use Rattle.snap_theory.proofs.Unique.{printed_is, printed_alone}
use Rattle.snap_theory.specs.OrderLaws.{PrintsLegalOrder, LegalOrderHasNoFault, AtomicExactly, AtomicIsMonotone, PrintedOrderAlone, LegalStartGrows, KeysGiveOrder}
use Rattle.snap_theory.proofs.Forward.{printed_legal}
use Rattle.snap_theory.proofs.Backward.{legal_meets}
use Rattle.snap_theory.proofs.FaultLaws.{ordered_meets, none_from_meets}
use Rattle.snap_core.proofs.Ordered.{are_ordered_calls, history_is_ordered}
use Rattle.snap_theory.proofs.Orders.{legal_in_order}
use Rattle.snap_theory.specs.VersionLaws.{OrderedPrintsLegalOrder, LegalInOrderHasNoFault, AtomicInOrderExactly, AtomicInOrderIsMonotone, OrderedPrintedAlone, OrderedKeysGiveOrder, LegalOrdersRise, AtomicIsInOrder}
use Rattle.snap_theory.proofs.StaleViews.{monotone_without_read_fault}
use Rattle.snap_core.proofs.Histories.{are_calls}

pub ordered_prints_legal_order : OrderedPrintsLegalOrder
ordered_prints_legal_order es h b n = printed_legal (calls_of es) (are_ordered_calls es h) (ordered_meets es h b n)

pub legal_in_order_has_no_fault : LegalInOrderHasNoFault
legal_in_order_has_no_fault es h order o = none_from_meets es (legal_meets (calls_of es) order (are_ordered_calls es h) o)

pub atomic_in_order_exactly : AtomicInOrderExactly
atomic_in_order_exactly es h b = (λ a. legal_in_order_has_no_fault es h a.0 a.1, λ n. (printed_order (calls_of es), ordered_prints_legal_order es h b n))

pub atomic_in_order_is_monotone : AtomicInOrderIsMonotone
atomic_in_order_is_monotone es h a = monotone_without_read_fault (calls_of es) (legal_in_order_has_no_fault es h a.0 a.1).read

pub ordered_printed_alone : OrderedPrintedAlone
ordered_printed_alone es h order =
    let f = are_ordered_calls es h in
    (printed_alone (calls_of es) order f, λ e. subst (IsPrintedOrder (calls_of es)) (sym e) (printed_is (calls_of es) f))

pub ordered_keys_give_order : OrderedKeysGiveOrder
ordered_keys_give_order es h keys k = sorted_keys_give_order (calls_of es) (are_ordered_calls es h) keys k

pub legal_start_grows : LegalStartGrows
legal_start_grows calls before c = (λ h. start_push calls before c h.0 h.1, start_back calls before c)

-- of a history with one writer of each component

pub legal_orders_rise : LegalOrdersRise
legal_orders_rise es h order o = legal_in_order (calls_of es) order (are_calls es h) o

pub atomic_is_in_order : AtomicIsInOrder
atomic_is_in_order es h = (λ a. (a.0, a.1.legal), λ a. (a.0, legal_orders_rise es h a.0 a.1))

pub prints_legal_order : PrintsLegalOrder
prints_legal_order es h b n = (ordered_prints_legal_order es (history_is_ordered es h) b n).legal

pub legal_order_has_no_fault : LegalOrderHasNoFault
legal_order_has_no_fault es h order o = legal_in_order_has_no_fault es (history_is_ordered es h) order (legal_orders_rise es h order o)

pub atomic_exactly : AtomicExactly
atomic_exactly es h b =
    let o = history_is_ordered es h in
    (λ a. (atomic_in_order_exactly es o b).0 ((atomic_is_in_order es h).1 a), λ n. (atomic_is_in_order es h).0 ((atomic_in_order_exactly es o b).1 n))

pub atomic_is_monotone : AtomicIsMonotone
atomic_is_monotone es h a = atomic_in_order_is_monotone es (history_is_ordered es h) ((atomic_is_in_order es h).1 a)

pub printed_order_alone : PrintedOrderAlone
printed_order_alone es h = ordered_printed_alone es (history_is_ordered es h)

pub keys_give_order_law : KeysGiveOrder
keys_give_order_law es h = ordered_keys_give_order es (history_is_ordered es h)

-- by how many processes may write a component

pub atomic_by_exactly : (writers : Writers) (es : List Event) → IsHistoryBy writers es → HasByteComponents es → IsAtomicBy writers (calls_of es) ↔ HasNoFault (calls_of es)
atomic_by_exactly One es h b = atomic_exactly es h b
atomic_by_exactly Many es h b = atomic_in_order_exactly es h b

pub prints_legal_by : (writers : Writers) (es : List Event) → IsHistoryBy writers es → HasByteComponents es → HasNoFault (calls_of es) → IsLegalBy writers (calls_of es) (printed_order (calls_of es))
prints_legal_by One es h b n = prints_legal_order es h b n
prints_legal_by Many es h b n = ordered_prints_legal_order es h b n

-- atomic in order is what it is by the writers
pub in_order_by : (writers : Writers) (es : List Event) → IsHistoryBy writers es → IsAtomicInOrder (calls_of es) ↔ IsAtomicBy writers (calls_of es)
in_order_by One es h = atomic_is_in_order es h
in_order_by Many es h = (λ a. a, λ a. a)
