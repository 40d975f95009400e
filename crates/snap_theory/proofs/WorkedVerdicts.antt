-- The verdicts on the worked histories, by the laws, from the counts of their faults.
use Rattle.std.proofs.Common.{◌≡◌, ℕ, ◌+◌, Bool, true, false, List, [], ◌∷◌, length, refl, ap, arith}
use Rattle.std.specs.Prelude.{◌==◌, ◌↔◌, IsTrue, nat_lt}
use Rattle.std.specs.List.{list_all}
use Rattle.std.proofs.lemmas.Bool.{eq-eqb, eqb-true, ltb-true}
use Rattle.std.proofs.lemmas.List.Sums.{AllPass-from_list_all}
use Rattle.snap_core.specs.declared.entry.Entry.{Entry}
use Rattle.snap_core.specs.Entries.{component_count}
use Rattle.snap_core.specs.declared.event.Event.{Event}
use Rattle.snap_core.specs.declared.event.Event.TheVariants.{BeginUpdate, BeginView, EndUpdate, EndView}
use Rattle.snap_core.specs.Events.{IsHistory, IsByteEvent, HasByteComponents}
use Rattle.snap_core.specs.Calls.{Call, calls_of, precedes, is_view, shown, shown_number, is_update_numbered, views_of}
use Rattle.snap_core.specs.Monotone.{IsMonotone}
use Rattle.snap_core.specs.Orders.{IsAtomic}
use Rattle.snap_core.specs.Regular.{IsRegular}
use Rattle.snap_theory.specs.Faults.{HasNoLocalFault, exceeds, integrity_fault, old_fault, early_fault, read_fault, write_fault, integrity_faults, proximity_faults, read_faults, write_faults, is_stale, stale_count}
use Rattle.snap_core.proofs.Worked as worked
use Rattle.snap_core.proofs.WorkedHistories as histories
use Rattle.snap_core.specs.Ordered.{IsOrdered}
use Rattle.snap_theory.specs.Versions.{IsAtomicInOrder}
use Rattle.snap_theory.proofs.FaultLaws.{ordered_regular_exactly}
use Rattle.snap_theory.proofs.OrderLaws.{atomic_in_order_exactly, atomic_is_in_order}
use Rattle.snap_core.proofs.Ordered.{history_is_ordered}
use Rattle.snap_theory.proofs.StaleViews.{monotone_exactly}

-- a list of events is an ordered history, and regular, monotone and atomic in order exactly where these are true
pub record IsWorkedInOrder (es : List Event) (regular monotone atomic : Bool) : Type 0 where
  pub ordered : IsOrdered es
  pub regular_exactly : IsTrue regular ↔ IsRegular (calls_of es)
  pub monotone_exactly : IsTrue monotone ↔ IsMonotone (calls_of es)
  pub atomic_exactly : IsTrue atomic ↔ IsAtomicInOrder (calls_of es)

-- a list of events is a history, and regular, monotone and atomic exactly where these are true
record IsWorked (es : List Event) (regular monotone atomic : Bool) : Type 0 where
  history : IsHistory es
  regular_exactly : IsTrue regular ↔ IsRegular (calls_of es)
  monotone_exactly : IsTrue monotone ↔ IsMonotone (calls_of es)
  atomic_exactly : IsTrue atomic ↔ IsAtomic (calls_of es)

-- each is counted, over all completed views
unfoldable pub local_faults : List Event → ℕ
unfolding calls_of precedes is_view shown shown_number is_update_numbered integrity_fault old_fault early_fault views_of integrity_faults proximity_faults
local_faults es = length (integrity_faults (calls_of es) (views_of (calls_of es))) + length (proximity_faults (calls_of es) (views_of (calls_of es)))

unfoldable pub faults : List Event → ℕ
unfolding local_faults calls_of precedes is_view shown shown_number is_update_numbered exceeds read_fault write_fault views_of read_faults write_faults
faults es = local_faults es + length (read_faults (calls_of es) (views_of (calls_of es))) + length (write_faults (calls_of es) (views_of (calls_of es)))

unfoldable pub stale_views : List Event → ℕ
unfolding calls_of precedes is_view shown shown_number exceeds is_stale views_of stale_count
stale_views es = stale_count (calls_of es) (views_of (calls_of es))

abbrev pub is_byte : Entry → Bool
is_byte e = nat_lt e.component component_count

abbrev pub has_bytes : Event → Bool
has_bytes (BeginUpdate p e) = is_byte e
has_bytes (BeginView p) = true
has_bytes (EndUpdate p) = true
has_bytes (EndView p es) = list_all is_byte es

byte_event : (e : Event) → has_bytes e ≡ true → IsByteEvent e
byte_event (BeginUpdate p e) h = ltb-true e.component component_count h
byte_event (BeginView p) h = tt
byte_event (EndUpdate p) h = tt
byte_event (EndView p es) h = λ k d l. ltb-true _ component_count (AllPass-from_list_all is_byte es h k d l)

pub bytes_by : (es : List Event) → list_all has_bytes es ≡ true → HasByteComponents es
bytes_by es h = λ k d l. byte_event _ (AllPass-from_list_all has_bytes es h k d l)

none : {X : Type 0} (xs : List X) → length xs ≡ 0 → xs ≡ []
none [] e = refl
none (x ∷ xs) e = absurd (omega (arith, e))

pub by_counts_in_order : (es : List Event) → IsOrdered es → list_all has_bytes es ≡ true → IsWorkedInOrder es (local_faults es == 0) (stale_views es == 0) (faults es == 0)
unfolding local_faults faults stale_views
by_counts_in_order es ordered bytes = record {
  ordered = ordered;
  regular_exactly = (
    λ t. (ordered_regular_exactly es ordered components).1 (local t),
    λ r. let n = (ordered_regular_exactly es ordered components).0 r in eq-eqb (local_faults es) 0 (omega (arith, ap length n.integrity, ap length n.proximity)),
  );
  monotone_exactly = (λ t. (monotone_exactly calls).1 (eqb-true (stale_views es) 0 t), λ m. eq-eqb (stale_views es) 0 ((monotone_exactly calls).0 m));
  atomic_exactly = (
    λ t. (atomic_in_order_exactly es ordered components).1 (record {
      local = local (eq-eqb (local_faults es) 0 (omega (arith, eqb-true (faults es) 0 t)));
      read = none _ (omega (arith, eqb-true (faults es) 0 t));
      write = none _ (omega (arith, eqb-true (faults es) 0 t));
    }),
    λ a. let n = (atomic_in_order_exactly es ordered components).0 a in eq-eqb (faults es) 0 (omega (arith, ap length n.local.integrity, ap length n.local.proximity, ap length n.read, ap length n.write)),
  );
}
  where
    calls : List Call
    calls = calls_of es

    components : HasByteComponents es
    components = bytes_by es bytes

    local : (local_faults es == 0) ≡ true → HasNoLocalFault calls
    local t = record { integrity = none _ (omega (arith, eqb-true (local_faults es) 0 t)); proximity = none _ (omega (arith, eqb-true (local_faults es) 0 t)) }

by_counts : (es : List Event) → IsHistory es → list_all has_bytes es ≡ true → IsWorked es (local_faults es == 0) (stale_views es == 0) (faults es == 0)
unfolding local_faults faults stale_views
by_counts es history bytes =
    let w = by_counts_in_order es (history_is_ordered es history) bytes in
    let o = atomic_is_in_order es history in
    record {
      history = history;
      regular_exactly = w.regular_exactly;
      monotone_exactly = w.monotone_exactly;
      atomic_exactly = (λ t. o.0 (w.atomic_exactly.0 t), λ a. w.atomic_exactly.1 (o.1 a));
    }

atomic_run : IsWorked worked.atomic_run true true true
unfolding local_faults faults stale_views
atomic_run = by_counts worked.atomic_run histories.an_atomic_run_is_a_history refl

view_before_update : IsWorked worked.view_before_update true true true
unfolding local_faults faults stale_views
view_before_update = by_counts worked.view_before_update histories.a_view_before_an_update_is_in_a_history refl

seen_pending : IsWorked worked.seen_pending true true true
unfolding local_faults faults stale_views
seen_pending = by_counts worked.seen_pending histories.a_seen_pending_update_is_in_a_history refl

all_pending : IsWorked worked.all_pending true true true
unfolding local_faults faults stale_views
all_pending = by_counts worked.all_pending histories.pending_calls_are_in_a_history refl

crossed_views : IsWorked worked.crossed_views true true false
unfolding local_faults faults stale_views
crossed_views = by_counts worked.crossed_views histories.crossed_views_are_in_a_history refl

missed_update : IsWorked worked.missed_update true true false
unfolding local_faults faults stale_views
missed_update = by_counts worked.missed_update histories.a_missed_update_is_in_a_history refl

new_then_old : IsWorked worked.new_then_old true false false
unfolding local_faults faults stale_views
new_then_old = by_counts worked.new_then_old histories.a_new_old_inversion_is_in_a_history refl

forward_and_back : IsWorked worked.forward_and_back true false false
unfolding local_faults faults stale_views
forward_and_back = by_counts worked.forward_and_back histories.views_forward_and_back_are_in_a_history refl

stale_view : IsWorked worked.stale_view false true false
unfolding local_faults faults stale_views
stale_view = by_counts worked.stale_view histories.a_stale_view_is_in_a_history refl

view_of_the_future : IsWorked worked.view_of_the_future false true false
unfolding local_faults faults stale_views
view_of_the_future = by_counts worked.view_of_the_future histories.a_view_of_the_future_is_in_a_history refl

wrong_value : IsWorked worked.wrong_value false true false
unfolding local_faults faults stale_views
wrong_value = by_counts worked.wrong_value histories.a_wrong_value_is_in_a_history refl

largest_number : IsWorked worked.largest_number false true false
unfolding local_faults faults stale_views
largest_number = by_counts worked.largest_number histories.a_largest_number_is_in_a_history refl

stale_and_wrong : IsWorked worked.stale_and_wrong false true false
unfolding local_faults faults stale_views
stale_and_wrong = by_counts worked.stale_and_wrong histories.a_stale_and_a_wrong_view_are_in_a_history refl
