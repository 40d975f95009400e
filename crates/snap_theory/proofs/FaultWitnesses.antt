-- Each fault has a witness, and a history is atomic exactly where it has none.
use Rattle.std.proofs.Common.{◌≡◌, ℕ, Bool, true, false, List, refl, sym, ◌∙◌, arith}
use Rattle.std.proofs.lemmas.Bool.{false≢true, false_from_ne_true}
use Rattle.snap_core.specs.declared.event.Event.{Event}
use Rattle.snap_core.specs.Bounded.{IsBoundedOrdered}
use Rattle.snap_core.specs.Events.{IsHistory}
use Rattle.snap_core.specs.Calls.{Call, calls_of}
use Rattle.snap_core.specs.Orders.{IsAtomic}
use Rattle.snap_core.specs.Regular.{IsRegular}
use Rattle.snap_core.proofs.Fits.{bytes_of_events}
use Rattle.snap_core.proofs.Ordered.{IsFittingHistory, are_ordered_calls, history_is_ordered, bounded_is_ordered, fitting}
use Rattle.snap_theory.proofs.Local.{PassesAll, PassesLocal, local_tests, regular_meets}
use Rattle.snap_theory.proofs.FaultLists.{none_from_passes}
use Rattle.snap_theory.proofs.OrderLaws.{atomic_in_order_exactly, atomic_is_in_order}
use Rattle.snap_theory.specs.FaultWitnesses.{Fault, Integrity, Old, Early, Read, Write, IsFaultOf, is_local, fault_views, fault_updates, fault_witness, fault_kept, IsWitness, HasWitness, EachFaultHasWitness, AtomicWithoutWitness}
use Rattle.snap_theory.specs.Witness.{in_witness, AreWitnesses}
use Rattle.snap_theory.proofs.Integrity.{integrity_shows}
use Rattle.snap_theory.proofs.Pairs.{Shows, few_chosen}
use Rattle.snap_theory.proofs.Proximity.{old_shows, early_shows}
use Rattle.snap_theory.proofs.Read.{read_shows}
use Rattle.snap_theory.proofs.Regular.{regular_kept}
use Rattle.snap_theory.proofs.Sizes.{few_events, few_kept}
use Rattle.snap_theory.proofs.Witnesses.{keeps_calls, ordered_witness_history, atomic_passes}
use Rattle.snap_theory.proofs.Write.{write_shows}
use Rattle.snap_core.specs.Ordered.{IsOrdered}
use Rattle.snap_theory.specs.Versions.{IsAtomicInOrder}
use Rattle.snap_theory.specs.VersionLaws.{OrderedFaultHasWitness, AtomicInOrderWithoutWitness}

pub ordered_not_atomic : (es : List Event) → IsOrdered es → (f : Fault) → IsFaultOf (calls_of es) f → IsAtomicInOrder (calls_of es) → ⊥
ordered_not_atomic es h (Integrity r k) i a = false≢true (sym ((atomic_passes es h a).local.integrity r k i.0) ∙ i.1)
ordered_not_atomic es h (Old r k) i a = false≢true (sym ((atomic_passes es h a).local.old r k i.0) ∙ i.1)
ordered_not_atomic es h (Early r k) i a = false≢true (sym ((atomic_passes es h a).local.early r k i.0) ∙ i.1)
ordered_not_atomic es h (Read r s) i a = false≢true (sym ((atomic_passes es h a).read r s i.0 i.1) ∙ i.2)
ordered_not_atomic es h (Write r j k) i a = false≢true (sym ((atomic_passes es h a).write r j k i.0) ∙ i.1)

regular_passes : (es : List Event) → IsOrdered es → IsRegular (calls_of es) → PassesLocal (calls_of es)
regular_passes es h g = local_tests (calls_of es) (regular_meets (calls_of es) (are_ordered_calls es h) g)

pub ordered_not_regular : (es : List Event) → IsOrdered es → (f : Fault) → is_local f ≡ true → IsFaultOf (calls_of es) f → IsRegular (calls_of es) → ⊥
ordered_not_regular es h (Integrity r k) l i g = false≢true (sym ((regular_passes es h g).integrity r k i.0) ∙ i.1)
ordered_not_regular es h (Old r k) l i g = false≢true (sym ((regular_passes es h g).old r k i.0) ∙ i.1)
ordered_not_regular es h (Early r k) l i g = false≢true (sym ((regular_passes es h g).early r k i.0) ∙ i.1)
ordered_not_regular es h (Read r s) l i g = absurd (false≢true l)
ordered_not_regular es h (Write r j k) l i g = absurd (false≢true l)

-- of a history with one writer of each component

pub not_atomic : (es : List Event) → IsHistory es → (f : Fault) → IsFaultOf (calls_of es) f → IsAtomic (calls_of es) → ⊥
not_atomic es h f i a = ordered_not_atomic es (history_is_ordered es h) f i ((atomic_is_in_order es h).1 a)

pub not_regular : (es : List Event) → IsHistory es → (f : Fault) → is_local f ≡ true → IsFaultOf (calls_of es) f → IsRegular (calls_of es) → ⊥
not_regular es h = ordered_not_regular es (history_is_ordered es h)

same_kind : (kept : ℕ → Call → Call) (m n : ℕ) (f : Fault) → is_local (fault_kept kept m n f) ≡ is_local f
same_kind kept m n (Integrity r k) = refl
same_kind kept m n (Old r k) = refl
same_kind kept m n (Early r k) = refl
same_kind kept m n (Read r s) = refl
same_kind kept m n (Write r j k) = refl

shows : (es : List Event) → IsFittingHistory es → (f : Fault) → IsFaultOf (calls_of es) f → Shows es f (fault_updates f)
shows es h (Integrity r k) i = integrity_shows es h r k i.0 i.1
shows es h (Old r k) i = old_shows es h r k i.0 i.1
shows es h (Early r k) i = early_shows es h r k i.0 i.1
shows es h (Read r s) i = read_shows es h r s i.0 i.1 i.2
shows es h (Write r j k) i = write_shows es h r j k i.0 i.1

fault_has_witness : (es : List Event) → IsFittingHistory es → (f : Fault) → IsFaultOf (calls_of es) f → IsWitness es f
fault_has_witness es h f i = record {
  calls = keeps_calls es (fault_views f) (fault_updates f) h.ordered s.are;
  few = omega (arith, few_kept es (fault_views f) (fault_updates f) h.ordered s.are, few_chosen (calls_of es) (fault_views f) (fault_updates f), s.few);
  short = omega (arith, few_events es (fault_views f) (fault_updates f), few_chosen (calls_of es) (fault_views f) (fault_updates f), s.few);
  fault = s.fault;
  not_atomic = not_atomic (fault_witness es f) history kept s.fault.2;
  regular = λ l. regular_kept es h (fault_views f) (fault_updates f) s.are (s.covers l);
  not_regular = λ l. not_regular (fault_witness es f) history kept (same_kind (in_witness es (fault_views f) (fault_updates f)) s.fault.0 s.fault.1 f ∙ l) s.fault.2;
}
  where
    s : Shows es f (fault_updates f)
    s = shows es h f i

    history : IsHistory (fault_witness es f)
    history = ordered_witness_history es (fault_views f) (fault_updates f) h.ordered s.are

    kept : Fault
    kept = fault_kept (in_witness es (fault_views f) (fault_updates f)) s.fault.0 s.fault.1 f

pub ordered_fault_has_witness : OrderedFaultHasWitness
ordered_fault_has_witness es o fit = fault_has_witness es (record { ordered = o; fit = fit })

-- a history without a witness passes each test
passes : (es : List Event) → IsFittingHistory es → (HasWitness es → ⊥) → PassesAll (calls_of es)
passes es h n = record {
  local = record {
    integrity = λ r k v. none (Integrity r k) _ (λ t. (v, t));
    old = λ r k v. none (Old r k) _ (λ t. (v, t));
    early = λ r k v. none (Early r k) _ (λ t. (v, t));
  };
  read = λ r s v w. none (Read r s) _ (λ t. (v, w, t));
  write = λ r j k v. none (Write r j k) _ (λ t. (v, t));
}
  where
    none : (f : Fault) (b : Bool) → (b ≡ true → IsFaultOf (calls_of es) f) → b ≡ false
    none f b i = false_from_ne_true b (λ t. n (record { fault = f; is = i t; shown = fault_has_witness es h f (i t) }))

pub atomic_in_order_without_witness : AtomicInOrderWithoutWitness
atomic_in_order_without_witness es o fit = (
  λ n. (atomic_in_order_exactly es o (bytes_of_events es fit)).1 (none_from_passes (calls_of es) (passes es (record { ordered = o; fit = fit }) n)),
  λ a w. ordered_not_atomic es o w.fault w.is a,
)

-- of a history with one writer of each component

pub each_fault_has_witness : EachFaultHasWitness
each_fault_has_witness es h = fault_has_witness es (fitting es (bounded_is_ordered es h))

pub are_witnesses : (es : List Event) → IsBoundedOrdered es → (f : Fault) → IsFaultOf (calls_of es) f → AreWitnesses es (fault_views f) (fault_updates f)
are_witnesses es h f i = (shows es (fitting es h) f i).are

pub atomic_without_witness : AtomicWithoutWitness
atomic_without_witness es h =
    let o = history_is_ordered es h.history in
    let w = atomic_in_order_without_witness es o h.fit in
    let a = atomic_is_in_order es h.history in
    (λ n. a.0 (w.0 n), λ b. w.1 (a.1 b))
