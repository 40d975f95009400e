-- What the witness of the first fault is known by.
use Rattle.std.proofs.Common.{◌≡◌, ◌≤◌, ◌↔◌, Bool, true, false, List, length, Option, Some, None, refl, sym, subst, arith}
use Rattle.std.specs.Option.{IfSome, IsNone, option_map}
use Rattle.std.proofs.lemmas.Bool.{false≢true}
use Rattle.snap_core.specs.declared.event.Event.{Event}
use Rattle.snap_core.specs.Limited.{LimitedEvents}
use Rattle.snap_core.specs.declared.writers.Writers.{Writers}
use Rattle.snap_core.specs.Bounded.{IsBoundedBy, IsBoundedOrdered}
use Rattle.snap_core.specs.Calls.{calls_of}
use Rattle.snap_core.specs.Orders.{IsAtomic}
use Rattle.snap_core.specs.Regular.{IsRegular}
use Rattle.snap_core.proofs.Fits.{bytes_of_events}
use Rattle.snap_core.proofs.OrderedPushes.{bounded_by_ordered}
use Rattle.snap_theory.proofs.FaultLaws.{ordered_regular_exactly}
use Rattle.snap_theory.proofs.OrderLaws.{atomic_by_exactly, in_order_by}
use Rattle.snap_theory.specs.FaultWitnesses.{Fault, Integrity, Old, Early, Read, Write, is_local, call_limit, fault_calls, fault_updates, fault_witness, IsWitness}
use Rattle.snap_theory.specs.Versions.{IsAtomicBy}
use Rattle.snap_theory.specs.First.{first_fault, AreWholeCalls, HasFirstFault}
use Rattle.snap_theory.specs.Kept.{is_place_of, kept_events}
use Rattle.snap_theory.specs.Witness.{numbers_of, witness_of}
use Rattle.snap_theory.proofs.FaultWitnesses.{ordered_fault_has_witness, ordered_not_atomic, ordered_not_regular}
use Rattle.snap_theory.proofs.First.{IsFirst, first_is, none_is}

-- the first fault, with its witness
pub record Answered (es w : List Event) : Type 0 where
  pub fault : Fault
  pub first : first_fault (calls_of es) ≡ Some fault
  pub is : IsFirst (calls_of es) fault
  pub shown : IsWitness es fault
  pub same : w ≡ fault_witness es fault

answered : (es : List Event) → IsBoundedOrdered es → (a : Option LimitedEvents) → option_map (λ h. h.events) a ≡ option_map (fault_witness es) (first_fault (calls_of es)) → IfSome a (λ w. Answered es w.events)
answered es h a e = go (first_fault (calls_of es)) refl a e
  where
    go : (o : Option Fault) → first_fault (calls_of es) ≡ o → (a : Option LimitedEvents) → option_map (λ h. h.events) a ≡ option_map (fault_witness es) o → IfSome a (λ w. Answered es w.events)
    go None t None e = tt
    go None t (Some w) e = absurd (cc e)
    go (Some f) t None e = tt
    go (Some f) t (Some w) e =
        let i = first_is (calls_of es) f t in
        let s : w.events ≡ fault_witness es f = cc in
        record { fault = f; first = t; is = i; shown = ordered_fault_has_witness es h.history h.fit f i.fault; same = s }

pub each : (es : List Event) → IsBoundedOrdered es → (P : List Event → Type 0) → ((w : List Event) → Answered es w → P w) → (a : Option LimitedEvents) → option_map (λ h. h.events) a ≡ option_map (fault_witness es) (first_fault (calls_of es)) → IfSome a (λ w. P w.events)
each es h P g a e = go a (answered es h a e)
  where
    go : (a : Option LimitedEvents) → IfSome a (λ w. Answered es w.events) → IfSome a (λ w. P w.events)
    go None t = tt
    go (Some w) t = g w.events t

pub whole_calls : (es w : List Event) → Answered es w → AreWholeCalls es w
unfolding witness_of kept_events
whole_calls es w a = record { keeps = is_place_of (fault_calls es a.fault); numbers = numbers_of (fault_updates a.fault); same = a.same; calls = a.shown.calls }

limit : (f : Fault) → call_limit f ≤ 4
limit (Integrity r k) = omega arith
limit (Old r k) = omega arith
limit (Early r k) = omega arith
limit (Read r s) = omega arith
limit (Write r j k) = omega arith

pub few_calls : (es w : List Event) → Answered es w → length (calls_of w) ≤ 4
few_calls es w a = subst (λ z. length (calls_of z) ≤ 4) (sym a.same) (omega (arith, a.shown.few, limit a.fault))

pub few_events : (es w : List Event) → Answered es w → length w ≤ 8
few_events es w a = subst (λ z. length z ≤ 8) (sym a.same) (omega (arith, a.shown.short, limit a.fault))

pub has_first : (es w : List Event) → Answered es w → HasFirstFault es w
has_first es w a = subst (HasFirstFault es) (sym a.same) (record { fault = a.fault; first = a.first; there = a.shown.fault })

pub is_not_atomic : (es w : List Event) → Answered es w → IsAtomic (calls_of w) → ⊥
is_not_atomic es w a = subst (λ z. IsAtomic (calls_of z) → ⊥) (sym a.same) a.shown.not_atomic

pub is_regular : (es : List Event) → IsBoundedOrdered es → (w : List Event) → Answered es w → IsRegular (calls_of w) ↔ IsRegular (calls_of es)
is_regular es h w a = subst (λ z. IsRegular (calls_of z) ↔ IsRegular (calls_of es)) (sym a.same) (go (is_local a.fault) refl)
  where
    go : (b : Bool) → is_local a.fault ≡ b → IsRegular (calls_of (fault_witness es a.fault)) ↔ IsRegular (calls_of es)
    go true l = (λ r. absurd (a.shown.not_regular l r), λ r. absurd (ordered_not_regular es h.history a.fault l a.is.fault r))
    go false l = (λ _. (ordered_regular_exactly es h.history (bytes_of_events es h.fit)).1 (a.is.local l), a.shown.regular l)

-- there is something for the first fault exactly if the history is not atomic
pub none_exactly : {X Y : Type 0} (writers : Writers) (es : List Event) → IsBoundedBy writers es → (view : X → Y) (shown : Fault → Y) (a : Option X) → option_map view a ≡ option_map shown (first_fault (calls_of es)) →
    IsNone a ↔ IsAtomicBy writers (calls_of es)
none_exactly {X} writers es h view shown a e = go (first_fault (calls_of es)) refl a e
  where
    never : (f : Fault) → first_fault (calls_of es) ≡ Some f → IsAtomicBy writers (calls_of es) → ⊥
    never f t atomic = ordered_not_atomic es (bounded_by_ordered writers es h).history f (first_is (calls_of es) f t).fault ((in_order_by writers es h.history).1 atomic)

    go : (o : Option Fault) → first_fault (calls_of es) ≡ o → (a : Option X) → option_map view a ≡ option_map shown o → IsNone a ↔ IsAtomicBy writers (calls_of es)
    go None t None e = (λ _. (atomic_by_exactly writers es h.history (bytes_of_events es h.fit)).1 (none_is (calls_of es) t), λ _. refl)
    go None t (Some w) e = absurd (cc e)
    go (Some f) t None e = absurd (cc e)
    go (Some f) t (Some w) e = (λ n. absurd (false≢true (sym n)), λ a. absurd (never f t a))
