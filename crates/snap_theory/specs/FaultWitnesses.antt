-- The faults of a history one by one, and the witness of each.
use Rattle.std.specs.Prelude.{ℕ, suc, ◌≤◌, ◌*◌, Bool, true, false, List, [], ◌∷◌, ◌++◌, ◌≡◌, ◌↔◌, Option, Some, None, length, if◌then◌else◌}
use Rattle.snap_core.specs.declared.event.Event.{Event}
use Rattle.snap_core.specs.Bounded.{IsBoundedHistory}
use Rattle.snap_core.specs.Calls.{Call, calls_of, precedes, shown_number}
use Rattle.snap_core.specs.Orders.{IsAtomic}
use Rattle.snap_core.specs.Regular.{IsViewOf, IsRegular}
use Rattle.snap_theory.specs.Faults.{integrity_fault, old_fault, early_fault, read_fault, write_fault, least_exceeding}
use Rattle.snap_theory.specs.Kept.{is_place_of}
use Rattle.snap_theory.specs.Choices.{KeepsCalls}
use Rattle.snap_theory.specs.Witness.{numbers_of, witness_calls, witness_of, in_witness}

-- a fault is of one or two completed views, and of at most two components
pub data Fault : Type 0 where
  Integrity : (view : Call) (component : ℕ) → Fault
  Old : (view : Call) (component : ℕ) → Fault
  Early : (view : Call) (component : ℕ) → Fault
  Read : (view : Call) (other : Call) → Fault
  Write : (view : Call) (missed : ℕ) (component : ℕ) → Fault

-- the calls have the fault
abbrev pub IsFaultOf : List Call → Fault → Type 0
IsFaultOf calls (Integrity r k) = IsViewOf calls r × (integrity_fault calls r k ≡ true)
IsFaultOf calls (Old r k) = IsViewOf calls r × (old_fault calls r k ≡ true)
IsFaultOf calls (Early r k) = IsViewOf calls r × (early_fault calls r k ≡ true)
IsFaultOf calls (Read r s) = IsViewOf calls r × IsViewOf calls s × (read_fault r s ≡ true)
IsFaultOf calls (Write r j k) = IsViewOf calls r × (write_fault calls r j k ≡ true)

-- a fault of one view alone
abbrev pub is_local : Fault → Bool
is_local (Integrity r k) = true
is_local (Old r k) = true
is_local (Early r k) = true
is_local (Read r s) = false
is_local (Write r j k) = false

-- the views of a fault
abbrev pub fault_views : Fault → List Call
fault_views (Integrity r k) = r ∷ []
fault_views (Old r k) = r ∷ []
fault_views (Early r k) = r ∷ []
fault_views (Read r s) = r ∷ s ∷ []
fault_views (Write r j k) = r ∷ []

-- the component and the number that a view shows of it, if there is a component
abbrev pub shown_update : Call → Option ℕ → List (ℕ × ℕ)
shown_update r None = []
shown_update r (Some k) = (k, shown_number r k) ∷ []

-- the least component of which r shows more than s, and what r shows of it
abbrev pub excess_of : Call → Call → List (ℕ × ℕ)
excess_of r s = shown_update r (least_exceeding r s)

-- the updates that show the fault, each by its component and its number
abbrev pub fault_updates : Fault → List (ℕ × ℕ)
fault_updates (Integrity r k) = (k, shown_number r k) ∷ []
fault_updates (Old r k) = (k, suc (shown_number r k)) ∷ []
fault_updates (Early r k) = (k, shown_number r k) ∷ []
fault_updates (Read r s) = excess_of r s ++ (if precedes r s then [] else excess_of s r)
fault_updates (Write r j k) = (j, suc (shown_number r j)) ∷ (k, shown_number r k) ∷ []

abbrev pub fault_calls : List Event → Fault → List Call
fault_calls events f = witness_calls (calls_of events) (fault_views f) (fault_updates f)

-- the witness of a fault: its views and updates alone
abbrev pub fault_witness : List Event → Fault → List Event
fault_witness events f = witness_of events (fault_views f) (fault_updates f)

-- the greatest number of calls that show a fault of the kind
abbrev pub call_limit : Fault → ℕ
call_limit (Integrity r k) = 2
call_limit (Old r k) = 2
call_limit (Early r k) = 2
call_limit (Read r s) = 4
call_limit (Write r j k) = 3

-- the fault of the same components, and of the same views as they are kept; a kept view gets a number
abbrev pub fault_kept : (ℕ → Call → Call) → ℕ → ℕ → Fault → Fault
fault_kept kept m n (Integrity r k) = Integrity (kept m r) k
fault_kept kept m n (Old r k) = Old (kept m r) k
fault_kept kept m n (Early r k) = Early (kept m r) k
fault_kept kept m n (Read r s) = Read (kept m r) (kept n s)
fault_kept kept m n (Write r j k) = Write (kept m r) j k

-- some calls have that kept fault, for some numbers of its views
abbrev pub HasFaultKept : List Call → (ℕ → Call → Call) → Fault → Type 0
HasFaultKept calls kept f = (m : ℕ) × (n : ℕ) × IsFaultOf calls (fault_kept kept m n f)

-- the witness of a fault shows it
pub record IsWitness (events : List Event) (f : Fault) : Type 0 where
  -- whole calls of the history, with the precedence that they had
  pub calls : KeepsCalls (is_place_of (fault_calls events f)) (numbers_of (fault_updates f)) events
  pub few : length (calls_of (fault_witness events f)) ≤ call_limit f
  pub short : length (fault_witness events f) ≤ 2 * call_limit f
  -- the same fault, of the same views and components
  pub fault : HasFaultKept (calls_of (fault_witness events f)) (in_witness events (fault_views f) (fault_updates f)) f
  pub not_atomic : IsAtomic (calls_of (fault_witness events f)) → ⊥
  pub regular : is_local f ≡ false → IsRegular (calls_of events) → IsRegular (calls_of (fault_witness events f))
  pub not_regular : is_local f ≡ true → IsRegular (calls_of (fault_witness events f)) → ⊥

-- each fault of a history has a witness
abbrev pub EachFaultHasWitness : Type 0
EachFaultHasWitness = (events : List Event) → IsBoundedHistory events → (f : Fault) → IsFaultOf (calls_of events) f → IsWitness events f

-- the history has a fault, and that fault has a witness
pub record HasWitness (events : List Event) : Type 0 where
  pub fault : Fault
  pub is : IsFaultOf (calls_of events) fault
  pub shown : IsWitness events fault

-- a history is atomic exactly when it has no witness
abbrev pub AtomicWithoutWitness : Type 0
AtomicWithoutWitness = (events : List Event) → IsBoundedHistory events → (HasWitness events → ⊥) ↔ IsAtomic (calls_of events)
