-- Views and updates that show a fault.
use Rattle.std.proofs.Common.{◌≡◌, ◌≢◌, ℕ, ◌+◌, ◌<◌, ◌≤◌, true, false, cond, List, [], ◌∷◌, length, refl, ap, ◌∙◌, subst, inl, inr, arith, length-append}
use Rattle.std.proofs.lemmas.Bool.{eq-eqb, ne_eqb}
use Rattle.snap_core.specs.declared.event.Event.{Event}
use Rattle.snap_core.specs.Calls.{Call, calls_of, shown_number}
use Rattle.snap_core.specs.Regular.{IsViewOf}
use Rattle.snap_core.proofs.Lists.{In, In-from_Contains}
use Rattle.snap_theory.specs.Faults.{exceeds}
use Rattle.snap_theory.proofs.Exceeding.{exceeds_from}
use Rattle.snap_theory.specs.FaultWitnesses.{Fault, fault_views, call_limit, is_local, HasFaultKept}
use Rattle.snap_theory.specs.Witness.{numbers_of, updates_kept, witness_calls, witness_of, in_witness, AreWitnesses}
use Rattle.snap_theory.proofs.Witnesses.{few_calls, shows_one, shows_none}
use Rattle.snap_core.proofs.Ordered.{IsFittingHistory}

-- no view shows more of a component than the number it is paired with
abbrev pub Covers : List Call → List (ℕ × ℕ) → Type 0
Covers rs ps = (r : Call) (p : ℕ × ℕ) → In r rs → In p ps → shown_number r p.0 ≤ p.1

-- these updates show the fault
pub record Shows (es : List Event) (f : Fault) (ps : List (ℕ × ℕ)) : Type 0 where
  pub are : AreWitnesses es (fault_views f) ps
  pub few : length (fault_views f) + length ps ≤ call_limit f
  pub fault : HasFaultKept (calls_of (witness_of es (fault_views f) ps)) (in_witness es (fault_views f) ps) f
  pub covers : is_local f ≡ false → Covers (fault_views f) ps

-- what holds of one element, or of each of two

pub of_one : {X : Type 0} (P : X → Type 0) (x : X) → P x → (z : X) → In z (x ∷ []) → P z
of_one P x p z (inl e) = subst P e p
of_one P x p z (inr i) = absurd i

pub of_two : {X : Type 0} (P : X → Type 0) (x y : X) → P x → P y → (z : X) → In z (x ∷ y ∷ []) → P z
of_two P x y p q z (inl e) = subst P e p
of_two P x y p q z (inr i) = of_one P y q z i

-- the numbers of one component, or of two that differ

pub first_number : (k n : ℕ) (ps : List (ℕ × ℕ)) → numbers_of ((k, n) ∷ ps) k ≡ n
first_number k n ps = ap (λ b. cond b n (numbers_of ps k)) (eq-eqb k k refl)

pub second_number : (k n j m : ℕ) → k ≢ j → numbers_of ((k, n) ∷ (j, m) ∷ []) j ≡ m
second_number k n j m d = ap (λ b. cond b n (numbers_of ((j, m) ∷ []) j)) (ne_eqb k j d) ∙ first_number j m []

pub one_apart : (k n : ℕ) (p : ℕ × ℕ) → In p ((k, n) ∷ []) → numbers_of ((k, n) ∷ []) p.0 ≡ p.1
one_apart k n = of_one (λ (p : ℕ × ℕ). numbers_of ((k, n) ∷ []) p.0 ≡ p.1) (k, n) (first_number k n [])

pub two_apart : (k n j m : ℕ) → k ≢ j → (p : ℕ × ℕ) → In p ((k, n) ∷ (j, m) ∷ []) → numbers_of ((k, n) ∷ (j, m) ∷ []) p.0 ≡ p.1
two_apart k n j m d = of_two (λ (p : ℕ × ℕ). numbers_of ((k, n) ∷ (j, m) ∷ []) p.0 ≡ p.1) (k, n) (j, m) (first_number k n ((j, m) ∷ [])) (second_number k n j m d)

pub witnesses : (es : List Event) (rs : List Call) (ps : List (ℕ × ℕ)) → ((c : Call) → In c rs → IsViewOf (calls_of es) c) → ((p : ℕ × ℕ) → In p ps → numbers_of ps p.0 ≡ p.1) → AreWitnesses es rs ps
witnesses es rs ps v a = record { views = λ c i. v c (In-from_Contains rs c i); apart = λ p i. a p (In-from_Contains ps p i) }

pub few_chosen : (calls rs : List Call) (ps : List (ℕ × ℕ)) → length (witness_calls calls rs ps) ≤ length rs + length ps
unfolding witness_calls
few_chosen calls rs ps = omega (arith, length-append rs (updates_kept calls ps), few_calls calls ps)

-- no view shows more than is kept

pub covers_one : (r : Call) (k n : ℕ) → shown_number r k ≤ n → (p : ℕ × ℕ) → In p ((k, n) ∷ []) → shown_number r p.0 ≤ p.1
covers_one r k n = of_one (λ (p : ℕ × ℕ). shown_number r p.0 ≤ p.1) (k, n)

pub covers_two : (r : Call) (k n j m : ℕ) → shown_number r k ≤ n → shown_number r j ≤ m → (p : ℕ × ℕ) → In p ((k, n) ∷ (j, m) ∷ []) → shown_number r p.0 ≤ p.1
covers_two r k n j m = of_two (λ (p : ℕ × ℕ). shown_number r p.0 ≤ p.1) (k, n) (j, m)

-- a view that shows more of a component, where its update is kept, does so in the witness
pub more_there : (es : List Event) (rs : List Call) (ps : List (ℕ × ℕ)) → IsFittingHistory es → (r s : Call) (m n k : ℕ) → IsViewOf (calls_of es) s → shown_number s k < shown_number r k → numbers_of ps k ≡ shown_number r k → exceeds (in_witness es rs ps m r) (in_witness es rs ps n s) ≡ true
more_there es rs ps h r s m n k v l e =
    let one = shows_one es rs ps m r k (omega arith) e in
    let none = shows_none es rs ps h n s k v (λ q. omega (arith, q, e, l)) in
    exceeds_from (in_witness es rs ps m r) (in_witness es rs ps n s) k (omega (arith, one, none))
