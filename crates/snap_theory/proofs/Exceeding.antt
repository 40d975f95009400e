-- Views of which one shows more of some component than the other.
use Rattle.std.proofs.Common.{◌≡◌, ℕ, ◌<◌, ◌≤◌, true, false, sym, ◌∙◌, subst, arith}
use Rattle.std.specs.Prelude.{nat_lt}
use Rattle.std.proofs.lemmas.Bool.{ltb-true, lt-ltb, false≢true, false_from_ne_true}
use Rattle.snap_core.specs.Calls.{Call, entries_of, shown_number}
use Rattle.snap_theory.specs.Faults.{exceeds}
use Rattle.snap_core.proofs.Lists.{any_from, any_to}
use Rattle.snap_core.proofs.Facts.{shown_in, shows_positive}

-- a view that shows more of some component
pub exceeds_from : (r s : Call) (k : ℕ) → shown_number s k < shown_number r k → exceeds r s ≡ true
unfolding exceeds
exceeds_from r s k l =
    let p = shows_positive r k (omega arith) in
    let i = shown_in r k p.entry p.is in
    any_from (λ e. nat_lt (shown_number s e.component) (shown_number r e.component)) (entries_of r.operation) p.entry i.0
    (lt-ltb _ _ (subst (λ c. shown_number s c < shown_number r c) (sym i.1) l))

pub record ShowsMore (r s : Call) : Type 0 where
  pub component : ℕ
  pub more : shown_number s component < shown_number r component

pub exceeds_to : (r s : Call) → exceeds r s ≡ true → ShowsMore r s
unfolding exceeds
exceeds_to r s h =
    let p = any_to (λ e. nat_lt (shown_number s e.component) (shown_number r e.component)) (entries_of r.operation) h in
    record { component = p.it.component; more = ltb-true _ _ p.passes }

pub exceeds_not : (r s : Call) (k : ℕ) → exceeds r s ≡ false → shown_number r k ≤ shown_number s k
exceeds_not r s k h = omega (arith, not_more)
  where
    not_more : ¬ (shown_number s k < shown_number r k)
    not_more l = false≢true (sym h ∙ exceeds_from r s k l)

pub not_exceeds : (r s : Call) → ((k : ℕ) → shown_number r k ≤ shown_number s k) → exceeds r s ≡ false
not_exceeds r s h = false_from_ne_true (exceeds r s) (λ t. let m = exceeds_to r s t in absurd (omega (arith, m.more, h m.component)))
