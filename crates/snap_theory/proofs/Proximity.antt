-- The view and the update that show a proximity fault.
use Rattle.std.proofs.Common.{◌≡◌, ℕ, suc, ◌<◌, true, ◌&&◌, List, [], ◌∷◌, refl, sym, ap, ◌∙◌, inl, arith}
use Rattle.std.proofs.lemmas.Bool.{and_parts, and_from, false≢true}
use Rattle.snap_core.specs.declared.event.Event.{Event}
use Rattle.snap_core.specs.Calls.{Call, calls_of, precedes, shown_number, is_update_numbered}
use Rattle.snap_core.specs.Regular.{IsViewOf}
use Rattle.snap_core.proofs.Lists.{In-from_Contains, any_from, any_to, Passes}
use Rattle.snap_theory.specs.Faults.{old_fault, early_fault}
use Rattle.snap_theory.proofs.Local.{numbered_to}
use Rattle.snap_theory.specs.FaultWitnesses.{Old, Early, fault_updates}
use Rattle.snap_theory.specs.Witness.{witness_of, in_witness, AreWitnesses}
use Rattle.snap_theory.proofs.Pairs.{Shows, of_one, one_apart, first_number, witnesses}
use Rattle.snap_theory.proofs.Witnesses.{shows_one, shows_none, precedence_there, view_place, update_place, ViewKept, view_there, UpdateKept, update_there}
use Rattle.snap_core.proofs.Ordered.{IsFittingHistory, are_ordered_calls}

one_view : (es : List Event) (r : Call) (k n : ℕ) → IsViewOf (calls_of es) r → AreWitnesses es (r ∷ []) ((k, n) ∷ [])
one_view es r k n v = witnesses es (r ∷ []) ((k, n) ∷ []) (of_one (IsViewOf (calls_of es)) r v) (one_apart k n)

pub old_shows : (es : List Event) → IsFittingHistory es → (r : Call) (k : ℕ) → IsViewOf (calls_of es) r → old_fault (calls_of es) r k ≡ true → Shows es (Old r k) (fault_updates (Old r k))
unfolding old_fault
old_shows es h r k v t = record { are = a; few = omega arith; fault = (x.number, 0, (x.view, fault)); covers = λ e. absurd (false≢true (sym e)) }
  where
    ps : List (ℕ × ℕ)
    ps = (k, suc (shown_number r k)) ∷ []

    a : AreWitnesses es (r ∷ []) ps
    a = one_view es r k (suc (shown_number r k)) v

    x : ViewKept es (r ∷ []) ps r
    x = view_there es (r ∷ []) ps h.ordered a r (inl refl)

    R : Call
    R = in_witness es (r ∷ []) ps x.number r

    c : Passes (λ a. is_update_numbered k (suc (shown_number r k)) a && precedes a r) (calls_of es)
    c = any_to (λ a. is_update_numbered k (suc (shown_number r k)) a && precedes a r) (calls_of es) t

    c_is : is_update_numbered k (suc (shown_number r k)) c.it ≡ true
    c_is = (and_parts _ _ c.passes).0

    c_before : precedes c.it r ≡ true
    c_before = (and_parts (is_update_numbered k (suc (shown_number r k)) c.it) (precedes c.it r) c.passes).1

    y : UpdateKept es (r ∷ []) ps k c.it
    y = update_there es (r ∷ []) ps h.ordered a (k, suc (shown_number r k)) c.it (inl refl) c.there c_is

    none : shown_number R k ≡ 0
    none = shows_none es (r ∷ []) ps h x.number r k v (λ q. let z = first_number k (suc (shown_number r k)) [] in omega (arith, q, z))

    fault : old_fault (calls_of (witness_of es (r ∷ []) ps)) R k ≡ true
    fault =
        any_from (λ a. is_update_numbered k (suc (shown_number R k)) a && precedes a R) (calls_of (witness_of es (r ∷ []) ps)) (in_witness es (r ∷ []) ps y.number c.it) y.there
        (and_from _ _ (ap (λ q. is_update_numbered k (suc q) (in_witness es (r ∷ []) ps y.number c.it)) none ∙ y.is)
        (precedence_there es (r ∷ []) ps h.ordered a c.it r y.number x.number c.there (In-from_Contains (calls_of es) r v.there) (update_place es (r ∷ []) ps h.ordered (k, suc (shown_number r k)) c.it (inl refl) c.there c_is) (view_place es (r ∷ []) ps r (inl refl)) c_before))

pub early_shows : (es : List Event) → IsFittingHistory es → (r : Call) (k : ℕ) → IsViewOf (calls_of es) r → early_fault (calls_of es) r k ≡ true → Shows es (Early r k) (fault_updates (Early r k))
unfolding early_fault
early_shows es h r k v t = record { are = a; few = omega arith; fault = (x.number, 0, (x.view, fault)); covers = λ e. absurd (false≢true (sym e)) }
  where
    ps : List (ℕ × ℕ)
    ps = (k, shown_number r k) ∷ []

    a : AreWitnesses es (r ∷ []) ps
    a = one_view es r k (shown_number r k) v

    x : ViewKept es (r ∷ []) ps r
    x = view_there es (r ∷ []) ps h.ordered a r (inl refl)

    R : Call
    R = in_witness es (r ∷ []) ps x.number r

    c : Passes (λ a. is_update_numbered k (shown_number r k) a && precedes r a) (calls_of es)
    c = any_to (λ a. is_update_numbered k (shown_number r k) a && precedes r a) (calls_of es) t

    c_is : is_update_numbered k (shown_number r k) c.it ≡ true
    c_is = (and_parts _ _ c.passes).0

    c_behind : precedes r c.it ≡ true
    c_behind = (and_parts (is_update_numbered k (shown_number r k) c.it) (precedes r c.it) c.passes).1

    y : UpdateKept es (r ∷ []) ps k c.it
    y = update_there es (r ∷ []) ps h.ordered a (k, shown_number r k) c.it (inl refl) c.there c_is

    positive : 0 < shown_number r k
    positive =
        let u = numbered_to (calls_of es) k (shown_number r k) c.it c.there c_is in
        let z = (are_ordered_calls es h.ordered).positive c.it u.entry u.update in
        omega (arith, z, u.number)

    one : shown_number R k ≡ 1
    one = shows_one es (r ∷ []) ps x.number r k positive (first_number k (shown_number r k) [])

    fault : early_fault (calls_of (witness_of es (r ∷ []) ps)) R k ≡ true
    fault =
        any_from (λ a. is_update_numbered k (shown_number R k) a && precedes R a) (calls_of (witness_of es (r ∷ []) ps)) (in_witness es (r ∷ []) ps y.number c.it) y.there
        (and_from _ _ (ap (λ q. is_update_numbered k q (in_witness es (r ∷ []) ps y.number c.it)) one ∙ y.is)
        (precedence_there es (r ∷ []) ps h.ordered a r c.it x.number y.number (In-from_Contains (calls_of es) r v.there) c.there (view_place es (r ∷ []) ps r (inl refl)) (update_place es (r ∷ []) ps h.ordered (k, shown_number r k) c.it (inl refl) c.there c_is) c_behind))
