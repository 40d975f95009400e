-- The view and the updates that show a write fault.
use Rattle.std.proofs.Common.{◌≡◌, ◌≢◌, ℕ, suc, ◌<◌, ◌≤◌, true, ◌&&◌, List, [], ◌∷◌, refl, sym, ap, ◌∙◌, inl, inr, arith}
use Rattle.std.specs.List.{list_any}
use Rattle.std.proofs.lemmas.Bool.{and_parts, and_from}
use Rattle.snap_core.specs.declared.event.Event.{Event}
use Rattle.snap_core.specs.Calls.{Call, calls_of, precedes, shown_number, is_update_numbered}
use Rattle.snap_core.specs.Regular.{IsViewOf}
use Rattle.snap_core.proofs.Lists.{In, any_from, any_to, Passes}
use Rattle.snap_core.proofs.Facts.{precedes_to}
use Rattle.snap_theory.specs.Faults.{write_fault}
use Rattle.snap_theory.proofs.Local.{IsNumbered, numbered_to}
use Rattle.snap_theory.specs.FaultWitnesses.{Write, fault_updates}
use Rattle.snap_theory.specs.Witness.{witness_of, in_witness, AreWitnesses}
use Rattle.snap_theory.proofs.Pairs.{Shows, Covers, of_one, two_apart, first_number, second_number, witnesses, covers_two}
use Rattle.snap_theory.proofs.Witnesses.{shows_one, shows_none, precedence_there, update_place, ViewKept, view_there, UpdateKept, update_there}
use Rattle.snap_core.specs.Ordered.{IsOrdered}
use Rattle.snap_core.proofs.Ordered.{IsFittingHistory, are_ordered_calls}

-- the missed and the shown update are of two components
apart_of_write : (es : List Event) → IsOrdered es → (a b : Call) (j k m n : ℕ) → IsNumbered (calls_of es) j m a → IsNumbered (calls_of es) k n b → precedes a b ≡ true → (j ≡ k → n < m) → j ≢ k
apart_of_write es h a b j k m n x y p l e =
    let f = are_ordered_calls es h in
    let l' = f.begins b a y.entry x.entry y.update x.update (y.component ∙ sym e ∙ sym x.component) (let q = l e in omega (arith, q, x.number, y.number)) in
    let s = precedes_to a b p in
    omega (arith, l', f.rises a s.place x.update.there s.ends, s.before)

pub write_shows : (es : List Event) → IsFittingHistory es → (r : Call) (j k : ℕ) → IsViewOf (calls_of es) r → write_fault (calls_of es) r j k ≡ true → Shows es (Write r j k) (fault_updates (Write r j k))
unfolding write_fault
write_shows es h r j k v t = record { are = w; few = omega arith; fault = (x.number, 0, (x.view, fault)); covers = λ _. covers }
  where
    ps : List (ℕ × ℕ)
    ps = (j, suc (shown_number r j)) ∷ (k, shown_number r k) ∷ []

    c : Passes (λ a. is_update_numbered j (suc (shown_number r j)) a && list_any (λ b. is_update_numbered k (shown_number r k) b && precedes a b) (calls_of es)) (calls_of es)
    c = any_to (λ a. is_update_numbered j (suc (shown_number r j)) a && list_any (λ b. is_update_numbered k (shown_number r k) b && precedes a b) (calls_of es)) (calls_of es) t

    c_is : is_update_numbered j (suc (shown_number r j)) c.it ≡ true
    c_is = (and_parts _ _ c.passes).0

    d : Passes (λ b. is_update_numbered k (shown_number r k) b && precedes c.it b) (calls_of es)
    d = any_to (λ b. is_update_numbered k (shown_number r k) b && precedes c.it b) (calls_of es) (and_parts (is_update_numbered j (suc (shown_number r j)) c.it) (list_any (λ b. is_update_numbered k (shown_number r k) b && precedes c.it b) (calls_of es)) c.passes).1

    d_is : is_update_numbered k (shown_number r k) d.it ≡ true
    d_is = (and_parts _ _ d.passes).0

    before : precedes c.it d.it ≡ true
    before = (and_parts (is_update_numbered k (shown_number r k) d.it) (precedes c.it d.it) d.passes).1

    missed : IsNumbered (calls_of es) j (suc (shown_number r j)) c.it
    missed = numbered_to (calls_of es) j (suc (shown_number r j)) c.it c.there c_is

    shows : IsNumbered (calls_of es) k (shown_number r k) d.it
    shows = numbered_to (calls_of es) k (shown_number r k) d.it d.there d_is

    other : j ≢ k
    other = apart_of_write es h.ordered c.it d.it j k (suc (shown_number r j)) (shown_number r k) missed shows before (λ e. let q : shown_number r j ≡ shown_number r k = ap (shown_number r) e in omega (arith, q))

    w : AreWitnesses es (r ∷ []) ps
    w = witnesses es (r ∷ []) ps (of_one (IsViewOf (calls_of es)) r v) (two_apart j (suc (shown_number r j)) k (shown_number r k) other)

    covers : Covers (r ∷ []) ps
    covers c p i = of_one (λ c. (p : ℕ × ℕ) → In p ps → shown_number c p.0 ≤ p.1) r (covers_two r j (suc (shown_number r j)) k (shown_number r k) (omega arith) (omega arith)) c i p

    x : ViewKept es (r ∷ []) ps r
    x = view_there es (r ∷ []) ps h.ordered w r (inl refl)

    R : Call
    R = in_witness es (r ∷ []) ps x.number r

    W : List Call
    W = calls_of (witness_of es (r ∷ []) ps)

    a : UpdateKept es (r ∷ []) ps j c.it
    a = update_there es (r ∷ []) ps h.ordered w (j, suc (shown_number r j)) c.it (inl refl) c.there c_is

    b : UpdateKept es (r ∷ []) ps k d.it
    b = update_there es (r ∷ []) ps h.ordered w (k, shown_number r k) d.it (inr (inl refl)) d.there d_is

    A : Call
    A = in_witness es (r ∷ []) ps a.number c.it

    B : Call
    B = in_witness es (r ∷ []) ps b.number d.it

    none : shown_number R j ≡ 0
    none = shows_none es (r ∷ []) ps h x.number r j v (λ q. let z = first_number j (suc (shown_number r j)) ((k, shown_number r k) ∷ []) in omega (arith, q, z))

    one : shown_number R k ≡ 1
    one =
        let z = (are_ordered_calls es h.ordered).positive d.it shows.entry shows.update in
        shows_one es (r ∷ []) ps x.number r k (omega (arith, z, shows.number)) (second_number j (suc (shown_number r j)) k (shown_number r k) other)

    kept_before : precedes A B ≡ true
    kept_before =
        precedence_there es (r ∷ []) ps h.ordered w c.it d.it a.number b.number c.there d.there
        (update_place es (r ∷ []) ps h.ordered (j, suc (shown_number r j)) c.it (inl refl) c.there c_is)
        (update_place es (r ∷ []) ps h.ordered (k, shown_number r k) d.it (inr (inl refl)) d.there d_is) before

    fault : write_fault W R j k ≡ true
    fault =
        any_from (λ a. is_update_numbered j (suc (shown_number R j)) a && list_any (λ b. is_update_numbered k (shown_number R k) b && precedes a b) W) W A a.there
        (and_from _ _ (ap (λ q. is_update_numbered j (suc q) A) none ∙ a.is)
        (any_from (λ b. is_update_numbered k (shown_number R k) b && precedes A b) W B b.there
        (and_from _ _ (ap (λ q. is_update_numbered k q B) one ∙ b.is) kept_before)))
