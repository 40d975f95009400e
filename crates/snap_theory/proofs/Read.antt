-- The views and updates that show a read fault.
use Rattle.std.proofs.Common.{◌≡◌, ◌≢◌, ℕ, ◌<◌, ◌≤◌, Bool, true, false, cond, ◌&&◌, ◌||◌, List, [], ◌∷◌, ◌++◌, length, Some, refl, sym, ap, ◌∙◌, subst, inl, inr, arith}
use Rattle.std.specs.List.{All}
use Rattle.std.proofs.lemmas.Bool.{and_parts, and_from, or_left, or_right}
use Rattle.snap_core.specs.declared.event.Event.{Event}
use Rattle.snap_core.specs.Entries.{HasByteComponent}
use Rattle.snap_core.specs.Calls.{Call, calls_of, entries_of, precedes, shown_number}
use Rattle.snap_core.specs.Regular.{IsViewOf}
use Rattle.snap_core.proofs.Lists.{In, In-from_Contains}
use Rattle.snap_theory.specs.Faults.{exceeds, read_fault, least_exceeding}
use Rattle.snap_theory.proofs.Components.{least_exceeded}
use Rattle.snap_theory.specs.FaultWitnesses.{Read, shown_update, excess_of, fault_updates}
use Rattle.snap_theory.specs.Witness.{numbers_of, in_witness, AreWitnesses}
use Rattle.snap_theory.proofs.Pairs.{Shows, Covers, of_two, one_apart, two_apart, first_number, second_number, witnesses, covers_one, covers_two, more_there}
use Rattle.snap_theory.proofs.Components.{fit_views}
use Rattle.snap_theory.proofs.Witnesses.{precedence_there, view_place, ViewKept, view_there}
use Rattle.snap_core.proofs.Ordered.{IsFittingHistory}

-- the least component of which r shows more than s
record Excess (r s : Call) : Type 0 where
  component : ℕ
  least : least_exceeding r s ≡ Some component
  more : shown_number s component < shown_number r component

excess : (es : List Event) → IsFittingHistory es → (r s : Call) → IsViewOf (calls_of es) r → exceeds r s ≡ true → Excess r s
excess es h r s v e =
    let bytes : All HasByteComponent (entries_of r.operation) = λ k d l. ((fit_views es h.fit r v.there).fit k d l).0 in
    let x = least_exceeded r s bytes e in
    record { component = x.0; least = x.1; more = x.2.more }

made : (es : List Event) → IsFittingHistory es → (r s : Call) → IsViewOf (calls_of es) r → IsViewOf (calls_of es) s → (ps : List (ℕ × ℕ)) → length ps ≤ 2 → ((p : ℕ × ℕ) → In p ps → numbers_of ps p.0 ≡ p.1) →
    Covers (r ∷ s ∷ []) ps → ((m n : ℕ) → read_fault (in_witness es (r ∷ s ∷ []) ps m r) (in_witness es (r ∷ s ∷ []) ps n s) ≡ true) → Shows es (Read r s) ps
made es h r s v w ps few apart covers fault = record {
  are = a;
  few = omega (arith, few);
  fault = (x.number, y.number, (x.view, y.view, fault x.number y.number));
  covers = λ _. covers;
}
  where
    a : AreWitnesses es (r ∷ s ∷ []) ps
    a = witnesses es (r ∷ s ∷ []) ps (of_two (IsViewOf (calls_of es)) r s v w) apart

    x : ViewKept es (r ∷ s ∷ []) ps r
    x = view_there es (r ∷ s ∷ []) ps h.ordered a r (inl refl)

    y : ViewKept es (r ∷ s ∷ []) ps s
    y = view_there es (r ∷ s ∷ []) ps h.ordered a s (inr (inl refl))

-- r precedes s
before : (es : List Event) → IsFittingHistory es → (r s : Call) → IsViewOf (calls_of es) r → IsViewOf (calls_of es) s → (k : ℕ) → shown_number s k < shown_number r k → precedes r s ≡ true → Shows es (Read r s) ((k, shown_number r k) ∷ [])
unfolding read_fault
before es h r s v w k l p = made es h r s v w ps (omega arith) (one_apart k (shown_number r k)) covers fault
  where
    ps : List (ℕ × ℕ)
    ps = (k, shown_number r k) ∷ []

    a : AreWitnesses es (r ∷ s ∷ []) ps
    a = witnesses es (r ∷ s ∷ []) ps (of_two (IsViewOf (calls_of es)) r s v w) (one_apart k (shown_number r k))

    covers : Covers (r ∷ s ∷ []) ps
    covers c p i = of_two (λ c. (p : ℕ × ℕ) → In p ps → shown_number c p.0 ≤ p.1) r s (covers_one r k (shown_number r k) (omega arith)) (covers_one s k (shown_number r k) (omega (arith, l))) c i p

    fault : (m n : ℕ) → (exceeds (in_witness es (r ∷ s ∷ []) ps m r) (in_witness es (r ∷ s ∷ []) ps n s) && (precedes (in_witness es (r ∷ s ∷ []) ps m r) (in_witness es (r ∷ s ∷ []) ps n s) || exceeds (in_witness es (r ∷ s ∷ []) ps n s) (in_witness es (r ∷ s ∷ []) ps m r))) ≡ true
    fault m n =
        and_from _ _ (more_there es (r ∷ s ∷ []) ps h r s m n k w l (first_number k (shown_number r k) []))
        (or_left _ _ (precedence_there es (r ∷ s ∷ []) ps h.ordered a r s m n (In-from_Contains (calls_of es) r v.there) (In-from_Contains (calls_of es) s w.there)
        (view_place es (r ∷ s ∷ []) ps r (inl refl)) (view_place es (r ∷ s ∷ []) ps s (inr (inl refl))) p))

-- s shows more of another component
across : (es : List Event) → IsFittingHistory es → (r s : Call) → IsViewOf (calls_of es) r → IsViewOf (calls_of es) s → (k j : ℕ) → shown_number s k < shown_number r k → shown_number r j < shown_number s j → Shows es (Read r s) ((k, shown_number r k) ∷ (j, shown_number s j) ∷ [])
unfolding read_fault
across es h r s v w k j l g = made es h r s v w ps (omega arith) (two_apart k (shown_number r k) j (shown_number s j) d) covers fault
  where
    ps : List (ℕ × ℕ)
    ps = (k, shown_number r k) ∷ (j, shown_number s j) ∷ []

    d : k ≢ j
    d e = let x : shown_number r k ≡ shown_number r j = ap (shown_number r) e in let y : shown_number s k ≡ shown_number s j = ap (shown_number s) e in omega (arith, x, y, l, g)

    covers : Covers (r ∷ s ∷ []) ps
    covers c p i = of_two (λ c. (p : ℕ × ℕ) → In p ps → shown_number c p.0 ≤ p.1) r s
        (covers_two r k (shown_number r k) j (shown_number s j) (omega arith) (omega (arith, g)))
        (covers_two s k (shown_number r k) j (shown_number s j) (omega (arith, l)) (omega arith)) c i p

    fault : (m n : ℕ) → (exceeds (in_witness es (r ∷ s ∷ []) ps m r) (in_witness es (r ∷ s ∷ []) ps n s) && (precedes (in_witness es (r ∷ s ∷ []) ps m r) (in_witness es (r ∷ s ∷ []) ps n s) || exceeds (in_witness es (r ∷ s ∷ []) ps n s) (in_witness es (r ∷ s ∷ []) ps m r))) ≡ true
    fault m n =
        and_from _ _ (more_there es (r ∷ s ∷ []) ps h r s m n k w l (first_number k (shown_number r k) ((j, shown_number s j) ∷ [])))
        (or_right _ _ (more_there es (r ∷ s ∷ []) ps h s r n m j v g (second_number k (shown_number r k) j (shown_number s j) d)))

pub read_shows : (es : List Event) → IsFittingHistory es → (r s : Call) → IsViewOf (calls_of es) r → IsViewOf (calls_of es) s → read_fault r s ≡ true → Shows es (Read r s) (fault_updates (Read r s))
unfolding read_fault
read_shows es h r s v w t = go (precedes r s) refl (and_parts (exceeds r s) (precedes r s || exceeds s r) t).1
  where
    x : Excess r s
    x = excess es h r s v (and_parts (exceeds r s) (precedes r s || exceeds s r) t).0

    first : excess_of r s ≡ (x.component, shown_number r x.component) ∷ []
    first = ap (shown_update r) x.least

    go : (b : Bool) → precedes r s ≡ b → (precedes r s || exceeds s r) ≡ true → Shows es (Read r s) (excess_of r s ++ cond (precedes r s) [] (excess_of s r))
    go true p o = subst (Shows es (Read r s)) (sym (ap (λ z. z ++ cond (precedes r s) [] (excess_of s r)) first ∙ ap (λ b. (x.component, shown_number r x.component) ∷ cond b [] (excess_of s r)) p)) (before es h r s v w x.component x.more p)
    go false p o =
        let y = excess es h s r w (ap (λ b. b || exceeds s r) (sym p) ∙ o) in
        subst (Shows es (Read r s)) (sym (ap (λ z. z ++ cond (precedes r s) [] (excess_of s r)) first ∙ ap (λ b. (x.component, shown_number r x.component) ∷ cond b [] (excess_of s r)) p ∙ ap (λ z. (x.component, shown_number r x.component) ∷ shown_update s z) y.least))
        (across es h r s v w x.component y.component x.more y.more)
