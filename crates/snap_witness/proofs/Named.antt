-- Call numbers and updates that name the first fault of a kind.
use Rattle.std.proofs.Common.{◌≡◌, ℕ, suc, ◌<◌, ◌≤◌, Bool, true, false, cond, List, [], ◌∷◌, ◌&&◌, zero, get_or, length, map, Option, Some, None, Result, Ok, Err, refl, sym, ap, ◌∙◌, subst, arith}
use Rattle.std.specs.List.{All}
use Rattle.std.specs.Option.{option_map, option_or}
use Rattle.std.specs.Result.{IfOk}
use Rattle.std.proofs.lemmas.Bool.{and_parts}
use Rattle.std.proofs.lemmas.List.Sums.{count_by-le-length}
use Rattle.snap_core.specs.declared.event.Event.{Event}
use Rattle.snap_core.specs.Bounded.{IsBoundedOrdered}
use Rattle.snap_core.specs.Events.{event_cap}
use Rattle.snap_core.specs.Calls.{Call, calls_of, views_of, call_numbered, is_view, precedes, shown_number, is_update_numbered}
use Rattle.snap_core.specs.Regular.{IsViewOf}
use Rattle.snap_core.proofs.Lists.{In, In-from_Contains, any_to}
use Rattle.snap_index.specs.Updates.{is_update_of}
use Rattle.snap_index.proofs.Known.{own_number, number_within, update_bounds}
use Rattle.snap_theory.specs.Faults.{old_fault, early_fault, integrity_faults, proximity_faults, read_faults, write_faults, first_of}
use Rattle.snap_conditions.specs.declared.fault.IntegrityFault.{IntegrityFault}
use Rattle.snap_conditions.specs.declared.fault.ProximityFault.{ProximityFault}
use Rattle.snap_conditions.specs.declared.fault.ReadFault.{ReadFault}
use Rattle.snap_conditions.specs.declared.fault.WriteFault.{WriteFault}
use Rattle.snap_conditions.specs.declared.fault.Side.TheVariants.{Old as OldSide, Early as EarlySide}
use Rattle.snap_conditions.specs.Tally.{reported_integrity, reported_proximity, reported_read, reported_write}
use Rattle.snap_index.proofs.IndexedCalls.{call_count_within, mapped_some}
use Rattle.snap_theory.specs.FaultWitnesses.{Fault, Integrity, Old, Early, Read, Write, IsFaultOf, fault_views, fault_updates}
use Rattle.snap_theory.specs.First.{proximity_of, first_integrity, first_proximity, first_read, first_write}
use Rattle.snap_index.specs.IndexedCalls.{number_of}
use Rattle.snap_theory.specs.Kept.{is_place_of}
use Rattle.snap_witness.specs.Keeping.{calls_begun, calls_kept, numbers_kept}
use Rattle.snap_witness.specs.inside.Names.{Names}
use Rattle.snap_witness.specs.inside.Places.{calls_numbered}
use Rattle.snap_witness.specs.Places.{side_number, IsViewAt}
use Rattle.snap_theory.specs.Witness.{witness_calls, AreWitnesses}
use Rattle.snap_theory.proofs.FaultWitnesses.{are_witnesses}
use Rattle.snap_theory.proofs.First.{integrity_is, proximity_first, read_is, write_is}
use Rattle.snap_theory.proofs.Witnesses.{find_there}

names : (es : List Event) → IsBoundedOrdered es → (o : Option Fault) (f : Fault) (vs : List ℕ) → o ≡ Some f → IsFaultOf (calls_of es) f → All (λ c. c < length (calls_of es)) vs → fault_views f ≡ calls_numbered (calls_of es) vs → Names es o vs (fault_updates f)
names es h o f vs e i within same = record {
  fault = f;
  is = e;
  within = within;
  calls = subst (λ rs. AreWitnesses es rs (fault_updates f)) same (are_witnesses es h f i);
  views = same;
  same = refl;
}

-- what comes first is the first fault, and what comes behind nothing
pub names_before : (es : List Event) (o p : Option Fault) (vs : List ℕ) (ps : List (ℕ × ℕ)) → Names es o vs ps → Names es (option_or o p) vs ps
names_before es o p vs ps n = record { fault = n.fault; is = ap (λ z. option_or z p) n.is; within = n.within; calls = n.calls; views = n.views; same = n.same }

pub names_behind : (es : List Event) (o p : Option Fault) (vs : List ℕ) (ps : List (ℕ × ℕ)) → o ≡ None → Names es p vs ps → Names es (option_or o p) vs ps
names_behind es o p vs ps e n = subst (λ z. Names es (option_or z p) vs ps) (sym e) n

pub both_ok : {X Y : Type 0} (r : Result X Y) (P Q : X → Type 0) → IfOk r P → IfOk r Q → IfOk r (λ x. P x × Q x)
both_ok (Ok x) P Q p q = (p, q)
both_ok (Err y) P Q p q = tt

pub names_same : (es : List Event) (o : Option Fault) (vs ws : List ℕ) (ps us : List (ℕ × ℕ)) → ws ≡ vs → us ≡ ps → Names es o vs ps → Names es o ws us
names_same es o vs ws ps us v p n = subst (λ w. Names es o w us) (sym v) (subst (λ u. Names es o vs u) (sym p) n)

-- the numbers of its calls, by what names it
pub named_numbers : (es : List Event) (o : Option Fault) (vs : List ℕ) (ps : List (ℕ × ℕ)) → Names es o vs ps →
    option_map (numbers_kept es) o ≡ Some (map number_of (calls_begun (is_place_of (witness_calls (calls_of es) (calls_numbered (calls_of es) vs) ps)) (calls_of es)))
unfolding calls_kept
named_numbers es o vs ps n =
    ap (option_map (numbers_kept es)) n.is ∙ ap (λ rs. Some (map number_of (calls_begun (is_place_of (witness_calls (calls_of es) rs (fault_updates n.fault))) (calls_of es)))) n.views
    ∙ ap (λ us. Some (map number_of (calls_begun (is_place_of (witness_calls (calls_of es) (calls_numbered (calls_of es) vs) us)) (calls_of es)))) n.same

one_within : (es : List Event) (r : Call) → IsViewOf (calls_of es) r → All (λ c. c < length (calls_of es)) (r.number ∷ [])
one_within es r v i d l = go i l
  where
    go : (i : ℕ) → i < 1 → get_or (r.number ∷ []) i d < length (calls_of es)
    go zero l = number_within es r (In-from_Contains (calls_of es) r v.there)
    go (suc i) l = absurd (omega (arith, l))

two_within : (es : List Event) (r s : Call) → IsViewOf (calls_of es) r → IsViewOf (calls_of es) s → All (λ c. c < length (calls_of es)) (r.number ∷ s.number ∷ [])
two_within es r s v w i d l = go i l
  where
    go : (i : ℕ) → i < 2 → get_or (r.number ∷ s.number ∷ []) i d < length (calls_of es)
    go zero l = number_within es r (In-from_Contains (calls_of es) r v.there)
    go (suc zero) l = number_within es s (In-from_Contains (calls_of es) s w.there)
    go (suc (suc i)) l = absurd (omega (arith, l))

one_call : (es : List Event) (r : Call) → IsViewOf (calls_of es) r → r ∷ [] ≡ calls_numbered (calls_of es) (r.number ∷ [])
unfolding calls_numbered
one_call es r v = ap (λ z. z ∷ []) (sym (own_number es r (In-from_Contains (calls_of es) r v.there)))

two_calls : (es : List Event) (r s : Call) → IsViewOf (calls_of es) r → IsViewOf (calls_of es) s → r ∷ s ∷ [] ≡ calls_numbered (calls_of es) (r.number ∷ s.number ∷ [])
unfolding calls_numbered
two_calls es r s v w =
    ap (λ z. z ∷ s ∷ []) (sym (own_number es r (In-from_Contains (calls_of es) r v.there)))
    ∙ ap (λ z. call_numbered (calls_of es) r.number ∷ z ∷ []) (sym (own_number es s (In-from_Contains (calls_of es) s w.there)))

pub view_at : (es : List Event) (r : Call) → IsViewOf (calls_of es) r → IsViewAt (calls_of es) r.number
view_at es r v = record {
  within = number_within es r (In-from_Contains (calls_of es) r v.there);
  view = ap is_view (own_number es r (In-from_Contains (calls_of es) r v.there)) ∙ v.completed;
}

pub integrity_named : (es : List Event) → IsBoundedOrdered es → (fault : IntegrityFault) → option_map reported_integrity (first_of (integrity_faults (calls_of es) (views_of (calls_of es)))) ≡ Some fault →
    Names es (first_integrity (calls_of es)) (fault.view ∷ []) ((fault.entry.component, fault.entry.number) ∷ [])
unfolding first_integrity
integrity_named es h fault e =
    let m = mapped_some reported_integrity (first_of (integrity_faults (calls_of es) (views_of (calls_of es)))) fault e in
    let f : first_integrity (calls_of es) ≡ Some (Integrity m.from.0 m.from.1) = ap (option_map (λ (f : Call × ℕ). Integrity f.0 f.1)) m.is in
    let i = (integrity_is (calls_of es) (Integrity m.from.0 m.from.1) f).0 in
    subst (λ (z : IntegrityFault). Names es (first_integrity (calls_of es)) (z.view ∷ []) ((z.entry.component, z.entry.number) ∷ [])) m.to
    (names es h (first_integrity (calls_of es)) (Integrity m.from.0 m.from.1) (m.from.0.number ∷ []) f i (one_within es m.from.0 i.0) (one_call es m.from.0 i.0))

-- the number of an update that there is
pub few_updates : (es : List Event) → IsBoundedOrdered es → (k n : ℕ) (c : Call) → In c (calls_of es) → is_update_numbered k n c ≡ true → n ≤ event_cap
few_updates es h k n c i t =
    let f = find_there (is_update_numbered k n) (calls_of es) c i t in
    let b = update_bounds es h.history k n f.0 f.1 in
    omega (arith, b.1, count_by-le-length (is_update_of k) (calls_of es), call_count_within es, h.short)

-- what a proximity fault names
pub record NamesProximity (es : List Event) (fault : ProximityFault) : Type 0 where
  pub view : IsViewAt (calls_of es) fault.view
  pub small : fault.number ≤ event_cap
  pub named : Names es (first_proximity (calls_of es)) (fault.view ∷ []) ((fault.component, side_number fault.side fault.number) ∷ [])

pub proximity_named : (es : List Event) → IsBoundedOrdered es → (fault : ProximityFault) → option_map (reported_proximity (calls_of es)) (first_of (proximity_faults (calls_of es) (views_of (calls_of es)))) ≡ Some fault → NamesProximity es fault
unfolding first_proximity old_fault early_fault
proximity_named es h fault e =
    let m = mapped_some (reported_proximity (calls_of es)) (first_of (proximity_faults (calls_of es) (views_of (calls_of es)))) fault e in
    let f : first_proximity (calls_of es) ≡ Some (proximity_of (calls_of es) m.from) = ap (option_map (proximity_of (calls_of es))) m.is in
    subst (NamesProximity es) m.to (go m.from.0 m.from.1 (old_fault (calls_of es) m.from.0 m.from.1) refl f (proximity_first (calls_of es) (proximity_of (calls_of es) m.from) f).0)
  where
    go : (r : Call) (k : ℕ) (b : Bool) → old_fault (calls_of es) r k ≡ b → first_proximity (calls_of es) ≡ Some (proximity_of (calls_of es) (r, k)) → IsFaultOf (calls_of es) (proximity_of (calls_of es) (r, k)) → NamesProximity es (reported_proximity (calls_of es) (r, k))
    go r k true t f i =
        let g : first_proximity (calls_of es) ≡ Some (Old r k) = f ∙ ap (λ b. Some (cond b (Old r k) (Early r k))) t in
        let j : IsFaultOf (calls_of es) (Old r k) = subst (λ b. IsFaultOf (calls_of es) (cond b (Old r k) (Early r k))) t i in
        let c = any_to (λ a. is_update_numbered k (suc (shown_number r k)) a && precedes a r) (calls_of es) j.1 in
        let few = few_updates es h k (suc (shown_number r k)) c.it c.there (and_parts (is_update_numbered k (suc (shown_number r k)) c.it) (precedes c.it r) c.passes).0 in
        record {
          view = view_at es r j.0;
          small = omega (arith, few);
          named = subst (λ b. Names es (first_proximity (calls_of es)) (r.number ∷ []) ((k, side_number (cond b OldSide EarlySide) (shown_number r k)) ∷ [])) (sym t)
              (names es h (first_proximity (calls_of es)) (Old r k) (r.number ∷ []) g j (one_within es r j.0) (one_call es r j.0));
        }
    go r k false t f i =
        let g : first_proximity (calls_of es) ≡ Some (Early r k) = f ∙ ap (λ b. Some (cond b (Old r k) (Early r k))) t in
        let j : IsFaultOf (calls_of es) (Early r k) = subst (λ b. IsFaultOf (calls_of es) (cond b (Old r k) (Early r k))) t i in
        let c = any_to (λ a. is_update_numbered k (shown_number r k) a && precedes r a) (calls_of es) j.1 in
        let few = few_updates es h k (shown_number r k) c.it c.there (and_parts (is_update_numbered k (shown_number r k) c.it) (precedes r c.it) c.passes).0 in
        record {
          view = view_at es r j.0;
          small = few;
          named = subst (λ b. Names es (first_proximity (calls_of es)) (r.number ∷ []) ((k, side_number (cond b OldSide EarlySide) (shown_number r k)) ∷ [])) (sym t)
              (names es h (first_proximity (calls_of es)) (Early r k) (r.number ∷ []) g j (one_within es r j.0) (one_call es r j.0));
        }

-- what a read fault names
pub record NamesRead (es : List Event) (fault : ReadFault) : Type 0 where
  pub view : IsViewAt (calls_of es) fault.view
  pub other : IsViewAt (calls_of es) fault.other
  pub named : Names es (first_read (calls_of es)) (fault.view ∷ fault.other ∷ []) (fault_updates (Read (call_numbered (calls_of es) fault.view) (call_numbered (calls_of es) fault.other)))

pub read_named : (es : List Event) → IsBoundedOrdered es → (fault : ReadFault) → option_map reported_read (first_of (read_faults (calls_of es) (views_of (calls_of es)))) ≡ Some fault → NamesRead es fault
unfolding first_read
read_named es h fault e =
    let m = mapped_some reported_read (first_of (read_faults (calls_of es) (views_of (calls_of es)))) fault e in
    let r = m.from.0 in
    let s = m.from.1 in
    let f : first_read (calls_of es) ≡ Some (Read r s) = ap (option_map (λ (f : Call × Call). Read f.0 f.1)) m.is in
    let i = read_is (calls_of es) (Read r s) f in
    let own = own_number es r (In-from_Contains (calls_of es) r i.0.there) in
    let own_other = own_number es s (In-from_Contains (calls_of es) s i.1.there) in
    subst (NamesRead es) m.to (record {
      view = view_at es r i.0;
      other = view_at es s i.1;
      named = subst (λ z. Names es (first_read (calls_of es)) (r.number ∷ s.number ∷ []) (fault_updates (Read z (call_numbered (calls_of es) s.number)))) (sym own)
          (subst (λ z. Names es (first_read (calls_of es)) (r.number ∷ s.number ∷ []) (fault_updates (Read r z))) (sym own_other)
          (names es h (first_read (calls_of es)) (Read r s) (r.number ∷ s.number ∷ []) f i (two_within es r s i.0 i.1) (two_calls es r s i.0 i.1)));
    })

pub write_named : (es : List Event) → IsBoundedOrdered es → (fault : WriteFault) → option_map reported_write (first_of (write_faults (calls_of es) (views_of (calls_of es)))) ≡ Some fault →
    Names es (first_write (calls_of es)) (fault.view ∷ []) ((fault.missed_component, fault.missed_number) ∷ (fault.shown_component, fault.shown_number) ∷ [])
unfolding first_write
write_named es h fault e =
    let m = mapped_some reported_write (first_of (write_faults (calls_of es) (views_of (calls_of es)))) fault e in
    let f : first_write (calls_of es) ≡ Some (Write m.from.0 m.from.1 m.from.2) = ap (option_map (λ (f : Call × ℕ × ℕ). Write f.0 f.1 f.2)) m.is in
    let i = write_is (calls_of es) (Write m.from.0 m.from.1 m.from.2) f in
    subst (λ (z : WriteFault). Names es (first_write (calls_of es)) (z.view ∷ []) ((z.missed_component, z.missed_number) ∷ (z.shown_component, z.shown_number) ∷ [])) m.to
    (names es h (first_write (calls_of es)) (Write m.from.0 m.from.1 m.from.2) (m.from.0.number ∷ []) f i (one_within es m.from.0 i.0) (one_call es m.from.0 i.0))
