-- The first faults of one completed view name completed views.
use Rattle.std.proofs.Common.{◌≡◌, ◌∙◌, ◌≤◌, suc, ℕ, Bool, true, ◌||◌, ◌&&◌, List, [], ◌∷◌, ◌++◌, map, Option, Some, refl, sym, ap, subst, inl, inr, arith}
use Rattle.std.specs.List.{filter, flat_map}
use Rattle.std.specs.Option.{ForSome}
use Rattle.std.proofs.lemmas.Bool.{and_parts, or_cases}
use Rattle.snap_core.specs.declared.event.Event.{Event}
use Rattle.snap_core.specs.Calls.{Call, calls_of, views_of, precedes, shown_number, is_update_numbered}
use Rattle.snap_core.specs.Bounded.{IsBoundedOrdered}
use Rattle.snap_core.specs.Events.{event_cap}
use Rattle.snap_core.specs.Regular.{IsViewOf}
use Rattle.snap_core.proofs.Lists.{In, In-from_filter, any_to}
use Rattle.snap_conditions.specs.declared.fault.Fault.{Fault}
use Rattle.snap_conditions.specs.declared.fault.Fault.TheVariants as faults
use Rattle.snap_conditions.specs.declared.fault.IntegrityFault.{IntegrityFault}
use Rattle.snap_conditions.specs.declared.fault.Kind.{Kind}
use Rattle.snap_conditions.specs.declared.fault.Kind.TheVariants.{Integrity, Proximity, Read, Write}
use Rattle.snap_conditions.specs.Kinds.{first_in}
use Rattle.snap_conditions.specs.declared.fault.ProximityFault.{ProximityFault}
use Rattle.snap_conditions.specs.declared.fault.ReadFault.{ReadFault}
use Rattle.snap_conditions.specs.declared.fault.WriteFault.{WriteFault}
use Rattle.snap_conditions.specs.declared.tally.Tally.{Tally}
use Rattle.snap_conditions.specs.Tally.{reported_integrity, reported_proximity, reported_read, reported_write, tally_of}
use Rattle.snap_theory.specs.Faults.{components, early_fault, first_of, integrity_fault, integrity_faults, listed, old_fault, proximity_faults, read_fault, read_faults, write_fault, write_faults}
use Rattle.snap_theory.proofs.FaultLists.{from_views}
use Rattle.snap_index.proofs.IndexedCalls.{mapped_some}
use Rattle.snap_witness.specs.Concerned.{IsNamed}
use Rattle.snap_witness.specs.Places.{AreReadAt, IsViewAt}
use Rattle.snap_witness.proofs.Named.{few_updates, view_at}

-- the first of some faults of a view is of that view
first_with : {X : Type 0} (r : Call) (xs : List X) (f : Call × X) → first_of (map (λ x. (r, x)) xs ++ []) ≡ Some f → (f.0 ≡ r) × In f.1 xs
first_with r [] f e = absurd (cc e)
first_with r (x ∷ xs) f e = let s : (r, x) ≡ f = cc in (sym (ap (λ z. z.0) s), inl (ap (λ z. z.1) s))

first_missed : (r : Call) (shown : ℕ → List ℕ) (js : List ℕ) (f : Call × ℕ × ℕ) → first_of (flat_map (λ j. map (λ k. (r, j, k)) (shown j)) js ++ []) ≡ Some f → f.0 ≡ r
first_missed r shown [] f e = absurd (cc e)
first_missed r shown (j ∷ js) f e = go (first_missed r shown js f) (shown j) e
  where
    Later : List (Call × ℕ × ℕ)
    Later = flat_map (λ j. map (λ k. (r, j, k)) (shown j)) js

    go : (first_of (Later ++ []) ≡ Some f → f.0 ≡ r) → (ks : List ℕ) → first_of ((map (λ k. (r, j, k)) ks ++ Later) ++ []) ≡ Some f → f.0 ≡ r
    go later [] e = later e
    go later (k ∷ ks) e = let s : (r, j, k) ≡ f = cc in sym (ap (λ z. z.0) s)

same_view : (es : List Event) (r q : Call) → IsViewOf (calls_of es) r → q ≡ r → IsViewAt (calls_of es) q.number
same_view es r q v e = subst (λ z. IsViewAt (calls_of es) z.number) (sym e) (view_at es r v)

pub integrity_of_view : (es : List Event) (r : Call) → IsViewOf (calls_of es) r → (t : Tally) → t ≡ tally_of (calls_of es) (r ∷ []) → (first : Option IntegrityFault) → first ≡ t.integrity.first → ForSome first (λ f. IsViewAt (calls_of es) f.view)
unfolding tally_of integrity_faults
integrity_of_view es r v t own first e = λ f is.
    let m = mapped_some reported_integrity (first_of (integrity_faults (calls_of es) (r ∷ []))) f (sym (ap (λ (z : Tally). z.integrity.first) own) ∙ sym e ∙ is) in
    let from = first_with r (filter (integrity_fault (calls_of es) r) (listed r)) m.from m.is in
    subst (λ (z : IntegrityFault). IsViewAt (calls_of es) z.view) m.to (same_view es r m.from.0 v from.0)

-- a view shows a number that there may be
proximity_small : (es : List Event) → IsBoundedOrdered es → (r : Call) (k : ℕ) → (old_fault (calls_of es) r k || early_fault (calls_of es) r k) ≡ true → shown_number r k ≤ event_cap
unfolding old_fault early_fault
proximity_small es h r k t = elim (or_cases (old_fault (calls_of es) r k) (early_fault (calls_of es) r k) t) [
  | inl old ↦
      let c = any_to (λ a. is_update_numbered k (suc (shown_number r k)) a && precedes a r) (calls_of es) old in
      let few = few_updates es h k (suc (shown_number r k)) c.it c.there (and_parts (is_update_numbered k (suc (shown_number r k)) c.it) (precedes c.it r) c.passes).0 in
      omega (arith, few)
  | inr early ↦
      let c = any_to (λ a. is_update_numbered k (shown_number r k) a && precedes r a) (calls_of es) early in
      few_updates es h k (shown_number r k) c.it c.there (and_parts (is_update_numbered k (shown_number r k) c.it) (precedes r c.it) c.passes).0
]

pub proximity_of_view : (es : List Event) → IsBoundedOrdered es → (r : Call) → IsViewOf (calls_of es) r → (t : Tally) → t ≡ tally_of (calls_of es) (r ∷ []) → (first : Option ProximityFault) → first ≡ t.proximity.first →
    ForSome first (λ f. IsViewAt (calls_of es) f.view × (f.number ≤ event_cap))
unfolding tally_of proximity_faults
proximity_of_view es h r v t own first e = λ f is.
    let m = mapped_some (reported_proximity (calls_of es)) (first_of (proximity_faults (calls_of es) (r ∷ []))) f (sym (ap (λ (z : Tally). z.proximity.first) own) ∙ sym e ∙ is) in
    let test : ℕ → Bool = λ k. old_fault (calls_of es) r k || early_fault (calls_of es) r k in
    let from = first_with r (filter test components) m.from m.is in
    let small = proximity_small es h r m.from.1 (In-from_filter test components m.from.1 from.1).1 in
    subst (λ (z : ProximityFault). IsViewAt (calls_of es) z.view × (z.number ≤ event_cap)) m.to
    (same_view es r m.from.0 v from.0, subst (λ q. shown_number q m.from.1 ≤ event_cap) (sym from.0) small)

pub read_of_view : (es : List Event) (r : Call) → IsViewOf (calls_of es) r → (t : Tally) → t ≡ tally_of (calls_of es) (r ∷ []) → (first : Option ReadFault) → first ≡ t.read.first → ForSome first (AreReadAt (calls_of es))
unfolding tally_of read_faults
read_of_view es r v t own first e = λ f is.
    let m = mapped_some reported_read (first_of (read_faults (calls_of es) (r ∷ []))) f (sym (ap (λ (z : Tally). z.read.first) own) ∙ sym e ∙ is) in
    let from = first_with r (filter (read_fault r) (views_of (calls_of es))) m.from m.is in
    let other = from_views (calls_of es) m.from.1 (In-from_filter (read_fault r) (views_of (calls_of es)) m.from.1 from.1).0 in
    subst (AreReadAt (calls_of es)) m.to (same_view es r m.from.0 v from.0, view_at es m.from.1 other)

pub write_of_view : (es : List Event) (r : Call) → IsViewOf (calls_of es) r → (t : Tally) → t ≡ tally_of (calls_of es) (r ∷ []) → (first : Option WriteFault) → first ≡ t.write.first → ForSome first (λ f. IsViewAt (calls_of es) f.view)
unfolding tally_of write_faults
write_of_view es r v t own first e = λ f is.
    let m = mapped_some reported_write (first_of (write_faults (calls_of es) (r ∷ []))) f (sym (ap (λ (z : Tally). z.write.first) own) ∙ sym e ∙ is) in
    let from = first_missed r (λ j. filter (write_fault (calls_of es) r j) (listed r)) components m.from m.is in
    subst (λ (z : WriteFault). IsViewAt (calls_of es) z.view) m.to (same_view es r m.from.0 v from)

-- the first fault of a view names completed views
pub of_view : (es : List Event) → IsBoundedOrdered es → (r : Call) → IsViewOf (calls_of es) r → (t : Tally) → t ≡ tally_of (calls_of es) (r ∷ []) → (kind : Kind) (first : Option Fault) → first ≡ first_in kind t → ForSome first (IsNamed (calls_of es))
of_view es h r v t own Integrity first e = λ f is.
    let m = mapped_some faults.Integrity t.integrity.first f (sym e ∙ is) in
    subst (IsNamed (calls_of es)) m.to (integrity_of_view es r v t own t.integrity.first refl m.from m.is)
of_view es h r v t own Proximity first e = λ f is.
    let m = mapped_some faults.Proximity t.proximity.first f (sym e ∙ is) in
    subst (IsNamed (calls_of es)) m.to (proximity_of_view es h r v t own t.proximity.first refl m.from m.is)
of_view es h r v t own Read first e = λ f is.
    let m = mapped_some faults.Read t.read.first f (sym e ∙ is) in
    subst (IsNamed (calls_of es)) m.to (read_of_view es r v t own t.read.first refl m.from m.is)
of_view es h r v t own Write first e = λ f is.
    let m = mapped_some faults.Write t.write.first f (sym e ∙ is) in
    subst (IsNamed (calls_of es)) m.to (write_of_view es r v t own t.write.first refl m.from m.is)
