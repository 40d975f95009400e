-- The first faults of a tally name completed views.
use Rattle.std.proofs.Common.{◌≡◌, ◌∙◌, ◌≤◌, ℕ, All, List, [], ◌∷◌, Option, refl, sym, ap, subst}
use Rattle.std.specs.Option.{ForSome, option_map}
use Rattle.std.proofs.lemmas.List.Elements.{All-cons, All-nil}
use Rattle.snap_core.specs.declared.event.Event.{Event}
use Rattle.snap_core.specs.Calls.{Call, calls_of, views_of}
use Rattle.snap_core.specs.Bounded.{IsBoundedOrdered}
use Rattle.snap_core.specs.Events.{event_cap}
use Rattle.snap_conditions.specs.declared.fault.IntegrityFault.{IntegrityFault}
use Rattle.snap_conditions.specs.declared.fault.ProximityFault.{ProximityFault}
use Rattle.snap_conditions.specs.declared.fault.ReadFault.{ReadFault}
use Rattle.snap_conditions.specs.declared.fault.Fault.{Fault}
use Rattle.snap_conditions.specs.declared.fault.Fault.TheVariants as faults
use Rattle.snap_conditions.specs.declared.fault.Kind.{Kind}
use Rattle.snap_conditions.specs.declared.fault.Kind.TheVariants.{Integrity, Proximity, Read, Write}
use Rattle.snap_conditions.specs.Kinds.{first_in}
use Rattle.snap_witness.specs.Concerned.{IsNamed, views_concerned}
use Rattle.snap_conditions.specs.declared.fault.WriteFault.{WriteFault}
use Rattle.snap_conditions.specs.declared.tally.Tally.{Tally}
use Rattle.snap_theory.specs.Faults.{first_of, integrity_faults, write_faults}
use Rattle.snap_conditions.specs.Tally.{reported_integrity, reported_write, tally_of}
use Rattle.snap_index.proofs.IndexedCalls.{mapped_some}
use Rattle.snap_witness.specs.Places.{AreReadAt, IsViewAt}
use Rattle.snap_theory.specs.FaultWitnesses.{Integrity as IntegrityOf, Write as WriteOf}
use Rattle.snap_theory.specs.First.{first_integrity, first_write}
use Rattle.snap_theory.proofs.First.{integrity_is, write_is}
use Rattle.snap_witness.proofs.Named.{proximity_named, read_named, view_at}
use Rattle.snap_witness.proofs.Tallied.{integrity_told, proximity_told, read_told, write_told}

pub integrity_is_named : (es : List Event) → IsBoundedOrdered es → (t : Tally) → t ≡ tally_of (calls_of es) (views_of (calls_of es)) → (first : Option IntegrityFault) → first ≡ t.integrity.first → ForSome first (λ f. IsViewAt (calls_of es) f.view)
unfolding first_integrity
integrity_is_named es h t whole first e = λ f is.
    let m = mapped_some reported_integrity (first_of (integrity_faults (calls_of es) (views_of (calls_of es)))) f (sym (integrity_told (calls_of es) t whole) ∙ sym e ∙ is) in
    let there = integrity_is (calls_of es) (IntegrityOf m.from.0 m.from.1) (ap (option_map (λ (f : Call × ℕ). IntegrityOf f.0 f.1)) m.is) in
    subst (λ (z : IntegrityFault). IsViewAt (calls_of es) z.view) m.to (view_at es m.from.0 there.0.0)

pub proximity_is_named : (es : List Event) → IsBoundedOrdered es → (t : Tally) → t ≡ tally_of (calls_of es) (views_of (calls_of es)) → (first : Option ProximityFault) → first ≡ t.proximity.first → ForSome first (λ f. IsViewAt (calls_of es) f.view × (f.number ≤ event_cap))
proximity_is_named es h t whole first e = λ f is.
    let named = proximity_named es h f (sym (proximity_told (calls_of es) t whole) ∙ sym e ∙ is) in
    (named.view, named.small)

pub read_is_named : (es : List Event) → IsBoundedOrdered es → (t : Tally) → t ≡ tally_of (calls_of es) (views_of (calls_of es)) → (first : Option ReadFault) → first ≡ t.read.first → ForSome first (AreReadAt (calls_of es))
read_is_named es h t whole first e = λ f is.
    let named = read_named es h f (sym (read_told (calls_of es) t whole) ∙ sym e ∙ is) in
    (named.view, named.other)

pub write_is_named : (es : List Event) → IsBoundedOrdered es → (t : Tally) → t ≡ tally_of (calls_of es) (views_of (calls_of es)) → (first : Option WriteFault) → first ≡ t.write.first → ForSome first (λ f. IsViewAt (calls_of es) f.view)
unfolding first_write
write_is_named es h t whole first e = λ f is.
    let m = mapped_some reported_write (first_of (write_faults (calls_of es) (views_of (calls_of es)))) f (sym (write_told (calls_of es) t whole) ∙ sym e ∙ is) in
    let there = write_is (calls_of es) (WriteOf m.from.0 m.from.1 m.from.2) (ap (option_map (λ (f : Call × ℕ × ℕ). WriteOf f.0 f.1 f.2)) m.is) in
    subst (λ (z : WriteFault). IsViewAt (calls_of es) z.view) m.to (view_at es m.from.0 there.0)

-- the first fault of each kind names completed views
pub is_named : (es : List Event) → IsBoundedOrdered es → (t : Tally) → t ≡ tally_of (calls_of es) (views_of (calls_of es)) → (kind : Kind) (first : Option Fault) → first ≡ first_in kind t → ForSome first (IsNamed (calls_of es))
is_named es h t whole Integrity first e = λ f is.
    let m = mapped_some faults.Integrity t.integrity.first f (sym e ∙ is) in
    subst (IsNamed (calls_of es)) m.to (integrity_is_named es h t whole t.integrity.first refl m.from m.is)
is_named es h t whole Proximity first e = λ f is.
    let m = mapped_some faults.Proximity t.proximity.first f (sym e ∙ is) in
    subst (IsNamed (calls_of es)) m.to (proximity_is_named es h t whole t.proximity.first refl m.from m.is)
is_named es h t whole Read first e = λ f is.
    let m = mapped_some faults.Read t.read.first f (sym e ∙ is) in
    subst (IsNamed (calls_of es)) m.to (read_is_named es h t whole t.read.first refl m.from m.is)
is_named es h t whole Write first e = λ f is.
    let m = mapped_some faults.Write t.write.first f (sym e ∙ is) in
    subst (IsNamed (calls_of es)) m.to (write_is_named es h t whole t.write.first refl m.from m.is)

-- the views of a fault that names completed views
pub views_are_named : (calls : List Call) (f : Fault) → IsNamed calls f → All (IsViewAt calls) (views_concerned f)
views_are_named calls (faults.Integrity f) n = All-cons (IsViewAt calls) f.view [] n (All-nil (IsViewAt calls))
views_are_named calls (faults.Proximity f) n = All-cons (IsViewAt calls) f.view [] n.0 (All-nil (IsViewAt calls))
views_are_named calls (faults.Read f) n = All-cons (IsViewAt calls) f.view (f.other ∷ []) n.0 (All-cons (IsViewAt calls) f.other [] n.1 (All-nil (IsViewAt calls)))
views_are_named calls (faults.Write f) n = All-cons (IsViewAt calls) f.view [] n (All-nil (IsViewAt calls))
