-- The first fault of a tally concerns the calls of the first fault of the history.
use Rattle.std.proofs.Common.{◌≡◌, ◌∙◌, List, [], Option, Some, None, refl, sym, ap, subst}
use Rattle.std.specs.List.{cons_option}
use Rattle.std.specs.Option.{option_map, option_or}
use Rattle.snap_core.specs.declared.event.Event.{Event}
use Rattle.snap_core.specs.Calls.{calls_of, views_of}
use Rattle.snap_core.specs.Bounded.{IsBoundedOrdered}
use Rattle.snap_conditions.specs.declared.fault.Fault.{Fault}
use Rattle.snap_conditions.specs.declared.fault.Fault.TheVariants as faults
use Rattle.snap_conditions.specs.declared.fault.IntegrityFault.{IntegrityFault}
use Rattle.snap_conditions.specs.declared.fault.ProximityFault.{ProximityFault}
use Rattle.snap_conditions.specs.declared.fault.ReadFault.{ReadFault}
use Rattle.snap_conditions.specs.declared.fault.WriteFault.{WriteFault}
use Rattle.snap_conditions.specs.declared.fault.Kind.TheVariants as kinds
use Rattle.snap_conditions.specs.declared.tally.Tally.{Tally}
use Rattle.snap_conditions.specs.Kinds.{first_fault_in, first_in}
use Rattle.snap_conditions.specs.Tally.{tally_of}
use Rattle.snap_theory.specs.Faults.{first_of}
use Rattle.snap_theory.specs.First.{first_fault, first_integrity, first_proximity, first_read, first_write}
use Rattle.snap_witness.specs.Concerned.{IsNamed, updates_concerned, views_concerned}
use Rattle.snap_witness.specs.inside.Names.{Names}
use Rattle.snap_witness.proofs.Named.{integrity_named, proximity_named, read_named, write_named, names_before, names_behind}
use Rattle.snap_witness.proofs.Reported.{is_named}
use Rattle.snap_witness.proofs.Tallied.{behind, integrity_told, proximity_told, read_told, write_told, no_integrity, no_proximity, no_read, no_write}

-- a fault names completed views, and concerns the calls of the first fault
pub record IsConcerned (es : List Event) (f : Fault) : Type 0 where
  pub named : IsNamed (calls_of es) f
  pub names : Names es (first_fault (calls_of es)) (views_concerned f) (updates_concerned (calls_of es) f)

-- the first of some faults
abbrev pub first_of_four : Option IntegrityFault → Option ProximityFault → Option ReadFault → Option WriteFault → Option Fault
first_of_four i p r w =
    first_of (cons_option (option_map faults.Integrity i) (cons_option (option_map faults.Proximity p) (cons_option (option_map faults.Read r) (cons_option (option_map faults.Write w) []))))

pub first_is_concerned : (es : List Event) → IsBoundedOrdered es → (t : Tally) → t ≡ tally_of (calls_of es) (views_of (calls_of es)) → (f : Fault) → first_fault_in t ≡ Some f → IsConcerned es f
first_is_concerned es h t whole f e = go t.integrity.first t.proximity.first t.read.first t.write.first refl refl refl refl e
  where
    go : (i : Option IntegrityFault) (p : Option ProximityFault) (r : Option ReadFault) (w : Option WriteFault) →
        t.integrity.first ≡ i → t.proximity.first ≡ p → t.read.first ≡ r → t.write.first ≡ w → first_of_four i p r w ≡ Some f → IsConcerned es f
    go (Some i) p r w ei ep er ew e =
        let calls = calls_of es in
        let same : faults.Integrity i ≡ f = cc in
        subst (IsConcerned es) same (record {
          named = is_named es h t whole kinds.Integrity (first_in kinds.Integrity t) refl (faults.Integrity i) (ap (option_map faults.Integrity) ei);
          names = names_before es (first_integrity calls) (option_or (first_proximity calls) (option_or (first_read calls) (first_write calls))) _ _ (integrity_named es h i (sym (integrity_told calls t whole) ∙ ei));
        })
    go None (Some p) r w ei ep er ew e =
        let calls = calls_of es in
        let same : faults.Proximity p ≡ f = cc in
        let none = no_integrity calls t whole ei in
        subst (IsConcerned es) same (record {
          named = is_named es h t whole kinds.Proximity (first_in kinds.Proximity t) refl (faults.Proximity p) (ap (option_map faults.Proximity) ep);
          names = names_behind es (first_integrity calls) (option_or (first_proximity calls) (option_or (first_read calls) (first_write calls))) _ _ none
              (names_before es (first_proximity calls) (option_or (first_read calls) (first_write calls)) _ _ (proximity_named es h p (sym (proximity_told calls t whole) ∙ ep)).named);
        })
    go None None (Some r) w ei ep er ew e =
        let calls = calls_of es in
        let same : faults.Read r ≡ f = cc in
        let none = no_integrity calls t whole ei in
        let none_too = no_proximity calls t whole ep in
        subst (IsConcerned es) same (record {
          named = is_named es h t whole kinds.Read (first_in kinds.Read t) refl (faults.Read r) (ap (option_map faults.Read) er);
          names = names_behind es (first_integrity calls) (option_or (first_proximity calls) (option_or (first_read calls) (first_write calls))) _ _ none
              (names_behind es (first_proximity calls) (option_or (first_read calls) (first_write calls)) _ _ none_too
              (names_before es (first_read calls) (first_write calls) _ _ (read_named es h r (sym (read_told calls t whole) ∙ er)).named));
        })
    go None None None (Some w) ei ep er ew e =
        let calls = calls_of es in
        let same : faults.Write w ≡ f = cc in
        let none = no_integrity calls t whole ei in
        let none_too = no_proximity calls t whole ep in
        let none_three = no_read calls t whole er in
        subst (IsConcerned es) same (record {
          named = is_named es h t whole kinds.Write (first_in kinds.Write t) refl (faults.Write w) (ap (option_map faults.Write) ew);
          names = names_behind es (first_integrity calls) (option_or (first_proximity calls) (option_or (first_read calls) (first_write calls))) _ _ none
              (names_behind es (first_proximity calls) (option_or (first_read calls) (first_write calls)) _ _ none_too
              (names_behind es (first_read calls) (first_write calls) _ _ none_three (write_named es h w (sym (write_told calls t whole) ∙ ew))));
        })
    go None None None None ei ep er ew e = absurd (cc e)

-- a tally without a first fault is of a history without one
pub none_concerned : (es : List Event) (t : Tally) → t ≡ tally_of (calls_of es) (views_of (calls_of es)) → first_fault_in t ≡ None → first_fault (calls_of es) ≡ None
none_concerned es t whole e = go t.integrity.first t.proximity.first t.read.first t.write.first refl refl refl refl e
  where
    go : (i : Option IntegrityFault) (p : Option ProximityFault) (r : Option ReadFault) (w : Option WriteFault) →
        t.integrity.first ≡ i → t.proximity.first ≡ p → t.read.first ≡ r → t.write.first ≡ w → first_of_four i p r w ≡ None → first_fault (calls_of es) ≡ None
    go (Some i) p r w ei ep er ew e = absurd (cc e)
    go None (Some p) r w ei ep er ew e = absurd (cc e)
    go None None (Some r) w ei ep er ew e = absurd (cc e)
    go None None None (Some w) ei ep er ew e = absurd (cc e)
    go None None None None ei ep er ew e =
        let calls = calls_of es in
        behind (first_integrity calls) (option_or (first_proximity calls) (option_or (first_read calls) (first_write calls))) (no_integrity calls t whole ei)
        ∙ behind (first_proximity calls) (option_or (first_read calls) (first_write calls)) (no_proximity calls t whole ep)
        ∙ behind (first_read calls) (first_write calls) (no_read calls t whole er) ∙ no_write calls t whole ew
