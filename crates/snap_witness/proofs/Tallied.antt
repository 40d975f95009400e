-- The first faults of a tally of all completed views.
use Rattle.std.proofs.Common.{◌≡◌, ℕ, List, Option, Some, None, refl, sym, ap, ◌∙◌}
use Rattle.std.specs.Option.{option_map, option_or}
use Rattle.snap_core.specs.Calls.{Call, views_of}
use Rattle.snap_theory.specs.Faults.{integrity_faults, proximity_faults, read_faults, write_faults, first_of}
use Rattle.snap_conditions.specs.Tally.{tally_of, reported_integrity, reported_proximity, reported_read, reported_write}
use Rattle.snap_conditions.specs.declared.tally.Tally.{Tally}
use Rattle.snap_theory.specs.FaultWitnesses.{Fault, Integrity, Read, Write}
use Rattle.snap_theory.specs.First.{proximity_of, first_integrity, first_proximity, first_read, first_write}

-- a kind has no first fault, however it is told
untold : {X Y Z : Type 0} (f : X → Y) (g : X → Z) (o : Option X) → option_map f o ≡ None → option_map g o ≡ None
untold f g None e = refl
untold f g (Some x) e = absurd (cc e)

pub integrity_told : (calls : List Call) (t : Tally) → t ≡ tally_of calls (views_of calls) → t.integrity.first ≡ option_map reported_integrity (first_of (integrity_faults calls (views_of calls)))
unfolding tally_of
integrity_told calls t e = ap (λ (z : Tally). z.integrity.first) e

pub proximity_told : (calls : List Call) (t : Tally) → t ≡ tally_of calls (views_of calls) → t.proximity.first ≡ option_map (reported_proximity calls) (first_of (proximity_faults calls (views_of calls)))
unfolding tally_of
proximity_told calls t e = ap (λ (z : Tally). z.proximity.first) e

pub read_told : (calls : List Call) (t : Tally) → t ≡ tally_of calls (views_of calls) → t.read.first ≡ option_map reported_read (first_of (read_faults calls (views_of calls)))
unfolding tally_of
read_told calls t e = ap (λ (z : Tally). z.read.first) e

pub write_told : (calls : List Call) (t : Tally) → t ≡ tally_of calls (views_of calls) → t.write.first ≡ option_map reported_write (first_of (write_faults calls (views_of calls)))
unfolding tally_of
write_told calls t e = ap (λ (z : Tally). z.write.first) e

pub no_integrity : (calls : List Call) (t : Tally) → t ≡ tally_of calls (views_of calls) → t.integrity.first ≡ None → first_integrity calls ≡ None
unfolding first_integrity
no_integrity calls t e n = untold reported_integrity (λ (f : Call × ℕ). Integrity f.0 f.1) (first_of (integrity_faults calls (views_of calls))) (sym (integrity_told calls t e) ∙ n)

pub no_proximity : (calls : List Call) (t : Tally) → t ≡ tally_of calls (views_of calls) → t.proximity.first ≡ None → first_proximity calls ≡ None
unfolding first_proximity
no_proximity calls t e n = untold (reported_proximity calls) (proximity_of calls) (first_of (proximity_faults calls (views_of calls))) (sym (proximity_told calls t e) ∙ n)

pub no_read : (calls : List Call) (t : Tally) → t ≡ tally_of calls (views_of calls) → t.read.first ≡ None → first_read calls ≡ None
unfolding first_read
no_read calls t e n = untold reported_read (λ (f : Call × Call). Read f.0 f.1) (first_of (read_faults calls (views_of calls))) (sym (read_told calls t e) ∙ n)

pub no_write : (calls : List Call) (t : Tally) → t ≡ tally_of calls (views_of calls) → t.write.first ≡ None → first_write calls ≡ None
unfolding first_write
no_write calls t e n = untold reported_write (λ (f : Call × ℕ × ℕ). Write f.0 f.1 f.2) (first_of (write_faults calls (views_of calls))) (sym (write_told calls t e) ∙ n)

-- what comes first

pub behind : (o p : Option Fault) → o ≡ None → option_or o p ≡ p
behind o p e = ap (λ z. option_or z p) e
