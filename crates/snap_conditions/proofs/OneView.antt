-- The parts of the tally of one view.
use Rattle.std.proofs.Common.{◌≡◌, ℕ, ◌*◌, ◌≤◌, Bool, ◌||◌, List, [], ◌∷◌, ◌++◌, take, length, map, refl, ap, ◌∙◌, arith}
use Rattle.std.specs.Prelude.{filter, flat_map}
use Rattle.std.proofs.lemmas.List.{length-take, length-map}
use Rattle.snap_core.specs.Calls.{Call, calls_of, views_of}
use Rattle.snap_core.specs.declared.event.Event.{Event}
use Rattle.snap_core.specs.Bounded.{IsBoundedOrdered}
use Rattle.snap_core.proofs.Lists.{In}
use Rattle.snap_theory.specs.Faults.{integrity_fault, old_fault, early_fault, read_fault, write_fault, components, listed, integrity_faults, proximity_faults, read_faults, write_faults, missed_at}
use Rattle.snap_conditions.specs.Parts.{part_of}
use Rattle.snap_conditions.specs.Tally.{reported_integrity, reported_proximity, reported_read, reported_write}
use Rattle.snap_conditions.proofs.Parts.{part-map, flat_map_short}
use Rattle.snap_views.proofs.Sizes.{filter_short}
use Rattle.snap_conditions.proofs.Ranges.{few_listed}

append_none : {X : Type 0} (xs : List X) → xs ++ [] ≡ xs
append_none [] = refl
append_none (x ∷ xs) = ap (λ z. x ∷ z) (append_none xs)

-- the faults of one view that a test finds
alone : {X F : Type 0} (f : Call × X → F) (r : Call) (p : X → Bool) (xs : List X) → part_of f (map (λ x. (r, x)) (filter p xs) ++ []) ≡ part_of (λ x. f (r, x)) (filter p xs)
alone {X} f r p xs =
    let pair : X → Call × X = λ x. (r, x) in
    ap (part_of f) (append_none (map pair (filter p xs))) ∙ part-map f pair (filter p xs)

pub integrity_alone : (calls : List Call) (r : Call) → part_of reported_integrity (integrity_faults calls (r ∷ [])) ≡ part_of (λ k. reported_integrity (r, k)) (filter (integrity_fault calls r) (listed r))
unfolding integrity_faults
integrity_alone calls r = alone reported_integrity r (integrity_fault calls r) (listed r)

pub proximity_alone : (calls : List Call) (r : Call) →
    part_of (reported_proximity calls) (proximity_faults calls (r ∷ [])) ≡ part_of (λ k. reported_proximity calls (r, k)) (filter (λ k. old_fault calls r k || early_fault calls r k) components)
unfolding proximity_faults
proximity_alone calls r = alone (reported_proximity calls) r (λ k. old_fault calls r k || early_fault calls r k) components

pub read_alone : (calls : List Call) (r : Call) → part_of reported_read (read_faults calls (r ∷ [])) ≡ part_of (λ s. reported_read (r, s)) (filter (read_fault r) (views_of calls))
unfolding read_faults
read_alone calls r = alone reported_read r (read_fault r) (views_of calls)

pub write_alone : (calls : List Call) (r : Call) → part_of reported_write (write_faults calls (r ∷ [])) ≡ part_of reported_write (flat_map (missed_at calls r) components)
unfolding write_faults
write_alone calls r = ap (part_of reported_write) (append_none (flat_map (missed_at calls r) components))

pub missed_part : (calls : List Call) (r : Call) (j : ℕ) → part_of reported_write (missed_at calls r j) ≡ part_of (λ k. reported_write (r, j, k)) (filter (write_fault calls r j) (listed r))
missed_part calls r j = let triple : ℕ → Call × ℕ × ℕ = λ k. (r, j, k) in part-map reported_write triple (filter (write_fault calls r j) (listed r))

-- what a test finds among the first elements is no more than these
pub found_few : {X : Type 0} (p : X → Bool) (xs : List X) (i : ℕ) → length (filter p (take i xs)) ≤ i
found_few p xs i = omega (arith, filter_short p (take i xs), length-take i xs)

-- the write faults found among the first components fit together with those of one more
pub missed_few : (es : List Event) → IsBoundedOrdered es → (r : Call) → In r (views_of (calls_of es)) → (j : ℕ) → length (missed_at (calls_of es) r j) ≤ 256
missed_few es kept r i j =
    omega (arith, length-map {B = Call × ℕ × ℕ} (filter (write_fault (calls_of es) r j) (listed r)) (λ k. (r, j, k)), filter_short (write_fault (calls_of es) r j) (listed r), few_listed es kept r i)

pub all_missed_few : (es : List Event) → IsBoundedOrdered es → (r : Call) → In r (views_of (calls_of es)) → (n : ℕ) → length (flat_map (missed_at (calls_of es) r) (take n components)) ≤ n * 256
all_missed_few es kept r i n =
    let few = flat_map_short (missed_at (calls_of es) r) 256 (take n components) (λ j k. missed_few es kept r i j) in
    omega (arith, few, length-take n components)
