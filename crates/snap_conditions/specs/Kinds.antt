-- The kinds of fault, and what a tally has of each.
use Rattle.std.specs.Prelude.{ℕ, List, [], ◌∷◌, Option, codes, option_map}
use Rattle.std.specs.List.{filter_map}
use Rattle.snap_theory.specs.Faults.{first_of}
use Rattle.snap_conditions.specs.declared.fault.Fault.{Fault}
use Rattle.snap_conditions.specs.declared.fault.Fault.TheVariants as faults
use Rattle.snap_conditions.specs.declared.fault.Kind.{Kind}
use Rattle.snap_conditions.specs.declared.fault.Kind.TheVariants.{Integrity, Proximity, Read, Write}
use Rattle.snap_conditions.specs.declared.tally.Tally.{Tally}

-- in the order of a report
abbrev pub kinds : List Kind
kinds = Integrity ∷ Proximity ∷ Read ∷ Write ∷ []

abbrev pub kind_word : Kind → List ℕ
kind_word Integrity = codes "integrity"
kind_word Proximity = codes "proximity"
kind_word Read = codes "read"
kind_word Write = codes "write"

-- the number of faults of a kind
abbrev pub count_in : Kind → Tally → ℕ
count_in Integrity t = t.integrity.count
count_in Proximity t = t.proximity.count
count_in Read t = t.read.count
count_in Write t = t.write.count

-- the first fault of a kind
abbrev pub first_in : Kind → Tally → Option Fault
first_in Integrity t = option_map faults.Integrity t.integrity.first
first_in Proximity t = option_map faults.Proximity t.proximity.first
first_in Read t = option_map faults.Read t.read.first
first_in Write t = option_map faults.Write t.write.first

-- the first fault of the first kind that has one
abbrev pub first_fault_in : Tally → Option Fault
first_fault_in t = first_of (filter_map (λ kind. first_in kind t) kinds)
