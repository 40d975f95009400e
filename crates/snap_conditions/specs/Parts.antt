-- Parts of tallies: of a list of faults, and of two lists, one after the other.
use Rattle.std.specs.Prelude.{Bool, ◌+◌, List, Option, Some, None, length, option_map}
use Rattle.std.specs.Bool.{then_some}
use Rattle.std.specs.Option.{option_or}
use Rattle.snap_conditions.specs.PartValue.{PartValue}
use Rattle.snap_theory.specs.Faults.{first_of}

abbrev pub no_part : {F : Type 0} → PartValue F
no_part = record { count = 0; first = None }

-- the count of the faults and the first of them, as it is reported
abbrev pub part_of : {X F : Type 0} → (X → F) → List X → PartValue F
part_of reported faults = record { count = length faults; first = option_map reported (first_of faults) }

-- counts are added, and the first fault is that of the first part if it has one, else that of the second
abbrev pub merged_part : {F : Type 0} → PartValue F → PartValue F → PartValue F
merged_part p q = record { count = p.count + q.count; first = option_or p.first q.first }

-- one more fault after the others, if one was found
abbrev pub noted : {F : Type 0} → PartValue F → Option F → PartValue F
noted p None = p
noted p (Some fault) = merged_part p (record { count = 1; first = Some fault })

-- what a test finds at an element
abbrev pub found_at : {X F : Type 0} → (X → F) → (X → Bool) → X → Option F
found_at reported test x = then_some (test x) (reported x)
