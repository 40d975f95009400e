-- The lines of a history that is not atomic: one for each kind of fault that it has. It has the number of these faults and the
-- first of them.
use Rattle.std.specs.Prelude.{ℕ, List, [], ◌∷◌, codes, decimal, flat_map}
use Rattle.std.specs.Option.{option_map_or}
use Rattle.snap_conditions.specs.Kinds.{count_in, first_in, kind_word, kinds}
use Rattle.snap_conditions.specs.declared.fault.Fault.{Fault}
use Rattle.snap_conditions.specs.declared.fault.Fault.TheVariants as faults
use Rattle.snap_conditions.specs.declared.fault.Kind.{Kind}
use Rattle.snap_conditions.specs.declared.fault.Kind.TheVariants.{Integrity, Proximity, Read, Write}
use Rattle.snap_conditions.specs.declared.fault.IntegrityFault.{IntegrityFault}
use Rattle.snap_conditions.specs.declared.fault.ProximityFault.{ProximityFault}
use Rattle.snap_conditions.specs.declared.fault.ReadFault.{ReadFault}
use Rattle.snap_conditions.specs.declared.fault.WriteFault.{WriteFault}
use Rattle.snap_conditions.specs.declared.fault.Side.{Side}
use Rattle.snap_conditions.specs.declared.fault.Side.TheVariants.{Old, Early}
use Rattle.snap_conditions.specs.declared.tally.Tally.{Tally}
use Rattle.snap_report.specs.Lines.{Word, Line, call_word, entry_word, update_word}

-- KIND X first view A ..
abbrev pub line_of_kind : Kind → ℕ → ℕ → Line → Line
line_of_kind kind count view words = kind_word kind ∷ decimal count ∷ codes "first" ∷ codes "view" ∷ call_word view ∷ words

-- integrity X first view A entry K:N:V
abbrev pub integrity_line : ℕ → IntegrityFault → Line
integrity_line count f = line_of_kind Integrity count f.view (codes "entry" ∷ entry_word f.entry ∷ [])

abbrev pub side_word : Side → Word
side_word Old = codes "old"
side_word Early = codes "early"

-- proximity X first view A entry K:N old, or early
abbrev pub proximity_line : ℕ → ProximityFault → Line
proximity_line count f = line_of_kind Proximity count f.view (codes "entry" ∷ update_word f.component f.number ∷ side_word f.side ∷ [])

-- read X first view A view B component K
abbrev pub read_line : ℕ → ReadFault → Line
read_line count f = line_of_kind Read count f.view (codes "view" ∷ call_word f.other ∷ codes "component" ∷ decimal f.component ∷ [])

-- write X first view A misses J:N shows K:M
abbrev pub write_line : ℕ → WriteFault → Line
write_line count f =
    line_of_kind Write count f.view
    (codes "misses" ∷ update_word f.missed_component f.missed_number ∷ codes "shows" ∷ update_word f.shown_component f.shown_number ∷ [])

abbrev pub fault_line : ℕ → Fault → Line
fault_line count (faults.Integrity f) = integrity_line count f
fault_line count (faults.Proximity f) = proximity_line count f
fault_line count (faults.Read f) = read_line count f
fault_line count (faults.Write f) = write_line count f

-- the line of one kind, if it has faults
abbrev pub kind_lines : Tally → Kind → List Line
kind_lines t kind = option_map_or (λ f. fault_line (count_in kind t) f ∷ []) (first_in kind t) []

abbrev pub fault_lines : Tally → List Line
fault_lines t = flat_map (kind_lines t) kinds
