-- The first fault of a kind as JSON: the number of such faults, what the first names, and its calls.
use Rattle.std.specs.Prelude.{ℕ, List, [], ◌∷◌, codes, map}
use Rattle.std.specs.Option.{option_map_or}
use Rattle.json.specs.Json.{Json, null, string}
use Rattle.snap_core.specs.Calls.{Call, call_numbered}
use Rattle.snap_conditions.specs.Kinds.{count_in, first_in, kind_word, kinds}
use Rattle.snap_conditions.specs.declared.fault.Fault.{Fault}
use Rattle.snap_conditions.specs.declared.fault.Fault.TheVariants.{Integrity, Proximity, Read, Write}
use Rattle.snap_conditions.specs.declared.fault.IntegrityFault.{IntegrityFault}
use Rattle.snap_conditions.specs.declared.fault.Kind.{Kind}
use Rattle.snap_conditions.specs.declared.fault.ProximityFault.{ProximityFault}
use Rattle.snap_conditions.specs.declared.fault.ReadFault.{ReadFault}
use Rattle.snap_conditions.specs.declared.fault.WriteFault.{WriteFault}
use Rattle.snap_conditions.specs.declared.tally.Tally.{Tally}
use Rattle.snap_report.specs.Faults.{side_word}
use Rattle.snap_witness.specs.Places.{side_number}
use Rattle.snap_json.specs.Calls.{call_json, entry_json, update_json}
use Rattle.snap_json.specs.Differs.{differs_json}
use Rattle.snap_json.specs.Values.{Field, number_json, object_of}

abbrev pub numbered_json : List ℕ → List Call → ℕ → Json
numbered_json records calls n = call_json records (call_numbered calls n)

-- {"component":K,"number":N,"update":CALL}
abbrev pub named_json : List ℕ → List Call → ℕ → ℕ → Json
named_json records calls k n =
    object_of ((codes "component", number_json k) ∷ (codes "number", number_json n) ∷ (codes "update", update_json records calls k n) ∷ [])

-- {"count":X,"view":CALL,..}
abbrev pub object_json : List ℕ → List Call → ℕ → ℕ → List Field → Json
object_json records calls count view named = object_of ((codes "count", number_json count) ∷ (codes "view", numbered_json records calls view) ∷ named)

-- a view shows an entry that no update wrote; the update is the one of that number, if there is one
unfoldable pub integrity_json : List ℕ → List Call → ℕ → IntegrityFault → Json
integrity_json records calls count f =
    object_json records calls count f.view
    ((codes "entry", entry_json f.entry) ∷ (codes "update", update_json records calls f.entry.component f.entry.number) ∷ [])

-- A view shows an update that is too old or too new. The update is the one that it misses, or the one that it shows.
unfoldable pub proximity_json : List ℕ → List Call → ℕ → ProximityFault → Json
proximity_json records calls count f =
    object_json records calls count f.view
    ((codes "component", number_json f.component) ∷ (codes "number", number_json f.number) ∷ (codes "side", string (side_word f.side))
    ∷ (codes "update", update_json records calls f.component (side_number f.side f.number)) ∷ [])

-- two views disagree: the view shows more of the component than the other one
unfoldable pub read_json : List ℕ → List Call → ℕ → ReadFault → Json
read_json records calls count f =
    object_json records calls count f.view
    ((codes "other", numbered_json records calls f.other) ∷ (codes "component", number_json f.component) ∷ (codes "differs", differs_json records calls f) ∷ [])

-- a view shows an update and misses one that preceded it
unfoldable pub write_json : List ℕ → List Call → ℕ → WriteFault → Json
write_json records calls count f =
    object_json records calls count f.view
    ((codes "misses", named_json records calls f.missed_component f.missed_number) ∷ (codes "shows", named_json records calls f.shown_component f.shown_number) ∷ [])

abbrev pub fault_json : List ℕ → List Call → ℕ → Fault → Json
fault_json records calls count (Integrity f) = integrity_json records calls count f
fault_json records calls count (Proximity f) = proximity_json records calls count f
fault_json records calls count (Read f) = read_json records calls count f
fault_json records calls count (Write f) = write_json records calls count f

-- the first fault of a kind, and null if there is none
abbrev pub first_json : List ℕ → List Call → Tally → Kind → Json
first_json records calls t kind = option_map_or (fault_json records calls (count_in kind t)) (first_in kind t) null

-- the first fault of each kind, by the word of its kind
abbrev pub fault_fields : List ℕ → List Call → Tally → List Field
fault_fields records calls t = map (λ kind. (kind_word kind, first_json records calls t kind)) kinds
