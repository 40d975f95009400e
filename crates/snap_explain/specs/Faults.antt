-- What is said of a fault: a sentence, and the lines of the calls that it concerns.
use Rattle.std.specs.Prelude.{ℕ, suc, List, [], ◌++◌, codes, decimal, if◌then◌else◌, unwrap_or}
use Rattle.std.specs.List.{flat_map}
use Rattle.std.specs.Option.{option_map_or}
use Rattle.snap_core.specs.Calls.{Call, call_numbered, precedes, shown_number}
use Rattle.snap_conditions.specs.Kinds.{first_in, kinds}
use Rattle.snap_conditions.specs.declared.fault.Fault.{Fault}
use Rattle.snap_conditions.specs.declared.fault.Fault.TheVariants.{Integrity, Proximity, Read, Write}
use Rattle.snap_conditions.specs.declared.fault.IntegrityFault.{IntegrityFault}
use Rattle.snap_conditions.specs.declared.fault.Kind.{Kind}
use Rattle.snap_conditions.specs.declared.fault.ProximityFault.{ProximityFault}
use Rattle.snap_conditions.specs.declared.fault.ReadFault.{ReadFault}
use Rattle.snap_conditions.specs.declared.fault.WriteFault.{WriteFault}
use Rattle.snap_conditions.specs.declared.fault.Side.{Side}
use Rattle.snap_conditions.specs.declared.fault.Side.TheVariants.{Old, Early}
use Rattle.snap_conditions.specs.declared.tally.Tally.{Tally}
use Rattle.snap_theory.specs.Faults.{least_exceeding}
use Rattle.snap_theory.specs.Updates.{update_of}
use Rattle.snap_report.specs.Lines.{call_word, entry_word, update_word}
use Rattle.snap_witness.specs.Concerned.{updates_concerned, views_concerned}
use Rattle.snap_explain.specs.declared.view.Entries.{Entries}
use Rattle.snap_explain.specs.Calls.{call_text}
use Rattle.snap_explain.specs.Views.{numbers_text, views_text}

-- the line of update n of component k, if there is one
abbrev pub update_text : List ℕ → List Call → ℕ → ℕ → List ℕ
update_text records calls k n = option_map_or (call_text records) (update_of calls k n) []

-- the lines of some updates, each given by its component and its number
abbrev pub updates_text : List ℕ → List Call → List (ℕ × ℕ) → List ℕ
updates_text records calls updates = flat_map (λ u. update_text records calls u.0 u.1) updates

-- the lines of the views of these numbers, and of the updates that show their fault
unfoldable pub concerned_text : Entries → List ℕ → List Call → List ℕ → List (ℕ × ℕ) → List ℕ
concerned_text listed records calls views updates = views_text listed records calls updates views ++ updates_text records calls updates

-- a view shows an entry that no update wrote
abbrev pub integrity_sentence : IntegrityFault → List ℕ
integrity_sentence f = codes "integrity: view " ++ call_word f.view ++ codes " shows " ++ entry_word f.entry ++ codes ", which no update wrote\n"

abbrev pub side_text : ℕ → ℕ → Side → List ℕ
side_text k n Old = codes ", though update " ++ update_word k (suc n) ++ codes " had ended before the view began\n"
side_text k n Early = codes ", though that update began after the view had ended\n"

-- a view shows an update that is too old or too new
abbrev pub proximity_sentence : ProximityFault → List ℕ
proximity_sentence f =
    codes "proximity: view " ++ call_word f.view ++ codes " shows " ++ update_word f.component f.number ++ side_text f.component f.number f.side

-- why a view that shows more of some component than another should show no less of any
abbrev pub against_text : Call → Call → List ℕ
against_text r s =
    if precedes r s then codes ", and had ended before that view began\n"
    else codes ", and less of component " ++ decimal (unwrap_or (least_exceeding s r) 0) ++ codes "\n"

-- two views disagree
abbrev pub read_sentence : List Call → ReadFault → List ℕ
read_sentence calls f =
    codes "read: view " ++ call_word f.view ++ codes " shows more of component " ++ decimal f.component ++ codes " than view " ++ call_word f.other
    ++ against_text (call_numbered calls f.view) (call_numbered calls f.other)

-- view A shows K:N and J:M
abbrev pub view_numbers : List Call → List (ℕ × ℕ) → ℕ → List ℕ
view_numbers calls updates view = codes "view " ++ call_word view ++ numbers_text (shown_number (call_numbered calls view)) updates

-- what both views show of the components of some updates
abbrev pub compared_text : List Call → List (ℕ × ℕ) → ReadFault → List ℕ
compared_text calls updates f = codes "  " ++ view_numbers calls updates f.view ++ codes "; " ++ view_numbers calls updates f.other ++ codes "\n"

-- two views disagree, and what each shows where they differ
abbrev pub read_text : List Call → List (ℕ × ℕ) → ReadFault → List ℕ
read_text calls updates f = read_sentence calls f ++ compared_text calls updates f

-- a view shows an update and misses one that preceded it
abbrev pub write_sentence : WriteFault → List ℕ
write_sentence f =
    codes "write: view " ++ call_word f.view ++ codes " shows update " ++ update_word f.shown_component f.shown_number
    ++ codes ", and misses update " ++ update_word f.missed_component f.missed_number ++ codes ", which had ended before that one began\n"

-- the sentence of a fault that these updates show
abbrev pub sentence_text : List Call → List (ℕ × ℕ) → Fault → List ℕ
sentence_text calls updates (Integrity f) = integrity_sentence f
sentence_text calls updates (Proximity f) = proximity_sentence f
sentence_text calls updates (Read f) = read_text calls updates f
sentence_text calls updates (Write f) = write_sentence f

-- the sentence of a fault, and the lines of the calls that it concerns
unfoldable pub fault_text : Entries → List ℕ → List Call → Fault → List ℕ
fault_text listed records calls f =
    sentence_text calls (updates_concerned calls f) f ++ concerned_text listed records calls (views_concerned f) (updates_concerned calls f)

-- the first fault of a kind, if there is one
abbrev pub kind_text : Entries → List ℕ → List Call → Tally → Kind → List ℕ
kind_text listed records calls t kind = option_map_or (fault_text listed records calls) (first_in kind t) []

-- the first fault of each kind
abbrev pub faults_text : Entries → List ℕ → List Call → Tally → List ℕ
faults_text listed records calls t = flat_map (kind_text listed records calls t) kinds
