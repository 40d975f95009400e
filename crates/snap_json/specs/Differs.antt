-- Where the views of a read fault differ, as JSON.
use Rattle.std.specs.Prelude.{ℕ, List, [], ◌∷◌, codes}
use Rattle.json.specs.Json.{Json, Items, array, item, no_items}
use Rattle.snap_core.specs.Calls.{Call, call_numbered, shown_number}
use Rattle.snap_conditions.specs.declared.fault.ReadFault.{ReadFault}
use Rattle.snap_theory.specs.FaultWitnesses.{Read, fault_updates}
use Rattle.snap_json.specs.Calls.{update_json}
use Rattle.snap_json.specs.Values.{number_json, object_of}

-- {"component":K,"view_number":N,"other_number":M,"update":CALL}, for an update of component K: what both views show of K
unfoldable pub difference_json : List ℕ → List Call → ReadFault → ℕ × ℕ → Json
difference_json records calls f u =
    object_of ((codes "component", number_json u.0) ∷ (codes "view_number", number_json (shown_number (call_numbered calls f.view) u.0))
    ∷ (codes "other_number", number_json (shown_number (call_numbered calls f.other) u.0)) ∷ (codes "update", update_json records calls u.0 u.1) ∷ [])

abbrev pub difference_items : List ℕ → List Call → ReadFault → List (ℕ × ℕ) → Items
difference_items records calls f [] = no_items
difference_items records calls f (u ∷ us) = item (difference_json records calls f u) (difference_items records calls f us)

-- an object for each update that shows the fault
abbrev pub differs_json : List ℕ → List Call → ReadFault → Json
differs_json records calls f =
    array (difference_items records calls f (fault_updates (Read (call_numbered calls f.view) (call_numbered calls f.other))))
