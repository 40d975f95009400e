-- The fields of an event's record.
use Rattle.std.specs.Prelude.{◌++◌, ℕ, Bool, true, false, List, [], ◌∷◌, map, codes, decimal}
use Rattle.std.specs.List.{join_with_byte}
use Rattle.snap_core.specs.declared.entry.Entry.{Entry}
use Rattle.snap_core.specs.declared.event.Event.{Event}
use Rattle.snap_core.specs.declared.event.Event.TheVariants.{BeginUpdate, BeginView, EndUpdate, EndView}

-- component, number and value, with colons (58) between
abbrev pub entry_text : Entry → List ℕ
entry_text e = join_with_byte 58 (decimal e.component ∷ decimal e.number ∷ decimal e.value ∷ [])

-- entries with one space (32) between two
unfoldable pub entries_text : List Entry → List ℕ
entries_text es = join_with_byte 32 (map entry_text es)

-- a text with one entry more; a space comes before it if it is not the first
abbrev pub with_next : Bool → List ℕ → Entry → List ℕ
with_next true text e = text ++ entry_text e
with_next false text e = text ++ 32 ∷ entry_text e

-- the four fields of an event
abbrev pub spelled : Event → List (List ℕ)
spelled (BeginUpdate p e) = codes "begin" ∷ decimal p ∷ codes "update" ∷ entry_text e ∷ []
spelled (BeginView p) = codes "begin" ∷ decimal p ∷ codes "view" ∷ [] ∷ []
spelled (EndUpdate p) = codes "end" ∷ decimal p ∷ codes "update" ∷ [] ∷ []
spelled (EndView p es) = codes "end" ∷ decimal p ∷ codes "view" ∷ entries_text es ∷ []
