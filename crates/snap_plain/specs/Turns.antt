-- What becomes of a history and the lines that it takes in order.
use Rattle.std.specs.Prelude.{◌≡◌, [], ℕ, All, List, length, Result, Ok, Err}
use Rattle.snap_core.specs.declared.limit.Limit.{Limit}
use Rattle.snap_core.specs.declared.event.Event.{Event}
use Rattle.snap_format.specs.declared.refusal.ReadRefusal.{ReadRefusal}
use Rattle.std.proofs.Common.{Bor}
use Rattle.snap_text.specs.Fields.{Fields}
use Rattle.snap_format.specs.Taking.{Midway, RefusesRows}
use Rattle.snap_plain.specs.Ahead.{IsAhead}
use Rattle.snap_plain.specs.declared.beside.Turns.{Turns}
use Rattle.snap_plain.specs.Lines.{HasRows, IsRest}

-- events that were read ahead are taken in order: what is left then, or the first fault
abbrev pub TakesAhead : Limit → (List Fields → Type 0) → (List Fields → Type 0) → List Event → List Event → Result (Unit {0}) ReadRefusal → Type 0
TakesAhead limit Left Rest old new (Ok u) = (rows : List Fields) → Midway limit rows Left old (length old) → Midway limit rows Rest new (length new)
TakesAhead limit Left Rest old new (Err e) = (rows : List Fields) → Midway limit rows Left old (length old) → RefusesRows limit rows e

-- a history has the events of the lines before a rest of them
abbrev pub HasTaken : Limit → List ℕ → List ℕ → List Event → List Fields → Type 0
HasTaken limit lines rest events rows = IsRest rest lines × Midway limit rows (HasRows rest) events (length events)

-- a history takes more of the lines, up to a later rest; or the first fault
abbrev pub TakesOn : Limit → List ℕ → List ℕ → List Event → List Event → Result (Bor (List ℕ)) ReadRefusal → Type 0
TakesOn limit lines rest old new (Ok later) = (rows : List Fields) → HasTaken limit lines rest old rows → HasTaken limit lines later.now new rows
TakesOn limit lines rest old new (Err e) = (rows : List Fields) → HasTaken limit lines rest old rows → RefusesRows limit rows e

-- a new history has taken the first of the lines, and what is waiting was read ahead of them
abbrev pub HasTurns : Limit → List ℕ → Turns → Type 0
HasTurns limit lines turns =
    (turns.history.limit ≡ limit) × All (IsAhead lines) turns.waiting.items × ((rows : List Fields) → HasTaken limit lines lines [] rows → HasTaken limit lines turns.behind.now turns.history.events rows)

-- a new history has taken the first of the lines, or the first fault
abbrev pub TakesTurns : {A : Type 0} → (A → Turns) → Limit → List ℕ → Result A ReadRefusal → Type 0
TakesTurns turns_of limit lines (Ok a) = HasTurns limit lines (turns_of a)
TakesTurns turns_of limit lines (Err e) = (rows : List Fields) → HasTaken limit lines lines [] rows → RefusesRows limit rows e
