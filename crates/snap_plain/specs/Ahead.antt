-- Pieces of some lines, and what is read of them before it is their turn.
use Rattle.std.specs.Prelude.{◌≡◌, ◌≤◌, ◌+◌, ◌++◌, ◌⊎◌, ℕ, Bool, true, false, List, [], ◌∷◌, drop, length, Some, slice_get, ⊤}
use Rattle.snap_plain.specs.declared.ahead.Ahead.{Ahead}
use Rattle.snap_plain.specs.declared.ahead.Stop.{Stop}
use Rattle.snap_plain.specs.declared.ahead.Stop.TheVariants as stops
use Rattle.snap_plain.specs.declared.pieces.Piece.{Piece}
use Rattle.snap_plain.specs.Lines.{BeginsOtherwise, HasRows, SpellsAll, spells_event}
use Rattle.snap_text.specs.Fields.{Fields}

-- a piece of some lines ends within them, and not before it begins
abbrev pub IsPieceOf : List ℕ → Piece → Type 0
IsPieceOf lines piece = (piece.from ≤ piece.to) × (piece.to ≤ length lines)

-- no line goes on at a place of some lines: it is their end, or just after a newline (10)
abbrev pub IsEndOfLine : List ℕ → ℕ → Type 0
IsEndOfLine lines place = (place ≡ length lines) ⊎ ((at : ℕ) × (place ≡ at + 1) × (slice_get lines at ≡ Some 10))

-- pieces that have the lines from one place to another: each line once, whole, and in order
abbrev pub ArePieces : List ℕ → ℕ → ℕ → List Piece → Type 0
ArePieces lines from to [] = from ≡ to
ArePieces lines from to (piece ∷ pieces) = (piece.from ≡ from) × (piece.from ≤ piece.to) × IsEndOfLine lines piece.to × ArePieces lines piece.to to pieces

-- what was read ahead of some lines: the events of those from one place to before another
abbrev pub IsAhead : List ℕ → Ahead → Type 0
IsAhead lines ahead =
    (ahead.to ≤ length lines) × ((rows : List Fields) → HasRows (drop ahead.from lines) rows → SpellsAll ahead.events.items (HasRows (drop ahead.to lines)) rows)

-- reading stopped for a reason, and the fact of that reason holds. Want of memory has no fact
abbrev pub StopsFor : Type 0 → Type 0 → Type 0 → Stop → Type 0
StopsFor Ends Fills Faulty stops.End = Ends
StopsFor Ends Fills Faulty stops.Full = Fills
StopsFor Ends Fills Faulty stops.Fault = Faulty
StopsFor Ends Fills Faulty stops.Memory = ⊤

-- if the lines from one place on have records, the first of those from another place on spells no event
abbrev pub SpellsNone : List ℕ → ℕ → ℕ → Type 0
SpellsNone lines from to = (rows : List Fields) → HasRows (drop from lines) rows → BeginsOtherwise spells_event (drop to lines)
