-- Lines that are read before it is their turn.
use Rattle.std.proofs.Common.{◌≡◌, ◌≤◌, ◌+◌, ◌-◌, ◌++◌, ℕ, true, List, [], ◌∷◌, drop, length, take, Ok, Err, refl, sym, ap, subst, arith, ◌∙◌}
use Rattle.snap_core.specs.declared.limit.Limit.{Limit}
use Rattle.std.proofs.lemmas.List.{length-append, take-append-drop}
use Rattle.std.proofs.Math.Seq.{drop-append_seam}
use Rattle.snap_core.specs.declared.event.Event.{Event}
use Rattle.snap_text.specs.Fields.{Fields, row_event}
use Rattle.snap_format.specs.declared.refusal.ReadRefusal.{ReadRefusal}
use Rattle.snap_format.specs.Layout.{is_header_row}
use Rattle.snap_format.specs.Taking.{Midway, RefusesRows, TakesRow}
use Rattle.snap_plain.specs.declared.pieces.Piece.{Piece}
use Rattle.snap_plain.specs.declared.ahead.Stop.{Stop}
use Rattle.snap_plain.specs.declared.ahead.Stop.TheVariants as stops
use Rattle.snap_plain.specs.Ahead.{ArePieces, IsEndOfLine, SpellsNone, StopsFor}
use Rattle.snap_plain.specs.Lines.{BeginsLine, BeginsLines, BeginsOtherwise, HasRows, IsRest, SpellsAll, SpellsFirst, spells_event}
use Rattle.snap_plain.specs.Turns.{HasTaken}
use Rattle.snap_plain.proofs.PlainFacts.{rest_of_rest}
use Rattle.snap_format.proofs.ReadFacts.{begun, more, stopped}

pub whole : (text : List ℕ) → IsRest text text
whole text = ([], refl)

pub behind : (n : ℕ) (text : List ℕ) → IsRest (drop n text) text
behind n text = (take n text, sym (take-append-drop n text))

-- a rest of a text stands where as much of it is left
pub rest_is_drop : (rest text : List ℕ) → IsRest rest text → rest ≡ drop (length text - length rest) text
rest_is_drop rest text (front, e) =
    let at : length text - length rest ≡ length front = omega (arith, ap length e, length-append front rest) in
    rw at (sym (ap (drop (length front)) e ∙ drop-append_seam front rest))

pub rest_shorter : (rest text : List ℕ) → IsRest rest text → length rest ≤ length text
rest_shorter rest text (front, e) = omega (arith, ap length e, length-append front rest)

-- a piece more
pub piece_more : (lines : List ℕ) (from at to : ℕ) (pieces : List Piece) → ArePieces lines from at pieces → at ≤ to → IsEndOfLine lines to → ArePieces lines from to (pieces ++ record { from = at; to = to } ∷ [])
piece_more lines from at to [] same le ends = (sym same, le, ends, refl)
piece_more lines from at to (piece ∷ pieces) (begins, order, last, rest) le ends = (begins, order, last, piece_more lines piece.to at to pieces rest le ends)

-- ---- one line more

spells_more : (xs : List Event) (x : Event) (Left Rest : List Fields → Type 0) (rows : List Fields) → ((later : List Fields) → Left later → SpellsFirst x Rest later) → SpellsAll xs Left rows → SpellsAll (xs ++ x ∷ []) Rest rows
spells_more [] x Left Rest rows first h = first rows h
spells_more (y ∷ xs) x Left Rest rows first (row, later, is, spells, h) = (row, later, is, spells, spells_more xs x Left Rest later first h)

pub no_lines : (text : List ℕ) (xs : List Event) → xs ≡ [] → BeginsLines xs text text
no_lines text xs e = rw e (λ rows h. (whole text, h))

spells_rest : (xs : List Event) (Left : List Fields → Type 0) (rows : List Fields) → SpellsAll xs Left rows → (later : List Fields) × Left later
spells_rest [] Left rows h = (rows, h)
spells_rest (x ∷ xs) Left rows (row, later, is, spells, h) = spells_rest xs Left later h

pub one_line_more : (xs : List Event) (x : Event) (rest left text : List ℕ) → BeginsLines xs left text → BeginsLine x rest left → BeginsLines (xs ++ x ∷ []) rest text
one_line_more xs x rest left text before first = λ rows h.
    let (behind, spells) = before rows h in
    let (later, has) = spells_rest xs (HasRows left) rows spells in (
      rest_of_rest rest left text (first later has).0 behind,
      spells_more xs x (HasRows left) (HasRows rest) rows (λ more lines. (first more lines).1) spells,
    )

spells_as : (xs : List Event) (Left Rest : List Fields → Type 0) (rows : List Fields) → ((later : List Fields) → Left later → Rest later) → SpellsAll xs Left rows → SpellsAll xs Rest rows
spells_as [] Left Rest rows same h = same rows h
spells_as (x ∷ xs) Left Rest rows same (row, later, is, spells, h) = (row, later, is, spells, spells_as xs Left Rest later same h)

-- a rest without some empty lines at its front
pub lines_as : (xs : List Event) (rest left text : List ℕ) → BeginsLines xs left text → ((rows : List Fields) → HasRows left rows → HasRows rest rows) → IsRest rest left → BeginsLines xs rest text
lines_as xs rest left text before same is = λ rows h.
    let (behind, spells) = before rows h in
    (rest_of_rest rest left text is behind, spells_as xs (HasRows left) (HasRows rest) rows same spells)

-- what is left of the lines from a place on stands where as much of them is left
left_is_drop : (lines text left : List ℕ) (from : ℕ) (xs : List Event) (rows : List Fields) → text ≡ drop from lines → BeginsLines xs left text → HasRows (drop from lines) rows → left ≡ drop (length lines - length left) lines
left_is_drop lines text left from xs rows is begins h =
    let (rest, spells) = begins rows (subst (λ t. HasRows t rows) (sym is) h) in
    rest_is_drop left lines (rest_of_rest left text lines rest (subst (λ t. IsRest t lines) (sym is) (behind from lines)))

-- what was read of the lines from a place on was read ahead
pub read_ahead : (lines text left : List ℕ) (from : ℕ) (xs : List Event) → text ≡ drop from lines → BeginsLines xs left text → (rows : List Fields) → HasRows (drop from lines) rows → SpellsAll xs (HasRows (drop (length lines - length left) lines)) rows
read_ahead lines text left from xs is begins rows h =
    let (rest, spells) = begins rows (subst (λ t. HasRows t rows) (sym is) h) in
    subst (λ t. SpellsAll xs (HasRows t) rows) (left_is_drop lines text left from xs rows is begins h) spells

-- why the reading of them stopped tells why that of a piece did
pub stops_as : {A B C D E F : Type 0} → (A → D) → (B → E) → (C → F) → (s : Stop) → StopsFor A B C s → StopsFor D E F s
stops_as ends fills faulty stops.End h = ends h
stops_as ends fills faulty stops.Full h = fills h
stops_as ends fills faulty stops.Fault h = faulty h
stops_as ends fills faulty stops.Memory h = h

pub spells_none : (lines text left : List ℕ) (from : ℕ) (xs : List Event) → text ≡ drop from lines → BeginsLines xs left text → BeginsOtherwise spells_event left → SpellsNone lines from (length lines - length left)
spells_none lines text left from xs is begins other rows h = subst (BeginsOtherwise spells_event) (left_is_drop lines text left from xs rows is begins h) other

-- ---- in their turn

-- what is left is known in another way
pub left_as : (limit : Limit) (rows : List Fields) (A B : List Fields → Type 0) (events : List Event) (i : ℕ) (m : Midway limit rows A events i) → B (drop i m.later) → Midway limit rows B events i
left_as limit rows A B events i m left = record {
  head = m.head;
  later = m.later;
  whole = m.whole;
  header = m.header;
  left = left;
  within = m.within;
  fine = m.fine;
  history = m.history;
  count = m.count;
  room = m.room;
}

pub one_taken : (limit : Limit) (rows : List Fields) (left xs : List Event) (x : Event) (Rest : List Fields → Type 0) (old new : List Event) → left ≡ x ∷ xs → Midway limit rows (SpellsAll left Rest) old (length old)
    → ((r : Fields) → row_event r ≡ Ok x → TakesRow limit (length old + 2) old new r (Ok tt)) → Midway limit rows (SpellsAll xs Rest) new (length new)
one_taken limit rows left xs x Rest old new is midway takes =
    let m = subst (λ es. Midway limit rows (SpellsAll es Rest) old (length old)) is midway in
    let (row, later, here, spells, next) = m.left in
    let after = more limit rows (SpellsAll (x ∷ xs) Rest) (SpellsAll xs Rest) old new (length old) m row (later, here, next) (takes row spells) in
    subst (λ n. Midway limit rows (SpellsAll xs Rest) new n) (sym after.count) after

pub one_refused : (limit : Limit) (rows : List Fields) (left xs : List Event) (x : Event) (Rest : List Fields → Type 0) (old new : List Event) (e : ReadRefusal) → left ≡ x ∷ xs → Midway limit rows (SpellsAll left Rest) old (length old)
    → ((r : Fields) → row_event r ≡ Ok x → TakesRow limit (length old + 2) old new r (Err e)) → RefusesRows limit rows e
one_refused limit rows left xs x Rest old new e is midway takes =
    let m = subst (λ es. Midway limit rows (SpellsAll es Rest) old (length old)) is midway in
    let (row, later, here, spells, next) = m.left in
    stopped limit rows (SpellsAll (x ∷ xs) Rest) old (length old) m row later e here (takes row spells)

-- what was read ahead from where the lines that were taken end
pub ahead_begins : (limit : Limit) (rows : List Fields) (lines rest : List ℕ) (from to : ℕ) (xs old : List Event) → ((later : List Fields) → HasRows (drop from lines) later → SpellsAll xs (HasRows (drop to lines)) later)
    → from ≡ length lines - length rest → HasTaken limit lines rest old rows → Midway limit rows (SpellsAll xs (HasRows (drop to lines))) old (length old)
ahead_begins limit rows lines rest from to xs old spells at (is, m) =
    let same : rest ≡ drop from lines = rw at (rest_is_drop rest lines is) in
    left_as limit rows (HasRows rest) (SpellsAll xs (HasRows (drop to lines))) old (length old) m (spells (drop (length old) m.later) (subst (λ t. HasRows t (drop (length old) m.later)) same m.left))

-- a history without events has taken no line
pub none_taken : (limit : Limit) (head : Fields) (later : List Fields) (lines : List ℕ) (events : List Event) → is_header_row head ≡ true → HasRows lines later → events ≡ [] → HasTaken limit lines lines events (head ∷ later)
none_taken limit head later lines events heads h none = (
  whole lines,
  subst (λ n. Midway limit (head ∷ later) (HasRows lines) events n) (sym (ap length none)) (begun limit (head ∷ later) (HasRows lines) head events (later, refl, h) heads none),
)
