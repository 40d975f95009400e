-- The line of a record is what a csv writer writes: no field wants quotes.
use Rattle.std.proofs.Common.{◌≡◌, ◌<◌, ◌^◌, ◌==◌, inl, inr, ℕ, false, List, [], ◌∷◌, append-nil, refl, arith}
use Rattle.std.specs.Prelude.{codes, decimal}
use Rattle.std.specs.List.{All, list_any}
use Rattle.std.proofs.lemmas.Bool.Decides.{nat_tests}
use Rattle.std.proofs.lemmas.List.Elements.{All-weaker}
use Rattle.std.proofs.lemmas.List.Folds.{list_any_none}
use Rattle.csv.specs.Writing.{default_writer, field_text, fields_text, is_blank, needs_byte, row_text}
use Rattle.snap_core.specs.declared.event.Event.{Event}
use Rattle.snap_core.specs.declared.event.Event.TheVariants.{BeginUpdate, BeginView, EndUpdate, EndView}
use Rattle.snap_core.specs.Events.{EventFits}
use Rattle.snap_format.specs.Layout.{header, history_text, record_text, stamped_header, stamped_lines}
use Rattle.snap_text.specs.Spelling.{entries_text, entry_text, spelled}
use Rattle.snap_text.proofs.ByteFacts.{IsDataByte, IsDigit, data_bytes, data_entry, digits}
use Rattle.snap_text.proofs.BackFacts.{fit_each}

Plain : List ℕ → Type 0
Plain bs = list_any (needs_byte default_writer) bs ≡ false

plain_byte : (b : ℕ) → IsDataByte b → needs_byte default_writer b ≡ false
plain_byte b (inl e) = rw e refl
plain_byte b (inr d) =
    let low = d.0 in
    let comma : (b == 44) ≡ false = grind (arith, nat_tests) in
    let quote : (b == 34) ≡ false = grind (arith, nat_tests) in
    let return : (b == 13) ≡ false = grind (arith, nat_tests) in
    let feed : (b == 10) ≡ false = grind (arith, nat_tests) in
    rw (comma, quote, return, feed) refl

plain_data : (bs : List ℕ) → All IsDataByte bs → Plain bs
unfolding Plain
plain_data bs h = list_any_none (needs_byte default_writer) bs (All-weaker IsDataByte (λ b. needs_byte default_writer b ≡ false) plain_byte bs h)

plain_number : (n : ℕ) → n < 2 ^ 64 → Plain (decimal n)
plain_number n lt = plain_data (decimal n) (All-weaker IsDigit IsDataByte (λ b d. inr (d.0, omega (arith, d.1))) (decimal n) (digits n lt))

bare : (bs : List ℕ) → Plain bs → field_text default_writer bs ≡ bs
unfolding Plain
bare bs h = rw h refl

four_bare : (a b c d : List ℕ) → Plain a → Plain b → Plain c → Plain d → row_text default_writer (a ∷ b ∷ c ∷ d ∷ []) ≡ record_text (a ∷ b ∷ c ∷ d ∷ [])
unfolding fields_text is_blank record_text
four_bare a b c d pa pb pc pd = rw (bare a pa, bare b pb, bare c pc, bare d pd, append-nil d) refl

plain_begin : Plain (codes "begin")
unfolding Plain
plain_begin = refl

plain_end : Plain (codes "end")
unfolding Plain
plain_end = refl

plain_update : Plain (codes "update")
unfolding Plain
plain_update = refl

plain_view : Plain (codes "view")
unfolding Plain
plain_view = refl

plain_empty : Plain []
unfolding Plain
plain_empty = refl

pub line_of : (x : Event) → EventFits x → row_text default_writer (spelled x) ≡ record_text (spelled x)
line_of (BeginUpdate p e) f =
    four_bare (codes "begin") (decimal p) (codes "update") (entry_text e) plain_begin (plain_number p (omega (arith, f.0))) plain_update (plain_data (entry_text e) (data_entry e f.1))
line_of (BeginView p) f = four_bare (codes "begin") (decimal p) (codes "view") [] plain_begin (plain_number p (omega (arith, f))) plain_view plain_empty
line_of (EndUpdate p) f = four_bare (codes "end") (decimal p) (codes "update") [] plain_end (plain_number p (omega (arith, f))) plain_update plain_empty
line_of (EndView p es) f =
    four_bare (codes "end") (decimal p) (codes "view") (entries_text es) plain_end (plain_number p (omega (arith, f.0))) plain_view (plain_data (entries_text es) (data_bytes es (fit_each es f.1.fit)))

pub header_line : row_text default_writer header ≡ history_text []
unfolding fields_text is_blank record_text history_text
header_line = refl

-- ---- records with stamps

five_bare : (a b c d e : List ℕ) → Plain a → Plain b → Plain c → Plain d → Plain e → row_text default_writer (a ∷ b ∷ c ∷ d ∷ e ∷ []) ≡ record_text (a ∷ b ∷ c ∷ d ∷ e ∷ [])
unfolding fields_text is_blank record_text
five_bare a b c d e pa pb pc pd pe = rw (bare a pa, bare b pb, bare c pc, bare d pd, bare e pe, append-nil e) refl

pub stamped_line_of : (n : ℕ) (x : Event) → n < 2 ^ 64 → EventFits x → row_text default_writer (decimal n ∷ spelled x) ≡ record_text (decimal n ∷ spelled x)
stamped_line_of n (BeginUpdate p e) lt f =
    five_bare (decimal n) (codes "begin") (decimal p) (codes "update") (entry_text e) (plain_number n lt) plain_begin (plain_number p (omega (arith, f.0))) plain_update (plain_data (entry_text e) (data_entry e f.1))
stamped_line_of n (BeginView p) lt f = five_bare (decimal n) (codes "begin") (decimal p) (codes "view") [] (plain_number n lt) plain_begin (plain_number p (omega (arith, f))) plain_view plain_empty
stamped_line_of n (EndUpdate p) lt f = five_bare (decimal n) (codes "end") (decimal p) (codes "update") [] (plain_number n lt) plain_end (plain_number p (omega (arith, f))) plain_update plain_empty
stamped_line_of n (EndView p es) lt f =
    five_bare (decimal n) (codes "end") (decimal p) (codes "view") (entries_text es) (plain_number n lt) plain_end (plain_number p (omega (arith, f.0))) plain_view (plain_data (entries_text es) (data_bytes es (fit_each es f.1.fit)))

pub stamped_header_line : row_text default_writer stamped_header ≡ stamped_lines []
unfolding fields_text is_blank record_text stamped_lines
stamped_header_line = refl
