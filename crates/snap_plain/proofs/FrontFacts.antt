-- The front of a plain text: a byte order mark, empty lines and the header.
use Rattle.std.proofs.Common.{cond, drop, ◌≡◌, ◌<◌, ◌≤◌, ◌==◌, ◌+◌, ℕ, zero, suc, Bool, true, false, List, [], ◌∷◌, length, get_or, All, refl, sym, ap, ◌∙◌, subst, arith}
use Rattle.snap_core.specs.declared.limit.Limit.{Limit}
use Rattle.std.specs.Prelude.{◌≢◌, ◌&&◌}
use Rattle.std.proofs.lemmas.Bool.Decides.{nat_tests}
use Rattle.std.proofs.lemmas.List.Elements.{All-tail}
use Rattle.csv.specs.Machine.{next_record}
use Rattle.csv.specs.Reading.{default_config, is_bom, records_from, strip_bom}
use Rattle.csv.specs.declared.parser.State.TheVariants as st
use Rattle.snap_plain.specs.Lines.{BeginsOtherwise, BeginsWith, EndsWith, EndsWithOthers, HasRows, IsPlain, spells_event}
use Rattle.snap_format.specs.Layout.{is_header_row, is_stamped_header_row}
use Rattle.snap_text.specs.Fields.{Fields, row_event}
use Rattle.snap_format.specs.Rows.{rows_of}
use Rattle.snap_text.specs.declared.fault.TextFault.TheVariants as faults
use Rattle.snap_format.specs.Texts.{RowsFault}
use Rattle.snap_format.proofs.ReadFacts.{no_header, no_rows}
use Rattle.snap_format.proofs.RecordSteps.{records_stop}
use Rattle.snap_plain.proofs.PlainFacts.{row_of_fields, row_of_others}

-- ---- lines

pub no_line : (rows : List Fields) → HasRows [] rows → rows ≡ []
unfolding next_record
no_line rows h = sym h.gives ∙ records_stop h.fuel st.StartRecord [] refl

empty_line : (n : ℕ) (text : List ℕ) → 0 < n → records_from default_config n st.StartRecord (10 ∷ text) ≡ records_from default_config n st.StartRecord text
unfolding next_record records_from
empty_line zero text some = absurd (omega arith)
empty_line (suc n) text some = refl

pub behind_newline : (text : List ℕ) (rows : List Fields) → 0 < length text → get_or text 0 0 ≡ 10 → HasRows text rows → HasRows (drop 1 text) rows
behind_newline [] rows some line h = absurd (omega arith)
behind_newline (c ∷ text) rows some line h = record {
  plain = All-tail IsPlain c text h.plain;
  fuel = h.fuel;
  enough = omega (arith, h.enough);
  gives = sym (empty_line h.fuel text (omega (arith, h.enough))) ∙ ap (λ (b : ℕ). records_from default_config h.fuel st.StartRecord (b ∷ text)) (sym line) ∙ h.gives;
}

pub behind_blanks : (n : ℕ) (text : List ℕ) (rows : List Fields) → n ≤ length text → ((k : ℕ) → k < n → get_or text k 0 ≡ 10) → HasRows text rows → HasRows (drop n text) rows
behind_blanks zero text rows le blank h = h
behind_blanks (suc n) [] rows le blank h = absurd (omega arith)
behind_blanks (suc n) (c ∷ text) rows le blank h = behind_blanks n text rows (omega (arith, le)) (λ k lt. blank (suc k) (omega (arith, lt))) (behind_newline (c ∷ text) rows (omega arith) (blank zero (omega arith)) h)

-- a plain text has its records after a byte order mark

plain_stripped : (text : List ℕ) → All IsPlain text → All IsPlain (strip_bom text)
unfolding strip_bom
plain_stripped [] plain = plain
plain_stripped (a ∷ []) plain = plain
plain_stripped (a ∷ b ∷ []) plain = plain
plain_stripped (a ∷ b ∷ c ∷ text) plain = go (is_bom a b c)
  where
    go : (m : Bool) → All IsPlain (cond m text (a ∷ b ∷ c ∷ text))
    go true = All-tail IsPlain c text (All-tail IsPlain b (c ∷ text) (All-tail IsPlain a (b ∷ c ∷ text) plain))
    go false = plain

pub stripped_rows : (text : List ℕ) → All IsPlain text → HasRows (strip_bom text) (rows_of text)
stripped_rows text plain = record { plain = plain_stripped text plain; fuel = length (strip_bom text) + 1; enough = omega arith; gives = refl }

pub marked : (text rest : List ℕ) → text ≡ 239 ∷ 187 ∷ 191 ∷ rest → rest ≡ strip_bom text
unfolding strip_bom
marked text rest is = rw is refl

pub unmarked : (text : List ℕ) → ((rest : List ℕ) → text ≡ 239 ∷ 187 ∷ 191 ∷ rest → ⊥) → text ≡ strip_bom text
unfolding strip_bom
unmarked [] other = refl
unmarked (a ∷ []) other = refl
unmarked (a ∷ b ∷ []) other = refl
unmarked (a ∷ b ∷ c ∷ text) other = go (a == 239) (b == 187) (c == 191) refl refl refl
  where
    go : (x y z : Bool) → (a == 239) ≡ x → (b == 187) ≡ y → (c == 191) ≡ z → a ∷ b ∷ c ∷ text ≡ cond (x && y && z) text (a ∷ b ∷ c ∷ text)
    go true true true e f g =
        let i : a ≡ 239 = grind (arith, nat_tests, e) in
        let j : b ≡ 187 = grind (arith, nat_tests, f) in
        let k : c ≡ 191 = grind (arith, nat_tests, g) in
        absurd (other text (rw (i, j, k) refl))
    go true true false e f g = refl
    go true false z e f g = refl
    go false y z e f g = refl

-- ---- the header

pub begins_with : (test : Fields → Bool) (text rest : List ℕ) (fs : Fields) → (0 < length text → get_or text 0 0 ≢ 10) → EndsWith fs rest text → test fs ≡ true → BeginsWith test rest text
begins_with test text rest fs line ends passes rows h =
    let some : 0 < length text = omega (arith, (ends h.plain).shorter) in
    let (later, is, left) = row_of_fields text rest fs rows some (line some) ends h in
    (fs, later, is, passes, left)

pub begins_otherwise : (test : Fields → Bool) (text rest : List ℕ) (fs : Fields) → (0 < length text → get_or text 0 0 ≢ 10) → EndsWith fs rest text → test fs ≡ false → BeginsOtherwise test text
begins_otherwise test text rest fs line ends fails rows h first later is =
    let some : 0 < length text = omega (arith, (ends h.plain).shorter) in
    let (others, same, left) = row_of_fields text rest fs rows some (line some) ends h in
    let head : fs ≡ first = cc in
    subst (λ (r : Fields). test r ≡ false) head fails

pub begins_with_others : (test : Fields → Bool) (count : ℕ) (text : List ℕ) → ((r : Fields) → length r ≢ count → test r ≡ false) → (0 < length text → get_or text 0 0 ≢ 10) → EndsWithOthers count text → BeginsOtherwise test text
begins_with_others test count [] short line ends rows h first later is = let none = no_line rows h in absurd cc
begins_with_others test count (c ∷ text) short line ends rows h first later is =
    let (row, others, same, other) = row_of_others (c ∷ text) count rows (omega arith) (line (omega arith)) ends h in
    let head : row ≡ first = cc in
    subst (λ (r : Fields). test r ≡ false) head (short row other)

-- a text without lines
pub begins_with_none : (test : Fields → Bool) (text : List ℕ) → text ≡ [] → BeginsOtherwise test text
begins_with_none test text none rows h first later is = let nothing = no_line rows (subst (λ t. HasRows t rows) none h) in absurd cc

pub empty_text : (text : List ℕ) → length text ≡ 0 → text ≡ []
empty_text [] h = refl
empty_text (x ∷ xs) h = absurd (omega (arith, h))

-- a record of more fields than four, or of fewer, spells no event
pub short_spells_none : (r : Fields) → length r ≢ 4 → spells_event r ≡ false
unfolding row_event
short_spells_none [] h = refl
short_spells_none (a ∷ []) h = refl
short_spells_none (a ∷ p ∷ []) h = refl
short_spells_none (a ∷ p ∷ o ∷ []) h = refl
short_spells_none (a ∷ p ∷ o ∷ d ∷ []) h = absurd (h refl)
short_spells_none (a ∷ p ∷ o ∷ d ∷ e ∷ r) h = refl

-- empty lines at its front tell nothing
pub begins_otherwise_behind : (test : Fields → Bool) (text line : List ℕ) → ((rows : List Fields) → HasRows text rows → HasRows line rows) → BeginsOtherwise test line → BeginsOtherwise test text
begins_otherwise_behind test text line same other rows h = other rows (same rows h)

pub no_header_of : (r : Fields) → length r ≢ 4 → is_header_row r ≡ false
no_header_of [] other = refl
no_header_of (a ∷ []) other = refl
no_header_of (a ∷ b ∷ []) other = refl
no_header_of (a ∷ b ∷ c ∷ []) other = refl
no_header_of (a ∷ b ∷ c ∷ d ∷ []) other = absurd (other (omega arith))
no_header_of (a ∷ b ∷ c ∷ d ∷ e ∷ r) other = refl

pub no_stamped_header_of : (r : Fields) → length r ≢ 5 → is_stamped_header_row r ≡ false
no_stamped_header_of [] other = refl
no_stamped_header_of (a ∷ []) other = refl
no_stamped_header_of (a ∷ b ∷ []) other = refl
no_stamped_header_of (a ∷ b ∷ c ∷ []) other = refl
no_stamped_header_of (a ∷ b ∷ c ∷ d ∷ []) other = refl
no_stamped_header_of (a ∷ b ∷ c ∷ d ∷ e ∷ []) other = absurd (other (omega arith))
no_stamped_header_of (a ∷ b ∷ c ∷ d ∷ e ∷ f ∷ r) other = refl

pub no_header_there : (limit : Limit) (line : List ℕ) (rows : List Fields) → HasRows line rows → BeginsOtherwise is_header_row line → BeginsOtherwise is_stamped_header_row line → RowsFault limit rows 1 faults.Header
no_header_there limit line [] h a b = no_rows limit [] refl
no_header_there limit line (head ∷ later) h a b = no_header limit (head ∷ later) head later refl (a (head ∷ later) h head later refl) (b (head ∷ later) h head later refl)
