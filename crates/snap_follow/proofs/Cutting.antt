-- Bytes have one cut into lines, and a line has one record at most.
use Rattle.std.proofs.Common.{◌==◌, ◌≡◌, ◌≢◌, ◌≤◌, ◌⊎◌, ◌++◌, ◌∙◌, ◌||◌, if◌then◌else◌, ℕ, suc, Bool, true, false, List, [], ◌∷◌, Option, Some, None, length, length-append, add-one, append_assoc, append-nil, flat_map, map, ap, subst, sym, refl, inl, inr, arith}
use Rattle.std.specs.Prelude.{All}
use Rattle.std.proofs.lemmas.Bool.{false≢true}
use Rattle.std.proofs.lemmas.List.Elements.{All-head, All-tail}
use Rattle.csv.specs.Machine.{Read, ends_at_end, field_after, fields_after, is_end, next_record, step}
use Rattle.csv.specs.Reading.{default_config, is_bom, records_from, strip_bom}
use Rattle.csv.specs.declared.parser.Action.{Action}
use Rattle.csv.specs.declared.parser.Action.TheVariants as act
use Rattle.csv.specs.declared.parser.State.{State}
use Rattle.csv.specs.declared.parser.State.TheVariants as st
use Rattle.snap_format.proofs.RecordSteps.{records_step, records_stop}
use Rattle.snap_format.specs.Rows.{rows_of}
use Rattle.snap_text.specs.Fields.{Fields}
use Rattle.snap_follow.specs.Bytes.{AreAllLines, AreLinesOf, Ended, EndsLine, HasNoEnd}
use Rattle.snap_follow.specs.Recordings.{IsShort}

abbrev pub first : {A : Type 0} → A → List A → A
first d [] = d
first d (x ∷ xs) = x

abbrev pub others : {A : Type 0} → List A → List A
others [] = []
others (x ∷ xs) = xs

pub both : {A : Type 0} (x y : A) (xs ys : List A) → x ≡ y → xs ≡ ys → x ∷ xs ≡ y ∷ ys
both x y xs ys one rest = ap (λ z. z ∷ xs) one ∙ ap (λ z. y ∷ z) rest

-- a byte that ends no line
abbrev Within : ℕ → Type 0
Within b = ¬ EndsLine b

-- the same bytes begin with the same line
same_line : (l m : List ℕ) (e f : ℕ) (a b : List ℕ) → HasNoEnd l → HasNoEnd m → EndsLine e → EndsLine f → l ++ e ∷ a ≡ m ++ f ∷ b → (l ≡ m) × (a ≡ b)
same_line [] [] e f a b no_l no_m e_ends f_ends is = (refl, ap others is)
same_line [] (d ∷ m) e f a b no_l no_m e_ends f_ends is = absurd (All-head Within d m no_m (subst EndsLine (ap (first 0) is) e_ends))
same_line (c ∷ l) [] e f a b no_l no_m e_ends f_ends is = absurd (All-head Within c l no_l (subst EndsLine (sym (ap (first 0) is)) f_ends))
same_line (c ∷ l) (d ∷ m) e f a b no_l no_m e_ends f_ends is =
    let rest = same_line l m e f a b (All-tail Within c l no_l) (All-tail Within d m no_m) e_ends f_ends (ap others is) in
    (both c d l m (ap (first 0) is) rest.0, rest.1)

-- an end stands in no bytes without one
no_end_in : (l a : List ℕ) (e : ℕ) → EndsLine e → HasNoEnd (l ++ e ∷ a) → ⊥
no_end_in [] a e ends unended = All-head Within e a unended ends
no_end_in (c ∷ l) a e ends unended = no_end_in l a e ends (All-tail Within c (l ++ e ∷ a) unended)

no_longer : (l m a b : List ℕ) (f : ℕ) → HasNoEnd l → EndsLine f → l ++ a ≡ m ++ f ∷ b → length l ≤ length m
no_longer [] m a b f unended ends is = omega arith
no_longer (c ∷ l) [] a b f unended ends is = absurd (All-head Within c l unended (subst EndsLine (sym (ap (first 0) is)) ends))
no_longer (c ∷ l) (d ∷ m) a b f unended ends is = let rest = no_longer l m a b f (All-tail Within c l unended) ends (ap others is) in omega (arith, rest)

abbrev spell : List Ended → List ℕ
spell each = flat_map (λ l. l.line ++ l.end ∷ []) each

abbrev lines_in : List Ended → List (List ℕ)
lines_in each = map (λ l. l.line) each

one_then : (o : Ended) (os : List Ended) (y : List ℕ) → spell (o ∷ os) ++ y ≡ o.line ++ o.end ∷ (spell os ++ y)
one_then o os y = append_assoc (o.line ++ o.end ∷ []) (spell os) y ∙ append_assoc o.line (o.end ∷ []) (spell os ++ y)

-- after the same lines stand the same bytes
behind_lines : (each : List Ended) (y : List ℕ) (other : List Ended) (rest : List ℕ) → HasNoEnd rest → spell each ++ y ≡ spell other ++ rest →
    (more : List Ended) × (lines_in other ≡ lines_in each ++ lines_in more) × (y ≡ spell more ++ rest)
behind_lines [] y other rest unended is = (other, refl, is)
behind_lines (o ∷ os) y [] rest unended is = absurd (no_end_in o.line (spell os ++ y) o.end o.ends (subst HasNoEnd (sym is ∙ one_then o os y) unended))
behind_lines (o ∷ os) y (p ∷ ps) rest unended is =
    let same = same_line o.line p.line o.end p.end (spell os ++ y) (spell ps ++ rest) o.within p.within o.ends p.ends (sym (one_then o os y) ∙ is ∙ one_then p ps rest) in
    let more = behind_lines os y ps rest unended same.1 in
    (more.0, both p.line o.line (lines_in ps) (lines_in os ++ lines_in more.0) (sym same.0) more.1, more.2)

-- the lines of a text, after those of a front of it
pub cut_behind : (text front z rest last : List ℕ) (lines all : List (List ℕ)) → text ≡ front ++ z → AreLinesOf front lines rest → AreLinesOf text all last →
    (more : List (List ℕ)) × (all ≡ lines ++ more) × AreLinesOf (rest ++ z) more last
cut_behind text front z rest last lines all parts cut whole =
    let is = sym (append_assoc (spell cut.each) rest z) ∙ ap (λ y. y ++ z) (sym cut.spelled) ∙ sym parts ∙ whole.spelled in
    let more = behind_lines cut.each (rest ++ z) whole.each last whole.unended is in
    (lines_in more.0, whole.lines_are ∙ more.1 ∙ ap (λ y. y ++ lines_in more.0) (sym cut.lines_are), record { each = more.0; lines_are = refl; spelled = more.2; unended = whole.unended })

-- the first line, if the bytes begin with one that has an end
first_of : (line z last : List ℕ) (e : ℕ) (each : List Ended) → HasNoEnd line → EndsLine e → HasNoEnd last → line ++ e ∷ z ≡ spell each ++ last → (more : List (List ℕ)) × (lines_in each ≡ line ∷ more)
first_of line z last e [] within ends unended is = absurd (no_end_in line z e ends (subst HasNoEnd (sym is) unended))
first_of line z last e (o ∷ os) within ends unended is =
    (lines_in os, both o.line line (lines_in os) (lines_in os) (sym (same_line line o.line e o.end z (spell os ++ last) within o.within ends o.ends (is ∙ one_then o os last)).0) refl)

pub first_line : (line z last : List ℕ) (e : ℕ) (all : List (List ℕ)) → HasNoEnd line → EndsLine e → AreLinesOf (line ++ e ∷ z) all last → (more : List (List ℕ)) × (all ≡ line ∷ more)
first_line line z last e all within ends cut =
    let it = first_of line z last e cut.each within ends cut.unended cut.spelled in (it.0, cut.lines_are ∙ it.1)

-- bytes without an end are no longer than the line that they begin
front_long : (line z : List ℕ) → length line ≤ length (line ++ z)
front_long line z = omega (arith, length-append line z)

short_in : (line z last : List ℕ) (each : List Ended) → HasNoEnd line → All IsShort (lines_in each) → IsShort last → line ++ z ≡ spell each ++ last → IsShort line
short_in line z last [] within short short_last is = omega (arith, front_long line z, ap length is, short_last)
short_in line z last (o ∷ os) within short short_last is =
    omega (arith, no_longer line o.line z (spell os ++ last) o.end within o.ends (is ∙ one_then o os last), All-head IsShort o.line (lines_in os) short)

pub begin_short : (line z last : List ℕ) (all : List (List ℕ)) → HasNoEnd line → AreLinesOf (line ++ z) all last → All IsShort all → IsShort last → IsShort line
begin_short line z last all within cut short short_last = short_in line z last cut.each within (subst (All IsShort) cut.lines_are short) short_last cut.spelled

-- one text has one cut
no_more_lines : (r s : List ℕ) (more : List Ended) → HasNoEnd r → r ≡ spell more ++ s → (lines_in more ≡ []) × (r ≡ s)
no_more_lines r s [] unended is = (refl, is)
no_more_lines r s (o ∷ os) unended is = absurd (no_end_in o.line (spell os ++ s) o.end o.ends (subst HasNoEnd (is ∙ one_then o os s) unended))

pub one_cut : (text r s : List ℕ) (l m : List (List ℕ)) → AreLinesOf text l r → AreLinesOf text m s → (l ≡ m) × (r ≡ s)
one_cut text r s l m first_cut second =
    let behind = behind_lines first_cut.each r second.each s second.unended (sym first_cut.spelled ∙ second.spelled) in
    let none = no_more_lines r s behind.0 first_cut.unended behind.2 in
    (first_cut.lines_are ∙ sym (append-nil (lines_in first_cut.each)) ∙ ap (λ z. lines_in first_cut.each ++ z) (sym none.0) ∙ sym behind.1 ∙ sym second.lines_are, none.1)

pub one_whole : (text : List ℕ) (l m : List (List ℕ)) → AreAllLines text l → AreAllLines text m → l ≡ m
one_whole text l m one two = go one.all two.all
  where
    same : (one.ended ≡ two.ended) × (one.rest ≡ two.rest)
    same = one_cut text one.rest two.rest one.ended two.ended one.cut two.cut

    go : ((one.rest ≡ []) × (l ≡ one.ended)) ⊎ ((one.rest ≢ []) × (l ≡ one.ended ++ one.rest ∷ [])) → ((two.rest ≡ []) × (m ≡ two.ended)) ⊎ ((two.rest ≢ []) × (m ≡ two.ended ++ two.rest ∷ [])) → l ≡ m
    go (inl p) (inl q) = p.1 ∙ same.0 ∙ sym q.1
    go (inl p) (inr q) = absurd (q.0 (sym same.1 ∙ p.0))
    go (inr p) (inl q) = absurd (p.0 (same.1 ∙ q.0))
    go (inr p) (inr q) = p.1 ∙ ap (λ z. z ++ one.rest ∷ []) same.0 ∙ ap (λ z. two.ended ++ z ∷ []) same.1 ∙ sym q.1

-- a line has one record at most

abbrev choice : Bool → State × Action → State × Action → State × Action
choice b x y = if b then x else y

neither : (a b : Bool) → ((a || b) ≡ true → ⊥) → (b || a) ≡ false
neither true b unended = absurd (unended refl)
neither false true unended = absurd (unended refl)
neither false false unended = refl

in_a_field : (comma end : Bool) (z : State) → end ≡ false → is_end (choice comma (st.StartField, act.EndField) (choice end (z, act.EndRecord) (st.InField, act.Copy))).1 ≡ false
in_a_field true end z unended = refl
in_a_field false true z unended = absurd (false≢true (sym unended))
in_a_field false false z unended = refl

at_a_field : (quote comma end : Bool) (z : State) → end ≡ false → is_end (choice quote (st.InQuoted, act.Skip) (choice comma (st.StartField, act.EndField) (choice end (z, act.EndRecord) (st.InField, act.Copy)))).1 ≡ false
at_a_field true comma end z unended = refl
at_a_field false comma end z unended = in_a_field comma end z unended

at_a_record : (quote comma end : Bool) (z : State) → end ≡ false → is_end (choice end (st.StartRecord, act.Skip) (choice quote (st.InQuoted, act.Skip) (choice comma (st.StartField, act.EndField) (choice end (z, act.EndRecord) (st.InField, act.Copy))))).1 ≡ false
at_a_record quote comma true z unended = absurd (false≢true (sym unended))
at_a_record quote comma false z unended = at_a_field quote comma false z refl

in_quotes : (quote : Bool) → is_end (choice quote (st.AfterQuote, act.Skip) (st.InQuoted, act.Copy)).1 ≡ false
in_quotes true = refl
in_quotes false = refl

after_a_quote : (quote comma end : Bool) (z : State) → end ≡ false → is_end (choice quote (st.InQuoted, act.Copy) (choice comma (st.StartField, act.EndField) (choice end (z, act.EndRecord) (st.InField, act.Copy)))).1 ≡ false
after_a_quote true comma end z unended = refl
after_a_quote false comma end z unended = in_a_field comma end z unended

in_a_comment : (feed : Bool) → is_end (choice feed (st.StartRecord, act.Skip) (st.InComment, act.Skip)).1 ≡ false
in_a_comment true = refl
in_a_comment false = refl

after_cr : (feed quote comma end : Bool) (z : State) → end ≡ false →
    is_end (choice feed (st.StartRecord, act.Skip) (choice end (st.StartRecord, act.Skip) (choice quote (st.InQuoted, act.Skip) (choice comma (st.StartField, act.EndField) (choice end (z, act.EndRecord) (st.InField, act.Copy)))))).1 ≡ false
after_cr true quote comma end z unended = refl
after_cr false quote comma end z unended = at_a_record quote comma end z unended

byte_within : (s : State) (c : ℕ) → (EndsLine c → ⊥) → is_end (step default_config s c).1 ≡ false
byte_within st.StartRecord c unended = at_a_record (c == 34) (c == 44) (c == 13 || c == 10) _ (neither (c == 10) (c == 13) unended)
byte_within st.StartField c unended = at_a_field (c == 34) (c == 44) (c == 13 || c == 10) _ (neither (c == 10) (c == 13) unended)
byte_within st.InField c unended = in_a_field (c == 44) (c == 13 || c == 10) _ (neither (c == 10) (c == 13) unended)
byte_within st.InQuoted c unended = in_quotes (c == 34)
byte_within st.InEscape c unended = refl
byte_within st.AfterQuote c unended = after_a_quote (c == 34) (c == 44) (c == 13 || c == 10) _ (neither (c == 10) (c == 13) unended)
byte_within st.InComment c unended = in_a_comment (c == 10)
byte_within st.AfterCr c unended = after_cr (c == 10) (c == 34) (c == 44) (c == 13 || c == 10) _ (neither (c == 10) (c == 13) unended)

-- a read of a line comes to its end
abbrev IsWholeRead : Option Read → Type 0
IsWholeRead read = (read ≡ None) ⊎ ((row : Fields) × (read ≡ Some (row, st.StartRecord, [])))

at_the_end : (ends : Bool) (row : Fields) → IsWholeRead (if ends then Some (row, st.StartRecord, []) else None)
at_the_end true row = inr (row, refl)
at_the_end false row = inl refl

read_whole : (line : List ℕ) (s : State) (fields : Fields) (field : List ℕ) → HasNoEnd line → IsWholeRead (next_record default_config s fields field line)
unfolding next_record
read_whole [] s fields field unended = at_the_end (ends_at_end s) (fields ++ field ∷ [])
read_whole (c ∷ line) s fields field unended =
    let within = byte_within s c (All-head Within c line unended) in
    let next = step default_config s c in
    rw within (read_whole line next.0 (fields_after next.1 fields field) (field_after next.1 c field) (All-tail Within c line unended))

abbrev HasOneRow : List Fields → Type 0
HasOneRow rows = (rows ≡ []) ⊎ ((row : Fields) × (rows ≡ row ∷ []))

nothing_read : next_record default_config st.StartRecord [] [] [] ≡ None
unfolding next_record
nothing_read = refl

rows_by : (n : ℕ) (line : List ℕ) → IsWholeRead (next_record default_config st.StartRecord [] [] line) → HasOneRow (records_from default_config (suc n) st.StartRecord line)
rows_by n line (inl none) = inl (records_stop (suc n) st.StartRecord line none)
rows_by n line (inr (row, is)) = inr (row, records_step n st.StartRecord line (row, st.StartRecord, []) is ∙ ap (λ z. row ∷ z) (records_stop n st.StartRecord [] nothing_read))

stripped : (line : List ℕ) → HasNoEnd line → HasNoEnd (strip_bom line)
unfolding strip_bom
stripped [] unended = unended
stripped (a ∷ []) unended = unended
stripped (a ∷ b ∷ []) unended = unended
stripped (a ∷ b ∷ c ∷ rest) unended = go (is_bom a b c) unended
  where
    go : (mark : Bool) → HasNoEnd (a ∷ b ∷ c ∷ rest) → HasNoEnd (if mark then rest else a ∷ b ∷ c ∷ rest)
    go true whole = All-tail Within c rest (All-tail Within b (c ∷ rest) (All-tail Within a (b ∷ c ∷ rest) whole))
    go false whole = whole

pub row_of_line : (line : List ℕ) → HasNoEnd line → (rows_of line ≡ []) ⊎ ((row : Fields) × (rows_of line ≡ row ∷ []))
row_of_line line unended = rw add-one (rows_by (length (strip_bom line)) (strip_bom line) (read_whole (strip_bom line) st.StartRecord [] [] (stripped line unended)))
