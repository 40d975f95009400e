-- A text in XML stays inside its tags, and is read back.
use Rattle.std.proofs.Common.{◌≡◌, ◌==◌, ◌++◌, ◌∙◌, ℕ, Bool, true, false, List, [], ◌∷◌, None, ap, arith, codes, refl, sym}
use Rattle.std.specs.Prelude.{All, IsTrue, if◌then◌else◌, nat_le}
use Rattle.std.specs.Char.{is_ascii_control}
use Rattle.std.specs.List.{AllByRecursion}
use Rattle.std.proofs.lemmas.Bool.Decides.{nat_tests}
use Rattle.std.proofs.lemmas.List.Elements.{All-append, All-from_recursion, All-nil}
use Rattle.snap_explain.specs.Xml.{ReadsBack, StaysInside, character, characters_from, ends_noncharacter, is_inner, read_from, replacement, xml_byte, xml_from}

abbrev Inner : List ℕ → Type 0
Inner text = All (λ b. IsTrue (is_inner b)) text

inner : (text : List ℕ) → AllByRecursion (λ b. IsTrue (is_inner b)) text → Inner text
inner text each = All-from_recursion (λ b. IsTrue (is_inner b)) text each

-- ---- one test after the other

-- a byte by what is known of it: whether it is & < > ", a line feed or a control byte, and whether it ends a character that XML can't have
abbrev byte_by : Bool → Bool → Bool → Bool → Bool → Bool → Bool → ℕ → List ℕ
byte_by amp lt gt quot feed control ends b =
    if amp then codes "&amp;" else if lt then codes "&lt;" else if gt then codes "&gt;" else if quot then codes "&quot;"
    else if feed then b ∷ [] else if control then replacement else if ends then 189 ∷ [] else b ∷ []

inner_by : (amp lt gt quot feed control ends : Bool) (b : ℕ) → (b == 60) ≡ lt → (b == 62) ≡ gt → (b == 34) ≡ quot → (b == 10) ≡ feed → is_ascii_control b ≡ control
    → Inner (byte_by amp lt gt quot feed control ends b)
inner_by true lt gt quot feed control ends b l g q f c = inner (codes "&amp;") (refl, (refl, (refl, (refl, (refl, tt)))))
inner_by false true gt quot feed control ends b l g q f c = inner (codes "&lt;") (refl, (refl, (refl, (refl, tt))))
inner_by false false true quot feed control ends b l g q f c = inner (codes "&gt;") (refl, (refl, (refl, (refl, tt))))
inner_by false false false true feed control ends b l g q f c = inner (codes "&quot;") (refl, (refl, (refl, (refl, (refl, (refl, tt))))))
inner_by false false false false true control ends b l g q f c = inner (b ∷ []) (rw (l, g, q, f) refl, tt)
inner_by false false false false false true ends b l g q f c = inner replacement (refl, (refl, (refl, tt)))
inner_by false false false false false false true b l g q f c = inner (189 ∷ []) (refl, tt)
inner_by false false false false false false false b l g q f c = inner (b ∷ []) (rw (l, g, q, f, c) refl, tt)

inner_byte : (before last b : ℕ) → Inner (xml_byte before last b)
inner_byte before last b =
    inner_by (b == 38) (b == 60) (b == 62) (b == 34) (b == 10) (is_ascii_control b) (ends_noncharacter before last b) b refl refl refl refl refl

inner_from : (before last : ℕ) (text : List ℕ) → Inner (xml_from before last text)
inner_from before last [] = All-nil (λ b. IsTrue (is_inner b))
inner_from before last (b ∷ bs) = All-append (λ b. IsTrue (is_inner b)) (xml_byte before last b) (xml_from last b bs) (inner_byte before last b) (inner_from last b bs)

pub stays_inside : StaysInside
stays_inside text = inner_from 0 0 text

-- ---- what is read

-- the character of a byte by what is known of it
abbrev character_by : Bool → Bool → Bool → ℕ → List ℕ
character_by feed control ends b = if feed then b ∷ [] else if control then replacement else if ends then 189 ∷ [] else b ∷ []

reads_one : (b : ℕ) (rest : List ℕ) → (b == 38) ≡ false → read_from None (b ∷ rest) ≡ b ∷ read_from None rest
reads_one b rest other = rw other refl

reads_by : (amp lt gt quot feed control ends : Bool) (b : ℕ) (rest : List ℕ) → (b == 38) ≡ amp → (b == 60) ≡ lt → (b == 62) ≡ gt → (b == 34) ≡ quot
    → (amp ≡ true → character_by feed control ends b ≡ 38 ∷ []) → (lt ≡ true → character_by feed control ends b ≡ 60 ∷ [])
    → (gt ≡ true → character_by feed control ends b ≡ 62 ∷ []) → (quot ≡ true → character_by feed control ends b ≡ 34 ∷ [])
    → read_from None (byte_by amp lt gt quot feed control ends b ++ rest) ≡ character_by feed control ends b ++ read_from None rest
reads_by true lt gt quot feed control ends b rest a l g q one two three four = ap (λ (t : List ℕ). t ++ read_from None rest) (sym (one refl))
reads_by false true gt quot feed control ends b rest a l g q one two three four = ap (λ (t : List ℕ). t ++ read_from None rest) (sym (two refl))
reads_by false false true quot feed control ends b rest a l g q one two three four = ap (λ (t : List ℕ). t ++ read_from None rest) (sym (three refl))
reads_by false false false true feed control ends b rest a l g q one two three four = ap (λ (t : List ℕ). t ++ read_from None rest) (sym (four refl))
reads_by false false false false true control ends b rest a l g q one two three four = reads_one b rest a
reads_by false false false false false true ends b rest a l g q one two three four = refl
reads_by false false false false false false true b rest a l g q one two three four = refl
reads_by false false false false false false false b rest a l g q one two three four = reads_one b rest a

-- a byte of markup is a character of its own
own : (before last b n : ℕ) → (b == n) ≡ true → (n == 10) ≡ false → is_ascii_control n ≡ false → nat_le 190 n ≡ false → character before last b ≡ n ∷ []
own before last b n is feed control low =
    let same : b ≡ n = grind (arith, nat_tests) in
    rw (same, feed, control, low) (grind (arith, nat_tests))

reads_byte : (before last b : ℕ) (rest : List ℕ) → read_from None (xml_byte before last b ++ rest) ≡ character before last b ++ read_from None rest
reads_byte before last b rest =
    reads_by (b == 38) (b == 60) (b == 62) (b == 34) (b == 10) (is_ascii_control b) (ends_noncharacter before last b) b rest refl refl refl refl
    (λ is. own before last b 38 is refl refl refl) (λ is. own before last b 60 is refl refl refl)
    (λ is. own before last b 62 is refl refl refl) (λ is. own before last b 34 is refl refl refl)

reads_text : (before last : ℕ) (text : List ℕ) → read_from None (xml_from before last text) ≡ characters_from before last text
reads_text before last [] = refl
reads_text before last (b ∷ bs) =
    reads_byte before last b (xml_from last b bs) ∙ ap (λ (t : List ℕ). character before last b ++ t) (reads_text last b bs)

pub reads_back : ReadsBack
reads_back text = reads_text 0 0 text
