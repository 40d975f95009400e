-- A text in a document of XML.
use Rattle.std.specs.Prelude.{◌≡◌, ◌==◌, ◌&&◌, ◌||◌, ◌++◌, not, ℕ, Bool, All, IsTrue, if◌then◌else◌, List, [], ◌∷◌, Option, Some, None, codes, nat_le}
use Rattle.std.specs.Char.{is_ascii_control}
use Rattle.std.specs.Str.{bytes_eq}

-- U+FFFD, which stands for what XML can't have
abbrev pub replacement : List ℕ
replacement = 239 ∷ 191 ∷ 189 ∷ []

-- whether a byte after two others ends U+FFFE or U+FFFF
abbrev pub ends_noncharacter : ℕ → ℕ → ℕ → Bool
ends_noncharacter before last b = (before == 239) && (last == 191) && nat_le 190 b

-- a byte after two others, or U+FFFD, if it is a control byte other than a line feed. U+FFFE and U+FFFF become U+FFFD too
abbrev pub character : ℕ → ℕ → ℕ → List ℕ
character before last b =
    if b == 10 then b ∷ [] else if is_ascii_control b then replacement else if ends_noncharacter before last b then 189 ∷ [] else b ∷ []

-- the characters of a text after two bytes, as far as XML can have them
abbrev pub characters_from : ℕ → ℕ → List ℕ → List ℕ
characters_from before last [] = []
characters_from before last (b ∷ bs) = character before last b ++ characters_from last b bs

abbrev pub characters : List ℕ → List ℕ
characters text = characters_from 0 0 text

-- a byte after two others as XML has it: by a reference, if it could begin or end a tag, a value or a reference
abbrev pub xml_byte : ℕ → ℕ → ℕ → List ℕ
xml_byte before last b =
    if b == 38 then codes "&amp;" else if b == 60 then codes "&lt;" else if b == 62 then codes "&gt;" else if b == 34 then codes "&quot;"
    else character before last b

abbrev pub xml_from : ℕ → ℕ → List ℕ → List ℕ
xml_from before last [] = []
xml_from before last (b ∷ bs) = xml_byte before last b ++ xml_from last b bs

-- a text as XML has it, between tags or in the value of an attribute
abbrev pub xml_text : List ℕ → List ℕ
xml_text text = xml_from 0 0 text

-- a byte that a document may have between tags and in a value: no bracket, no quote, and no control byte other than a line feed
abbrev pub is_inner : ℕ → Bool
is_inner b = not (b == 60) && not (b == 62) && not (b == 34) && ((b == 10) || not (is_ascii_control b))

-- no text breaks out of its tags or its quotes
abbrev pub StaysInside : Type 0
StaysInside = (text : List ℕ) → All (λ b. IsTrue (is_inner b)) (xml_text text)

-- what a reader of XML reads for the name of a reference
abbrev pub referred : List ℕ → List ℕ
referred name =
    if bytes_eq name (codes "amp") then 38 ∷ [] else if bytes_eq name (codes "lt") then 60 ∷ [] else if bytes_eq name (codes "gt") then 62 ∷ []
    else if bytes_eq name (codes "quot") then 34 ∷ [] else []

-- what a reader of XML reads between tags or in a value. It may be inside a reference, of whose name it has read this much
abbrev pub read_from : Option (List ℕ) → List ℕ → List ℕ
read_from None [] = []
read_from (Some name) [] = []
read_from None (b ∷ bs) = if b == 38 then read_from (Some []) bs else b ∷ read_from None bs
read_from (Some name) (b ∷ bs) = if b == 59 then referred name ++ read_from None bs else read_from (Some (name ++ b ∷ [])) bs

-- a reader of XML finds the characters of a text again
abbrev pub ReadsBack : Type 0
ReadsBack = (text : List ℕ) → read_from None (xml_text text) ≡ characters text
