-- Names as they are shown.
use Rattle.std.specs.Prelude.{◌==◌, ◌&&◌, ◌||◌, ◌++◌, ◌/◌, ◌%◌, not, ℕ, Bool, if◌then◌else◌, List, [], ◌∷◌, codes, flat_map}
use Rattle.std.specs.Char.{digit_char, is_ascii, is_ascii_control}
use Rattle.std.specs.Str.{is_utf8}

-- a byte as \x and its two digits to the base of 16
abbrev pub escaped : ℕ → List ℕ
escaped b = codes "\\x" ++ digit_char (b / 16) ∷ digit_char (b % 16) ∷ []

-- a byte is shown as it is if it is no control byte of ASCII, and is ASCII or of a name that is UTF-8
abbrev pub is_plain : Bool → ℕ → Bool
is_plain is_text b = not (is_ascii_control b) && (is_text || is_ascii b)

-- a line feed in a name is shown as \n, a carriage return as \r, and a backslash as two
abbrev pub shown_byte : Bool → ℕ → List ℕ
shown_byte is_text b =
    if b == 10 then codes "\\n" else if b == 13 then codes "\\r" else if b == 92 then codes "\\\\" else if is_plain is_text b then b ∷ [] else escaped b

abbrev pub shown : List ℕ → List ℕ
shown name = flat_map (shown_byte (is_utf8 name)) name
