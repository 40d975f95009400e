-- JSON values, and the line of one.
use Rattle.std.specs.Prelude.{◌≡◌, ◌++◌, ℕ, List, [], ◌∷◌, codes, decimal}
use Rattle.std.specs.List.{flat_map}
use Rattle.json.specs.Json.{Json, number, object, Members, no_members, member}
use Rattle.json.specs.Lex.{tokens}
use Rattle.json.specs.Print.{print}
use Rattle.json.specs.Token.{Token, key}
use Rattle.json.specs.Tree.{json_tokens}

-- a key and its value
abbrev pub Field : Type 0
Field = List ℕ × Json

abbrev pub members_of : List Field → Members
members_of [] = no_members
members_of (f ∷ fs) = member f.0 f.1 (members_of fs)

-- the object of some fields, in their order
abbrev pub object_of : List Field → Json
object_of fields = object (members_of fields)

abbrev pub number_json : ℕ → Json
number_json n = number (decimal n)

-- the tokens of some fields inside an object
abbrev pub field_tokens : List Field → List Token
field_tokens fields = flat_map (λ (f : Field). key f.0 ∷ json_tokens f.1) fields

-- a value without spaces and with the escapes of RFC 8259, and a line feed
-- A reader of the whole line finds the same tokens.
pub record IsLineOf (value : Json) (line : List ℕ) : Type 0 where
  pub writes : line ≡ print (json_tokens value) ++ codes "\n"
  pub reads_back : tokens line ≡ json_tokens value
