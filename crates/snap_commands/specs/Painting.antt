-- A text with colours on some of its parts.
use Rattle.std.specs.Prelude.{◌≡◌, ◌≢◌, ◌++◌, ◌⊎◌, ℕ, List, ◌∷◌, Option, IfSome, codes, flat_map, length, take}
use Rattle.std.specs.Option.{option_map_or}
use Rattle.std.specs.Io.KnownBytes.{Appends}
use Rattle.snap_core.specs.Sending.{SendsFront}

-- an escape that begins a colour: green or red
abbrev pub IsColor : List ℕ → Type 0
IsColor color = (color ≡ 27 ∷ codes "[32m") ⊎ (color ≡ 27 ∷ codes "[31m")

-- the escape that ends a colour
abbrev pub plain : List ℕ
plain = 27 ∷ codes "[0m"

-- a part of a text, as it is or in a colour
pub record Piece : Type 0 where
  pub color : Option (List ℕ)
  pub part : List ℕ
  pub is_color : IfSome color IsColor

-- how a part is shown: after one in a colour, the colour ends
abbrev pub shown : Piece → List ℕ
shown piece = option_map_or (λ color. color ++ piece.part ++ plain) piece.color piece.part

-- what is written is the text, with some parts in a colour and nothing else
pub record IsPainted (text out : List ℕ) : Type 0 where
  pub pieces : List Piece
  pub parts : text ≡ flat_map (λ piece. piece.part) pieces
  pub all : out ≡ flat_map shown pieces

-- the line feed of a line is at this place, or this is the end of a line without one
abbrev pub IsEndOfLine : List ℕ → ℕ → Type 0
IsEndOfLine line end = (line ≡ take end line ++ codes "\n") ⊎ ((end ≡ length line) × ((front : List ℕ) → line ≢ front ++ codes "\n"))

-- the whole of a text went out, with some parts in colours
pub record SendsPainted (old new : Option (List ℕ)) (text : List ℕ) : Type 0 where
  pub out : List ℕ
  pub painted : IsPainted text out
  pub sent : Appends old new out

-- a front of a text with some parts in colours went out
pub record CutsPainted (old new : Option (List ℕ)) (text : List ℕ) : Type 0 where
  pub out : List ℕ
  pub painted : IsPainted text out
  pub sent : SendsFront old new out
