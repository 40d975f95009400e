-- How a picture ends: as an element of SVG, or as one of HTML.
use Rattle.std.specs.Prelude.{◌≡◌, ◌++◌, ℕ, List, codes}

-- the text ends with these bytes
abbrev pub EndsWith : List ℕ → List ℕ → Type 0
EndsWith end text = (front : List ℕ) × (text ≡ front ++ end)

-- the picture alone
abbrev pub EndsSvg : List ℕ → Type 0
EndsSvg = EndsWith (codes "</svg>\n")

-- a page
abbrev pub EndsPage : List ℕ → Type 0
EndsPage = EndsWith (codes "</html>\n")
