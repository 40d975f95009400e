-- The lines of bytes.
use Rattle.std.specs.Prelude.{◌≡◌, ◌≢◌, ◌⊎◌, ◌++◌, ℕ, true, List, [], ◌∷◌, All, flat_map, map}
use Rattle.memchr.specs.Find.{is_byte2}

-- a byte that ends a line: LF or CR
abbrev pub EndsLine : ℕ → Type 0
EndsLine b = is_byte2 10 13 b ≡ true

-- bytes within which no line ends
abbrev pub HasNoEnd : List ℕ → Type 0
HasNoEnd bytes = All (λ b. ¬ EndsLine b) bytes

-- a line, and the byte that ends it
pub record Ended : Type 0 where
  pub line : List ℕ
  pub end : ℕ
  pub within : HasNoEnd line
  pub ends : EndsLine end

-- bytes are whole lines: they end with LF, if there are any
abbrev pub AreWholeLines : List ℕ → Type 0
AreWholeLines bytes = (bytes ≡ []) ⊎ ((front : List ℕ) × (bytes ≡ front ++ 10 ∷ []))

-- bytes are these lines, each with its end, and a rest of a line
pub record AreLinesOf (bytes : List ℕ) (lines : List (List ℕ)) (rest : List ℕ) : Type 0 where
  pub each : List Ended
  pub lines_are : lines ≡ map (λ l. l.line) each
  pub spelled : bytes ≡ flat_map (λ l. l.line ++ l.end ∷ []) each ++ rest
  pub unended : HasNoEnd rest

-- bytes to their end are these lines: the last need not end
pub record AreAllLines (bytes : List ℕ) (lines : List (List ℕ)) : Type 0 where
  pub ended : List (List ℕ)
  pub rest : List ℕ
  pub cut : AreLinesOf bytes ended rest
  pub all : ((rest ≡ []) × (lines ≡ ended)) ⊎ ((rest ≢ []) × (lines ≡ ended ++ rest ∷ []))
