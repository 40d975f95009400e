-- What a text begins with.
use Rattle.std.specs.Prelude.{◌≡◌, ◌<◌, ◌^◌, ◌⊎◌, ◌++◌, ℕ, List, [], ◌∷◌, length, decimal}
use Rattle.std.specs.List.{All}
use Rattle.snap_core.specs.declared.entry.Entry.{Entry}
use Rattle.snap_core.specs.Entries.{EntryFits}
use Rattle.snap_text.specs.Spelling.{entries_text, entry_text}

-- a text does not begin with a digit
abbrev pub NoDigitFirst : List ℕ → Type 0
NoDigitFirst [] = Unit {0}
NoDigitFirst (b ∷ bs) = (b < 48) ⊎ (57 < b)

-- the decimal form of a number, and then a rest that does not begin with a digit
pub record NumberThen (n : ℕ) (rest text : List ℕ) : Type 0 where
  pub small : n < 2 ^ 32
  pub whole : text ≡ decimal n ++ rest
  pub ends : NoDigitFirst rest

-- nothing, or a space (32) and more
abbrev pub EndsEntry : List ℕ → Type 0
EndsEntry [] = Unit {0}
EndsEntry (b ∷ bs) = b ≡ 32

-- an entry, and then its end
pub record EntryThen (e : Entry) (rest text : List ℕ) : Type 0 where
  pub fits : EntryFits e
  pub whole : text ≡ entry_text e ++ rest
  pub ends : EndsEntry rest

-- entries with one space between two, and then their end
pub record EntriesThen (es : List Entry) (rest text : List ℕ) : Type 0 where
  pub some : 0 < length es
  pub fit : All EntryFits es
  pub whole : text ≡ entries_text es ++ rest
  pub ends : EndsEntry rest

-- a text spells these entries
pub record AreSpelled (es : List Entry) (text : List ℕ) : Type 0 where
  pub fit : All EntryFits es
  pub whole : text ≡ entries_text es

-- either entries at the front of a text, and a space after them, were added after the old entries; or none were
abbrev pub AddsFront : List Entry → List Entry → List ℕ → List ℕ → Type 0
AddsFront old new rest text = ((new ≡ old) × (rest ≡ text)) ⊎ ((es : List Entry) × (new ≡ old ++ es) × EntriesThen es (32 ∷ rest) text)
