-- The names in a list.
use Rattle.std.specs.Prelude.{◌≡◌, ◌≢◌, ◌<◌, ◌+◌, ◌++◌, ◌⊎◌, ℕ, List, [], ◌∷◌, All, length, flat_map, map, Result, Ok, Err}
use Rattle.std.specs.Global.{Vec}
use Rattle.snap_names.specs.declared.fault.NamesFault.{NamesFault}
use Rattle.snap_names.specs.declared.fault.NamesFault.TheVariants.{Unread, TooLong, Empty, TooManyFolders, Memory}
use Rattle.snap_names.specs.declared.list.TheConstants.{LIST_LIMIT}

-- the bytes of each name
abbrev pub byte_lists : List (Vec ℕ) → List (List ℕ)
byte_lists names = map (λ name. name.items) names

-- a name of a list has some bytes, and none of them is the byte that ends names
pub record IsName (end : ℕ) (name : List ℕ) : Type 0 where
  pub some : name ≢ []
  pub whole : All (λ b. b ≢ end) name

-- names in a row, each with its end
abbrev pub ended : ℕ → List (List ℕ) → List ℕ
ended end names = flat_map (λ name. name ++ end ∷ []) names

-- the names of a list, in their order: each is followed by its end, which the last may lack
pub record AreNamesOf (end : ℕ) (text : List ℕ) (names : List (List ℕ)) : Type 0 where
  pub each : All (IsName end) names
  pub spelled : (text ≡ ended end names) ⊎ (text ++ end ∷ [] ≡ ended end names)

-- the first empty name is the one of this number: another end follows the names before it, each with its end
pub record LacksName (end : ℕ) (text : List ℕ) (number : ℕ) : Type 0 where
  pub before : List (List ℕ)
  pub each : All (IsName end) before
  pub count : number ≡ length before + 1
  pub behind : List ℕ
  pub spelled : text ≡ ended end before ++ end ∷ behind

-- the answer for a list in memory: all its names, its first empty name, or that memory ran out
abbrev pub CutsList : ℕ → List ℕ → Result (Vec (Vec ℕ)) NamesFault → Type 0
CutsList end text (Ok names) = AreNamesOf end text (byte_lists names.items)
CutsList end text (Err (Empty number)) = LacksName end text number
CutsList end text (Err Memory) = Unit {0}
CutsList end text (Err Unread) = ⊥
CutsList end text (Err TooLong) = ⊥
CutsList end text (Err TooManyFolders) = ⊥

-- the answer for a list that is read; a list that is too long is refused
abbrev pub AnswersList : ℕ → List ℕ → Result (Vec (Vec ℕ)) NamesFault → Type 0
AnswersList end text (Ok names) = AreNamesOf end text (byte_lists names.items)
AnswersList end text (Err (Empty number)) = LacksName end text number
AnswersList end text (Err TooLong) = LIST_LIMIT < length text
AnswersList end text (Err Memory) = Unit {0}
AnswersList end text (Err Unread) = Unit {0}
AnswersList end text (Err TooManyFolders) = ⊥
