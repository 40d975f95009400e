-- What a call from C answers and leaves in its caller's memory.
use Rattle.std.specs.Prelude.{◌≡◌, ◌<◌, ◌≤◌, ◌+◌, ◌^◌, ◌++◌, ◌⊎◌, ℕ, List, length, drop, Option, Some, None}
use Rattle.snap_core.specs.declared.limit.Limit.{Limit}
use Rattle.snap_core.specs.declared.writers.Writers.{Writers}
use Rattle.snap_core.specs.declared.writers.Writers.TheVariants.{One, Many}
use Rattle.snap_check.specs.declared.status.Status.{Status}
use Rattle.snap_check.specs.Statuses.{code_of}
use Rattle.snap_check.specs.Reports.{IsReport}
use Rattle.snap_runs.specs.Answers.{IsCertain}
use Rattle.snap_c.specs.declared.question.Asked.{Asked}
use Rattle.snap_c.specs.Questions.{IsAnswer}

-- the whole answer is at the front of the room, and after it is what was there before
pub record IsFilled (Is : Option Status → List ℕ → Type 0) (old new : List ℕ) (needed code : ℕ) : Type 0 where
  pub status : Status
  pub out : List ℕ
  pub is : Is (Some status) out
  pub answers : code ≡ code_of status
  pub needs : needed ≡ length out
  pub fits : length out ≤ length old
  pub writes : new ≡ out ++ drop (length out) old

-- the answer does not fit: nothing was written but its length
pub record IsShort (Is : Option Status → List ℕ → Type 0) (old new : List ℕ) (needed code : ℕ) : Type 0 where
  pub status : Status
  pub out : List ℕ
  pub is : Is (Some status) out
  pub answers : code ≡ 5
  pub needs : needed ≡ length out
  pub too_long : length old < length out
  pub writes : new ≡ old

-- nothing was written, for the reason that a code names
pub record IsUnwritten (reason : ℕ) (old new : List ℕ) (needed code : ℕ) : Type 0 where
  pub answers : code ≡ reason
  pub needs : needed ≡ 0
  pub writes : new ≡ old

-- nothing was written, since the history lacks a call that was named
pub record IsLacking (Is : Option Status → List ℕ → Type 0) (old new : List ℕ) (needed code : ℕ) : Type 0 where
  pub out : List ℕ
  pub is : Is None out
  pub unwritten : IsUnwritten 7 old new needed code

-- the answer, or that it does not fit, or that memory ran out, or that there is no answer
abbrev pub IsAnswered : (Option Status → List ℕ → Type 0) → List ℕ → List ℕ → ℕ → ℕ → Type 0
IsAnswered Is old new needed code =
    IsFilled Is old new needed code ⊎ (IsShort Is old new needed code ⊎ (IsUnwritten 4 old new needed code ⊎ IsLacking Is old new needed code))

-- what a number says of a limit: its events, and 2^31 more where a component may have many writers

abbrev pub many_writers : ℕ
many_writers = 2 ^ 31

abbrev pub word_of_writers : Writers → ℕ
word_of_writers One = 0
word_of_writers Many = many_writers

abbrev pub word_of : Limit → ℕ
word_of limit = limit.events + word_of_writers limit.writers

-- the answer within the limit that a number names; and if it names none
abbrev pub IsWithin : ℕ → (Limit → List ℕ → List ℕ → ℕ → ℕ → Type 0) → List ℕ → List ℕ → ℕ → ℕ → Type 0
IsWithin word Is old new needed code =
    ((limit : Limit) × (word_of limit ≡ word) × Is limit old new needed code)
    ⊎ (((limit : Limit) → word_of limit ≡ word → ⊥) × IsUnwritten 6 old new needed code)

-- the report of a text
abbrev pub IsChecked : Limit → List ℕ → List ℕ → List ℕ → ℕ → ℕ → Type 0
IsChecked limit text = IsAnswered (IsCertain (IsReport limit text))

-- the report of a text, if the number names a limit
abbrev pub IsCheckedFor : ℕ → List ℕ → List ℕ → List ℕ → ℕ → ℕ → Type 0
IsCheckedFor word text = IsWithin word (λ limit. IsChecked limit text)

-- the answer to what is asked, or that nothing is
abbrev pub IsAnsweredTo : Limit → Option Asked → List ℕ → List ℕ → List ℕ → ℕ → ℕ → Type 0
IsAnsweredTo limit (Some asked) text old new needed code = IsAnswered (IsAnswer asked limit text) old new needed code
IsAnsweredTo limit None text old new needed code = IsUnwritten 7 old new needed code

-- the answer to what is asked, if the number names a limit and something is asked
unfoldable pub IsAnsweredFor : ℕ → Option Asked → List ℕ → List ℕ → List ℕ → ℕ → ℕ → Type 0
IsAnsweredFor word asked text = IsWithin word (λ limit. IsAnsweredTo limit asked text)
