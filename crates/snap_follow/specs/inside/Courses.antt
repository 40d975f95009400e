-- What the course of a recording has taken.
use Rattle.std.specs.Prelude.{◌≡◌, ◌≢◌, ◌<◌, ◌++◌, ◌⊎◌, ℕ, List, [], ◌∷◌, flat_map, length}
use Rattle.snap_core.specs.declared.limit.Limit.{Limit}
use Rattle.snap_core.specs.declared.event.Event.{Event}
use Rattle.snap_follow.specs.declared.answers.Answers.{Answers}
use Rattle.snap_follow.specs.declared.course.Course.{Course}
use Rattle.snap_follow.specs.declared.follow.Follow.{Follow}
use Rattle.snap_follow.specs.declared.form.Form.TheVariants.{Stamped}
use Rattle.snap_follow.specs.declared.waiting.Turn.{Turn}
use Rattle.snap_format.specs.Rows.{rows_of}
use Rattle.snap_follow.specs.Bytes.{AreAllLines, AreLinesOf, EndsLine, HasNoEnd}
use Rattle.snap_follow.specs.Followed.{HasRead, IsInTime, ReadsMore, StopsAt}
use Rattle.snap_follow.specs.Turns.{Spells}
use Rattle.snap_follow.specs.Windows.{EndsFirst}
use Rattle.snap_follow.specs.inside.Sums.{HasTold}
use Rattle.snap_follow.specs.declared.course.TheConstants.{RECORD_LIMIT}

-- some lines of a recording were read, and its windows that have ended were answered: these bytes of their lines have gone out. No window
-- is overdue, and the one at hand could not have ended before
pub record HasJudged (follow : Follow) (answers : Answers) (gone : List ℕ) (least : ℕ) (most : Limit) (texts : List (List (List ℕ))) (lines : List (List ℕ)) (events : List Event) : Type 0 where
  pub read : HasRead follow least most texts lines events
  pub in_time : IsInTime least events read.since
  pub first : EndsFirst least read.before read.since
  pub told : HasTold answers gone least most read.places read.before

-- lines were taken
abbrev pub TakesLines : Course → Course → List (List ℕ) → Type 0
TakesLines old new added = (gone : List ℕ) (least : ℕ) (most : Limit) (texts : List (List (List ℕ))) (lines : List (List ℕ)) (events : List Event) → HasJudged old.follow old.answers gone least most texts lines events →
    (more : List Event) × HasJudged new.follow new.answers gone least most texts (lines ++ added) (events ++ more)

abbrev pub TakesLine : Course → Course → List ℕ → Type 0
TakesLine old new line = TakesLines old new (line ∷ [])

-- events that waited were taken
abbrev pub TakesMore : Course → Course → Type 0
TakesMore old new = TakesLines old new []

-- a window was answered if one could end after lines were read
abbrev pub EndsWindow : Course → Course → Type 0
EndsWindow old new = (before : Course) (added : List (List ℕ)) → ReadsMore before.follow old.follow added → before.answers ≡ old.answers → TakesLines before new added

-- a record waits
abbrev pub HasWaiting : Follow → Type 0
HasWaiting follow = follow.waiting.turns.items ≢ []

-- a recording was followed so far: the lines of some whole texts, and of the bytes of the text at hand, say these events
pub record HasFollowed (course : Course) (gone : List ℕ) (least : ℕ) (most : Limit) (texts : List (List (List ℕ))) (bytes : List ℕ) (events : List Event) : Type 0 where
  pub lines : List (List ℕ)
  pub cut : AreLinesOf bytes lines course.rest.items
  pub read : HasJudged course.follow course.answers gone least most texts lines events

-- bytes were taken, and these bytes went out
abbrev pub TakesBytesFor : List ℕ → Course → Course → List ℕ → Type 0
TakesBytesFor out old new piece = (gone : List ℕ) (least : ℕ) (most : Limit) (texts : List (List (List ℕ))) (bytes : List ℕ) (events : List Event) → HasFollowed old gone least most texts bytes events →
    (more : List Event) × HasFollowed new (gone ++ out) least most texts (bytes ++ piece) (events ++ more)

-- bytes were taken
abbrev pub TakesBytes : Course → Course → List ℕ → Type 0
TakesBytes old new piece = (gone : List ℕ) (least : ℕ) (most : Limit) (texts : List (List (List ℕ))) (bytes : List ℕ) (events : List Event) → HasFollowed old gone least most texts bytes events →
    (more : List Event) × HasFollowed new gone least most texts (bytes ++ piece) (events ++ more)

-- the bytes of the text at hand have ended: all their lines were taken
abbrev pub TakesLast : Course → Course → Type 0
TakesLast old new = (gone : List ℕ) (least : ℕ) (most : Limit) (texts : List (List (List ℕ))) (bytes : List ℕ) (events : List Event) → HasFollowed old gone least most texts bytes events →
    (lines : List (List ℕ)) × (more : List Event) × AreAllLines bytes lines × HasJudged new.follow new.answers gone least most texts lines (events ++ more)

-- the bytes of the text at hand have ended, and the next text begins
abbrev pub EndsBytes : Course → Course → Type 0
EndsBytes old new = (gone : List ℕ) (least : ℕ) (most : Limit) (texts : List (List (List ℕ))) (bytes : List ℕ) (events : List Event) → HasFollowed old gone least most texts bytes events →
    (lines : List (List ℕ)) × (more : List Event) × AreAllLines bytes lines × HasFollowed new gone least most (texts ++ lines ∷ []) [] (events ++ more)

-- a record was read, of this text or of one before it
abbrev pub IsBegun : Follow → Type 0
IsBegun follow = (least : ℕ) (most : Limit) (texts : List (List (List ℕ))) (lines : List (List ℕ)) (events : List Event) → HasRead follow least most texts lines events →
    (texts ≢ []) ⊎ (flat_map rows_of lines ≢ [])

-- no record was read so far
abbrev pub HasNoneSoFar : Follow → Type 0
HasNoneSoFar follow = (least : ℕ) (most : Limit) (texts : List (List (List ℕ))) (lines : List (List ℕ)) (events : List Event) → HasRead follow least most texts lines events →
    (texts ≡ []) × (flat_map rows_of lines ≡ [])

-- a line has more bytes than a record may have
abbrev pub IsTooLong : List ℕ → Type 0
IsTooLong line = RECORD_LIMIT < length line

-- the first of these bytes ends a line
abbrev pub BeginsWithEnd : List ℕ → Type 0
BeginsWithEnd [] = ⊥
BeginsWithEnd (b ∷ bytes) = EndsLine b

-- a piece stops a recording: some of its bytes were taken. The line after them has more bytes than a record may have, or it ends in
-- the piece and stops the recording
pub record StopsIn (old : Course) (piece : List ℕ) : Type 0 where
  pub at : Course
  pub front : List ℕ
  pub line : List ℕ
  pub behind : List ℕ
  pub parts : piece ≡ front ++ (line ++ behind)
  pub within : HasNoEnd line
  pub taken : TakesBytes old at front
  pub stops : IsTooLong (at.rest.items ++ line) ⊎ (BeginsWithEnd behind × StopsAt at.follow (at.rest.items ++ line))

-- the records of lines have stamps
abbrev pub HaveStamps : ℕ → List (List ℕ) → Type 0
HaveStamps n lines = (turns : List Turn) × Spells Stamped n (flat_map rows_of lines) turns

-- the records of the text at hand have stamps
abbrev pub HasStamps : Course → Type 0
HasStamps old = (gone : List ℕ) (least : ℕ) (most : Limit) (texts : List (List (List ℕ))) (bytes : List ℕ) (events : List Event) → HasFollowed old gone least most texts bytes events →
    (lines : List (List ℕ)) × AreAllLines bytes lines × HaveStamps (length texts) lines

-- the text at hand ends without any record
abbrev pub HasNothing : Course → Type 0
HasNothing old = (gone : List ℕ) (least : ℕ) (most : Limit) (texts : List (List (List ℕ))) (bytes : List ℕ) (events : List Event) → HasFollowed old gone least most texts bytes events →
    (lines : List (List ℕ)) × AreAllLines bytes lines × (flat_map rows_of lines ≡ [])

-- the end of the text at hand stops a recording: its last line does, which need not end, or the text has no record, or records have
-- stamps
abbrev pub StopsLast : Course → Type 0
StopsLast old = StopsAt old.follow old.rest.items ⊎ (HasNothing old ⊎ HasStamps old)
