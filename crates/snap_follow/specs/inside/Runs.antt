-- What the run of a recording has taken, if its texts are known.
use Rattle.std.specs.Prelude.{⊤, ℕ, Bool, false, true, List, [], ◌∷◌, ◌++◌, ◌≡◌, ◌≢◌, ◌<◌, ◌⊎◌, Option, Some, None, IfSome, length, take, flat_map}
use Rattle.std.specs.List.{AllZip}
use Rattle.std.specs.Io.KnownBytes.{Consumes, IsAtEnd}
use Rattle.snap_core.specs.declared.limit.Limit.{Limit}
use Rattle.snap_core.specs.declared.event.Event.{Event}
use Rattle.snap_format.specs.Rows.{rows_of}
use Rattle.snap_follow.specs.declared.course.Course.{Course}
use Rattle.snap_follow.specs.declared.pieces.AtHand.{AtHand}
use Rattle.snap_follow.specs.declared.pieces.Stop.{Stop}
use Rattle.snap_follow.specs.declared.pieces.Stop.TheVariants.{Refused, Lost, Fault}
use Rattle.snap_follow.specs.declared.run.Until.{Until}
use Rattle.snap_follow.specs.declared.run.Until.TheVariants.{Ever, Idle, End}
use Rattle.snap_follow.specs.Bytes.{AreAllLines}
use Rattle.snap_follow.specs.Followed.{StopsAt}
use Rattle.snap_core.specs.declared.counted.Counted.{Counted}
use Rattle.snap_follow.specs.Written.{HasSent}
use Rattle.snap_follow.specs.Recordings.{AreCut, AreLastLines}
use Rattle.snap_follow.specs.inside.Courses.{EndsBytes, HasFollowed, HasJudged, HaveStamps}

-- if a recording is refused, this holds
abbrev pub OnRefusal : Stop → Type 0 → Type 0
OnRefusal Refused P = P
OnRefusal (Lost lost) P = ⊤
OnRefusal (Fault fault) P = ⊤

-- a read of the text at hand gave n bytes, none only at its end or if there is no text
abbrev pub ReadsText : {R : Type 0} → (R → Option (List ℕ)) → Option R → Option R → ℕ → List ℕ → Type 0
ReadsText remaining None new n piece = (n ≡ 0) × (new ≡ None)
ReadsText remaining (Some text) None n piece = ⊥
ReadsText remaining (Some text) (Some later) n piece = Consumes (remaining text) (remaining later) (take n piece) × (n ≡ 0 → 0 < length piece → IsAtEnd (remaining later))

-- nothing is left of the text at hand
abbrev pub IsReadOut : {R : Type 0} → (R → Option (List ℕ)) → Option R → Type 0
IsReadOut remaining text = IfSome text (λ t. IsAtEnd (remaining t))

-- the text at hand has ended, if there is one
abbrev pub EndsAtHand : {R : Type 0} → Option R → Course → Course → Type 0
EndsAtHand None old new = new ≡ old
EndsAtHand (Some text) old new = EndsBytes old new

-- of these texts some were taken whole, and of the next one all but a rest
pub record HasBegun (course : Course) (rest : List ℕ) (later : List (List ℕ)) (gone : List ℕ) (least : ℕ) (most : Limit) (all : List (List ℕ)) : Type 0 where
  pub done : List (List ℕ)
  pub bytes : List ℕ
  pub texts_are : all ≡ done ++ (bytes ++ rest) ∷ later
  pub lines : List (List (List ℕ))
  pub whole : AllZip AreAllLines done lines
  pub events : List Event
  pub followed : HasFollowed course gone least most lines bytes events

-- what was taken, by the text at hand: nothing if there is none
abbrev pub HasCome : {R : Type 0} → (R → Option (List ℕ)) → Course → Option R → List (List ℕ) → List ℕ → ℕ → Limit → List (List ℕ) → Type 0
HasCome remaining course None later gone least most all = (later ≡ all) × HasFollowed course gone least most [] [] []
HasCome remaining course (Some text) later gone least most all = (rest : List ℕ) × (remaining text ≡ Some rest) × HasBegun course rest later gone least most all

-- what was taken, by the text at hand and by the texts that are left
pub record IsUnderWay {R : Type 0} (remaining : R → Option (List ℕ)) (course : Course) (hand : AtHand R) (left : Option (List (List ℕ))) (gone : List ℕ) (least : ℕ) (most : Limit) (all : List (List ℕ)) : Type 0 where
  pub later : List (List ℕ)
  pub left_is : left ≡ Some later
  pub next : hand.has_next ≡ true → later ≢ []
  pub come : HasCome remaining course hand.text later gone least most all

-- a step keeps `IsUnderWay`
abbrev pub GoesOnFrom : {R : Type 0} → (R → Option (List ℕ)) → Course → AtHand R → Option (List (List ℕ)) → Course → AtHand R → Option (List (List ℕ)) → Type 0
GoesOnFrom remaining course hand left new_course new_hand new_left =
    (gone : List ℕ) (least : ℕ) (most : Limit) (all : List (List ℕ)) → IsUnderWay remaining course hand left gone least most all → IsUnderWay remaining new_course new_hand new_left gone least most all

-- so do steps in which these bytes went out
abbrev pub GoesOnFor : {R : Type 0} → List ℕ → (R → Option (List ℕ)) → Course → AtHand R → Option (List (List ℕ)) → Course → AtHand R → Option (List (List ℕ)) → Type 0
GoesOnFor out remaining course hand left new_course new_hand new_left =
    (gone : List ℕ) (least : ℕ) (most : Limit) (all : List (List ℕ)) → IsUnderWay remaining course hand left gone least most all → IsUnderWay remaining new_course new_hand new_left (gone ++ out) least most all

-- what went out since the run began, and what was taken since then
abbrev pub IsTellingFrom : {R W : Type 0} → (W → Option (List ℕ)) → (R → Option (List ℕ)) → Counted W → Counted W → Course → AtHand R → Option (List (List ℕ)) → Course → AtHand R → Option (List (List ℕ)) → Type 0
IsTellingFrom contents remaining first now course hand left new_course new_hand new_left =
    (sent : HasSent contents first now) × ((least : ℕ) (most : Limit) (all : List (List ℕ)) → IsUnderWay remaining course hand left [] least most all → IsUnderWay remaining new_course new_hand new_left sent.out least most all)

-- if no text is at hand, none was opened since the run began. If no look is due, texts were looked for
abbrev pub SeesNone : {R T : Type 0} → (T → ℕ) → (T → Type 0) → T → T → Option R → Bool → Type 0
SeesNone count looked first now text is_due = text ≡ None → (count now ≡ count first) × (is_due ≡ false → looked now)

-- the last text has ended
abbrev pub EndsLast : Until → Course → Course → Type 0
EndsLast until old new = (gone : List ℕ) (least : ℕ) (most : Limit) (texts : List (List (List ℕ))) (bytes : List ℕ) (events : List Event) → HasFollowed old gone least most texts bytes events →
    (lines : List (List ℕ)) × (more : List Event) × AreLastLines until bytes lines new.rest.items × HasJudged new.follow new.answers gone least most texts lines (events ++ more)

-- the last text has ended, nothing waits, and there was a record
abbrev pub EndsAll : Until → Course → Course → Type 0
EndsAll until old new = (gone : List ℕ) (least : ℕ) (most : Limit) (texts : List (List (List ℕ))) (bytes : List ℕ) (events : List Event) → HasFollowed old gone least most texts bytes events →
    (lines : List (List ℕ)) × (more : List Event) × AreLastLines until bytes lines new.rest.items × HasJudged new.follow new.answers gone least most texts lines (events ++ more) × (new.follow.waiting.turns.items ≡ []) × ((texts ≢ []) ⊎ (flat_map rows_of lines ≢ []))

-- the recording has no record
abbrev pub HasNoneAtAll : Until → Course → Type 0
HasNoneAtAll until old = (gone : List ℕ) (least : ℕ) (most : Limit) (texts : List (List (List ℕ))) (bytes : List ℕ) (events : List Event) → HasFollowed old gone least most texts bytes events →
    (lines : List (List ℕ)) × (rest : List ℕ) × AreLastLines until bytes lines rest × (flat_map rows_of lines ≡ []) × (texts ≡ [])

-- the last line of a recording that ends stops it
abbrev pub StopsInRest : Until → Course → Type 0
StopsInRest End old = StopsAt old.follow old.rest.items
StopsInRest Ever old = ⊥
StopsInRest (Idle seconds) old = ⊥

-- the records of the last text have stamps
abbrev pub HasStampsAtEnd : Until → Course → Type 0
HasStampsAtEnd until old = (gone : List ℕ) (least : ℕ) (most : Limit) (texts : List (List (List ℕ))) (bytes : List ℕ) (events : List Event) → HasFollowed old gone least most texts bytes events →
    (lines : List (List ℕ)) × (rest : List ℕ) × AreLastLines until bytes lines rest × HaveStamps (length texts) lines

-- the end of the last text stops the recording: by its last line, for want of any record, or since records have stamps
abbrev pub StopsEnd : Until → Course → Type 0
StopsEnd until old = StopsInRest until old ⊎ (HasNoneAtAll until old ⊎ HasStampsAtEnd until old)

-- all of these texts were taken
pub record IsDone (course : Course) (until : Until) (gone : List ℕ) (least : ℕ) (most : Limit) (all : List (List ℕ)) : Type 0 where
  pub earlier : List (List (List ℕ))
  pub last : List (List ℕ)
  pub cut : AreCut until all earlier last course.rest.items
  pub events : List Event
  pub judged : HasJudged course.follow course.answers gone least most earlier last events
  pub none_waits : course.follow.waiting.turns.items ≡ []
  pub begun : (earlier ≢ []) ⊎ (flat_map rows_of last ≢ [])
