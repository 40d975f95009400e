-- What whole texts are when they are followed to their end.
use Rattle.std.specs.Prelude.{ℕ, Bool, List, [], ◌∷◌, ◌++◌, ◌≡◌, ◌≢◌, ◌≤◌, ◌<◌, ◌⊎◌, ◌↔◌, IsTrue, IfSome, Option, None, Some, All, flat_map, length}
use Rattle.std.specs.List.{AllZip}
use Rattle.std.specs.Io.KnownBytes.{Appends}
use Rattle.snap_core.specs.declared.event.Event.{Event}
use Rattle.snap_core.specs.declared.limit.Limit.{Limit}
use Rattle.snap_core.specs.Bounded.{IsHistoryBy}
use Rattle.snap_format.specs.Rows.{rows_of}
use Rattle.snap_follow.specs.Bytes.{AreAllLines, AreLinesOf}
use Rattle.snap_follow.specs.Followed.{AllSpell, IsStatusOf}
use Rattle.snap_follow.specs.Turns.{AreInTurn, Spells, events_of, places_of}
use Rattle.snap_follow.specs.Windows.{AreWindowsOf, Told, line_of, sums_text, views_of}
use Rattle.snap_follow.specs.declared.course.TheConstants.{RECORD_LIMIT}
use Rattle.snap_follow.specs.declared.form.Form.{Form}
use Rattle.snap_follow.specs.declared.form.Form.TheVariants.{Plain}
use Rattle.snap_follow.specs.declared.waiting.Turn.{Turn}
use Rattle.snap_follow.specs.declared.run.FollowOptions.{FollowOptions}
use Rattle.snap_follow.specs.declared.run.Followed.{Followed}
use Rattle.snap_follow.specs.declared.run.Until.{Until}
use Rattle.snap_follow.specs.declared.run.Until.TheVariants.{Ever, Idle, End}

-- the lines of the last text, and what is left out. That is nothing if the text is followed to its end, and otherwise a line without an
-- end
abbrev pub AreLastLines : Until → List ℕ → List (List ℕ) → List ℕ → Type 0
AreLastLines End bytes lines rest = AreAllLines bytes lines × (rest ≡ [])
AreLastLines Ever bytes lines rest = AreLinesOf bytes lines rest
AreLastLines (Idle seconds) bytes lines rest = AreLinesOf bytes lines rest

-- the lines of texts: all of each that is not the last
pub record AreCut (until : Until) (texts : List (List ℕ)) (earlier : List (List (List ℕ))) (last : List (List ℕ)) (rest : List ℕ) : Type 0 where
  pub before : List (List ℕ)
  pub text : List ℕ
  pub texts_are : texts ≡ before ++ text ∷ []
  pub whole : AllZip AreAllLines before earlier
  pub lines : AreLastLines until text last rest

-- the records of these lines spell the events, in their turn. A text after others may have no record so far
pub record AllSay (form : Form) (earlier : List (List (List ℕ))) (last : List (List ℕ)) (turns : List Turn) : Type 0 where
  pub before : List Turn
  pub here : List Turn
  pub parts : turns ≡ before ++ here
  pub texts_say : AllSpell form 0 earlier before
  pub last_says : Spells form (length earlier) (flat_map rows_of last) here ⊎ ((earlier ≢ []) × (flat_map rows_of last ≡ []) × (here ≡ []))
  pub in_turn : AreInTurn form turns

-- texts are a recording of these events, and a rest of them is left out or not. All texts have the same header
pub record IsRecording (until : Until) (texts : List (List ℕ)) (has_rest : Bool) (events : List Event) : Type 0 where
  pub earlier : List (List (List ℕ))
  pub last : List (List ℕ)
  pub rest : List ℕ
  pub cut : AreCut until texts earlier last rest
  pub form : Form
  pub turns : List Turn
  pub say : AllSay form earlier last turns
  pub said : events ≡ events_of turns
  pub left_out : IsTrue has_rest ↔ (rest ≢ [])

-- a line may be a record
abbrev pub IsShort : List ℕ → Type 0
IsShort line = length line ≤ RECORD_LIMIT

-- texts are a recording without stamps, of a history of at most as many events as a window may have, in lines that may be records
pub record CanBeFollowed (most : Limit) (until : Until) (texts : List (List ℕ)) : Type 0 where
  pub earlier : List (List (List ℕ))
  pub last : List (List ℕ)
  pub rest : List ℕ
  pub turns : List Turn
  pub cut : AreCut until texts earlier last rest
  pub say : AllSay Plain earlier last turns
  pub history : IsHistoryBy most.writers (events_of turns)
  pub few : length turns ≤ most.events
  pub short_before : All (All IsShort) earlier
  pub short : All IsShort last
  pub short_rest : IsShort rest

-- the exit status is that of the events of a recording, or 3 if it can't be followed
abbrev pub IsCodeOf : FollowOptions → List (List ℕ) → Bool → ℕ → Type 0
IsCodeOf asked texts has_rest code =
    ((events : List Event) × IsRecording asked.until texts has_rest events × IsStatusOf asked.most.writers events code) ⊎ ((code ≡ 3) × ¬ CanBeFollowed asked.most asked.until texts)

-- texts were followed, and all of them were there
abbrev pub AreFollowed : FollowOptions → List (List ℕ) → Followed → Type 0
AreFollowed asked texts followed = followed.lost ≡ None → IfSome followed.code (IsCodeOf asked texts followed.has_rest)

-- what was written of the events of a recording: a line for each of its windows, in their order, and then the sums. There is no exit
-- status exactly if the windows have too few completed views
pub record HasWritten (asked : FollowOptions) (texts : List (List ℕ)) (followed : Followed) (old new : Option (List ℕ)) : Type 0 where
  pub events : List Event
  pub recording : IsRecording asked.until texts followed.has_rest events
  pub told : List Told
  pub windows : AreWindowsOf asked.least asked.most (places_of recording.turns) events told
  pub wrote : Appends old new (flat_map line_of told ++ sums_text told)
  pub few : followed.code ≡ None ↔ views_of told < asked.views

-- texts were followed, all of them were there, and their windows were written, or they can't be followed
abbrev pub AreWritten : FollowOptions → List (List ℕ) → Followed → Option (List ℕ) → Option (List ℕ) → Type 0
AreWritten asked texts followed old new = followed.lost ≡ None → HasWritten asked texts followed old new ⊎ ((followed.code ≡ Some 3) × ¬ CanBeFollowed asked.most asked.until texts)
