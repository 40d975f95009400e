-- What is answered of whole texts.
use Rattle.std.proofs.Common.{◌≡◌, ◌≢◌, ◌⊎◌, ◌<◌, ◌++◌, ◌∙◌, ap, append_assoc, append-nil, length, ℕ, Bool, List, [], Option, Some, None, Result, Ok, Err, flat_map, subst, sym, refl, inl, inr}
use Rattle.std.specs.Prelude.{IfOk, IfSome, IsTrue, ◌↔◌}
use Rattle.snap_core.specs.declared.limit.Limit.{Limit}
use Rattle.snap_core.specs.declared.event.Event.{Event}
use Rattle.snap_format.specs.Rows.{rows_of}
use Rattle.std.specs.Io.KnownBytes.{Appends}
use Rattle.std.proofs.KnownBytes.{Appends-trans}
use Rattle.snap_follow.specs.declared.answers.Answers.{Answers}
use Rattle.snap_follow.specs.declared.course.Course.{Course}
use Rattle.snap_follow.specs.declared.follow.Follow.{Follow}
use Rattle.snap_follow.specs.declared.pieces.Stop.{Stop}
use Rattle.snap_follow.specs.declared.pieces.Stop.TheVariants.{Refused}
use Rattle.snap_follow.specs.declared.run.FollowOptions.{FollowOptions}
use Rattle.snap_follow.specs.declared.run.Followed.{Followed}
use Rattle.snap_follow.specs.declared.run.Until.{Until}
use Rattle.snap_follow.specs.declared.form.Form.{Form}
use Rattle.snap_follow.specs.declared.form.Form.TheVariants.{Plain, Stamped}
use Rattle.snap_follow.specs.declared.span.Place.{Place}
use Rattle.snap_follow.specs.declared.waiting.Turn.{Turn}
use Rattle.snap_follow.specs.Followed.{AreWaiting, HasRead, IsStatusOf, SaysSoFar}
use Rattle.snap_follow.specs.Turns.{AreInTurn, RiseFrom, Spells, stamps_of}
use Rattle.snap_follow.specs.Recordings.{AllSay, AreFollowed, AreWritten, CanBeFollowed, IsCodeOf, IsRecording}
use Rattle.snap_follow.specs.Windows.{AreWindowsOf, Told, sums_text}
use Rattle.snap_follow.specs.inside.Courses.{HasJudged}
use Rattle.snap_follow.specs.inside.Runs.{IsDone, OnRefusal}
use Rattle.snap_follow.specs.inside.Stops.{TellsRest}
use Rattle.snap_follow.specs.inside.Sums.{AreSums, HasToldAll}

-- what was read says the events, if nothing waits
in_turn : (form : Form) (f : Follow) (taken : List Turn) → f.waiting.turns.items ≡ [] → AreWaiting form f taken → AreInTurn form taken
in_turn Plain f taken none waits = tt
in_turn Stamped f taken none waits = subst (λ z. RiseFrom 0 (stamps_of z)) (ap (λ z. taken ++ z) none ∙ append-nil taken) waits.0

says_all : (f : Follow) {least : ℕ} {most : Limit} {earlier : List (List (List ℕ))} {last : List (List ℕ)} {events : List Event} → (h : HasRead f least most earlier last events) → f.waiting.turns.items ≡ [] → (earlier ≢ []) ⊎ (flat_map rows_of last ≢ []) → AllSay h.form earlier last (h.earlier ++ h.here)
says_all f {least} {most} {earlier} {last} {events} h nothing begun = record {
  before = h.earlier;
  here = h.here;
  parts = refl;
  texts_say = h.texts_say;
  last_says = go (subst (SaysSoFar f h.form (length earlier) last) (ap (λ z. h.here ++ z) nothing ∙ append-nil h.here) h.lines_say) begun;
  in_turn = in_turn h.form f (h.earlier ++ h.here) nothing h.waiting;
}
  where
    go : SaysSoFar f h.form (length earlier) last h.here → (earlier ≢ []) ⊎ (flat_map rows_of last ≢ []) → Spells h.form (length earlier) (flat_map rows_of last) h.here ⊎ ((earlier ≢ []) × (flat_map rows_of last ≡ []) × (h.here ≡ []))
    go (inl (unheaded, none, empty)) (inl some) = inr (some, none, empty)
    go (inl (unheaded, none, empty)) (inr some) = absurd (some none)
    go (inr (headed, spells)) some = inl spells

-- what is so of a value is so of an answer that is that value
pub if_same : {A : Type 0} (P : A → Type 0) (answer : Option A) (x : A) → IfSome answer (λ y. y ≡ x) → P x → IfSome answer P
if_same P None x same p = tt
if_same P (Some y) x same p = subst P (sym same) p

-- the status of one that was read
abbrev pub IsStatusBy : Course → ℕ → Type 0
IsStatusBy course code = (least : ℕ) (most : Limit) (texts : List (List (List ℕ))) (lines : List (List ℕ)) (events : List Event) → HasRead course.follow least most texts lines events → IsStatusOf most.writers events code

recording_of : (course : Course) (until : Until) (gone : List ℕ) (least : ℕ) (most : Limit) (all : List (List ℕ)) (has_rest : Bool) → (done : IsDone course until gone least most all) → (IsTrue has_rest ↔ (course.rest.items ≢ [])) → IsRecording until all has_rest done.events
recording_of course until gone least most all has_rest done rest = record {
  earlier = done.earlier;
  last = done.last;
  rest = course.rest.items;
  cut = done.cut;
  form = done.judged.read.form;
  turns = done.judged.read.earlier ++ done.judged.read.here;
  say = says_all course.follow done.judged.read done.none_waits done.begun;
  said = done.judged.read.said;
  left_out = rest;
}

code_by : (asked : FollowOptions) (course : Course) (gone : List ℕ) (all : List (List ℕ)) (has_rest : Bool) (code : Option ℕ) → IsDone course asked.until gone asked.least asked.most all → (IsTrue has_rest ↔ (course.rest.items ≢ [])) → IfSome code (IsStatusBy course) → IfSome code (IsCodeOf asked all has_rest)
code_by asked course gone all has_rest None done rest status = tt
code_by asked course gone all has_rest (Some code) done rest status = inl (
  done.events,
  recording_of course asked.until gone asked.least asked.most all has_rest done rest,
  status asked.least asked.most done.earlier done.last done.events done.judged.read,
)

-- all texts were taken
whole_by : (asked : FollowOptions) (left : Option (List (List ℕ))) (course : Course) (gone : List ℕ) (followed : Followed) → IfSome left (IsDone course asked.until gone asked.least asked.most) → (IsTrue followed.has_rest ↔ (course.rest.items ≢ [])) → IfSome followed.code (IsStatusBy course) →
    IfSome left (λ all. AreFollowed asked all followed)
whole_by asked None course gone followed done rest status = tt
whole_by asked (Some all) course gone followed done rest status = λ _. code_by asked course gone all followed.has_rest followed.code done rest status

pub whole_answer : {E : Type 0} (asked : FollowOptions) (left : Option (List (List ℕ))) (course : Course) (gone : List ℕ) (result : Result Followed E) → IfSome left (IsDone course asked.until gone asked.least asked.most) →
    IfOk result (λ followed. IsTrue followed.has_rest ↔ (course.rest.items ≢ [])) → IfOk result (λ followed. IfSome followed.code (IsStatusBy course)) → IfOk result (λ followed. IfSome left (λ all. AreFollowed asked all followed))
whole_answer asked left course gone (Ok followed) done rest status = whole_by asked left course gone followed done rest status
whole_answer asked left course gone (Err e) done rest status = tt

-- the lines of all windows were written, and the sums
abbrev pub TellsAfter : Course → ℕ → Option ℕ → Option (List ℕ) → Option (List ℕ) → Type 0
TellsAfter course views code old new = (gone : List ℕ) (least : ℕ) (most : Limit) (texts : List (List (List ℕ))) (lines : List (List ℕ)) (events : List Event) (h : HasJudged course.follow course.answers gone least most texts lines events) → TellsRest old new gone least most h.read.places events views code

written_by : (asked : FollowOptions) (left : Option (List (List ℕ))) (course : Course) (gone : List ℕ) (followed : Followed) (old mid new : Option (List ℕ)) → Appends old mid gone → IfSome left (IsDone course asked.until gone asked.least asked.most) →
    (IsTrue followed.has_rest ↔ (course.rest.items ≢ [])) → TellsAfter course asked.views followed.code mid new → IfSome left (λ all. AreWritten asked all followed old new)
unfolding recording_of
written_by asked None course gone followed old mid new sent done rest tells = tt
written_by asked (Some all) course gone followed old mid new sent done rest tells = λ _.
    let last = tells gone asked.least asked.most done.earlier done.last done.events done.judged in
    inl (record {
      events = done.events;
      recording = recording_of course asked.until gone asked.least asked.most all followed.has_rest done rest;
      told = last.told;
      windows = subst (λ z. AreWindowsOf asked.least asked.most z done.events last.told) done.judged.read.places_are last.windows;
      wrote = subst (Appends old new) last.all (Appends-trans old mid new gone last.out sent last.sent);
      few = last.few;
    })

pub written_answer : {E : Type 0} (asked : FollowOptions) (left : Option (List (List ℕ))) (course : Course) (gone : List ℕ) (result : Result Followed E) (old mid new : Option (List ℕ)) → Appends old mid gone → IfSome left (IsDone course asked.until gone asked.least asked.most) →
    IfOk result (λ followed. IsTrue followed.has_rest ↔ (course.rest.items ≢ [])) → IfOk result (λ followed. TellsAfter course asked.views followed.code mid new) → IfOk result (λ followed. IfSome left (λ all. AreWritten asked all followed old new))
written_answer asked left course gone (Ok followed) old mid new sent done rest tells = written_by asked left course gone followed old mid new sent done rest tells
written_answer asked left course gone (Err e) old mid new sent done rest tells = tt

-- a line was refused
refused_code : (asked : FollowOptions) (all : List (List ℕ)) (has_rest : Bool) (code : Option ℕ) → (CanBeFollowed asked.most asked.until all → ⊥) → code ≡ Some 3 → IfSome code (IsCodeOf asked all has_rest)
refused_code asked all has_rest code cant is = subst (λ z. IfSome z (IsCodeOf asked all has_rest)) (sym is) (inr (refl, cant))

refused_by : (asked : FollowOptions) (left : Option (List (List ℕ))) (stop : Stop) (followed : Followed) → OnRefusal stop (IfSome left (λ all. ¬ CanBeFollowed asked.most asked.until all)) →
    (followed.lost ≡ None → (stop ≡ Refused) × (followed.code ≡ Some 3)) → IfSome left (λ all. AreFollowed asked all followed)
refused_by asked None stop followed stops is = tt
refused_by asked (Some all) stop followed stops is = λ lost. refused_code asked all followed.has_rest followed.code (subst (λ z. OnRefusal z (¬ CanBeFollowed asked.most asked.until all)) (is lost).0 stops) (is lost).1

pub refused_answer : {E : Type 0} (asked : FollowOptions) (left : Option (List (List ℕ))) (stop : Stop) (result : Result Followed E) → OnRefusal stop (IfSome left (λ all. ¬ CanBeFollowed asked.most asked.until all)) →
    IfOk result (λ followed. followed.lost ≡ None → (stop ≡ Refused) × (followed.code ≡ Some 3)) → IfOk result (λ followed. IfSome left (λ all. AreFollowed asked all followed))
refused_answer asked left stop (Ok followed) stops is = refused_by asked left stop followed stops is
refused_answer asked left stop (Err e) stops is = tt

unwritten_by : (asked : FollowOptions) (left : Option (List (List ℕ))) (stop : Stop) (followed : Followed) (old new : Option (List ℕ)) → OnRefusal stop (IfSome left (λ all. ¬ CanBeFollowed asked.most asked.until all)) →
    (followed.lost ≡ None → (stop ≡ Refused) × (followed.code ≡ Some 3)) → IfSome left (λ all. AreWritten asked all followed old new)
unwritten_by asked None stop followed old new stops is = tt
unwritten_by asked (Some all) stop followed old new stops is = λ lost. inr ((is lost).1, subst (λ z. OnRefusal z (¬ CanBeFollowed asked.most asked.until all)) (is lost).0 stops)

pub unwritten_answer : {E : Type 0} (asked : FollowOptions) (left : Option (List (List ℕ))) (stop : Stop) (result : Result Followed E) (old new : Option (List ℕ)) → OnRefusal stop (IfSome left (λ all. ¬ CanBeFollowed asked.most asked.until all)) →
    IfOk result (λ followed. followed.lost ≡ None → (stop ≡ Refused) × (followed.code ≡ Some 3)) → IfOk result (λ followed. IfSome left (λ all. AreWritten asked all followed old new))
unwritten_answer asked left stop (Ok followed) old new stops is = unwritten_by asked left stop followed old new stops is
unwritten_answer asked left stop (Err e) old new stops is = tt

-- what was to be written, and the sums
pub rest_told : (answers : Answers) (old new : Option (List ℕ)) (gone : List ℕ) (least : ℕ) (most : Limit) (places : List Place) (events : List Event) (views : ℕ) (code : Option ℕ) → HasToldAll answers gone least most places events →
    ((told : List Told) → AreSums told answers.sums → Appends old new (answers.lines ++ sums_text told)) → (code ≡ None ↔ answers.sums.views < views) → TellsRest old new gone least most places events views code
rest_told answers old new gone least most places events views code h wrote few = record {
  told = h.told;
  windows = h.windows;
  out = answers.lines ++ sums_text h.told;
  sent = wrote h.told h.answered.sums_are;
  all = sym (append_assoc gone answers.lines (sums_text h.told)) ∙ ap (λ z. z ++ sums_text h.told) h.answered.written;
  few = subst (λ z. code ≡ None ↔ z < views) h.answered.sums_are.views_are few;
}
