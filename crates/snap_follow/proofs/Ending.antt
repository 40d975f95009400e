-- How the run of a recording ends.
use Rattle.std.proofs.Common.{◌≡◌, ◌≢◌, ◌<◌, ◌∙◌, ℕ, true, false, List, [], Option, Some, None, Result, Ok, Err, take, subst, sym, refl, arith}
use Rattle.std.specs.Prelude.{IfErr, IfSome, IsSome, OnOk}
use Rattle.std.specs.Result.{IsErrAnd}
use Rattle.std.specs.Io.KnownBytes.{Consumes}
use Rattle.std.proofs.lemmas.Bool.{false≢true}
use Rattle.snap_core.specs.declared.limit.Limit.{Limit}
use Rattle.snap_follow.specs.declared.course.Course.{Course}
use Rattle.snap_follow.specs.declared.pieces.AtHand.{AtHand}
use Rattle.snap_follow.specs.declared.pieces.Stop.{Stop}
use Rattle.snap_follow.specs.declared.pieces.Stop.TheVariants.{Refused, Lost, Fault}
use Rattle.snap_follow.specs.declared.run.Until.{Until}
use Rattle.snap_follow.specs.Recordings.{CanBeFollowed}
use Rattle.snap_follow.specs.inside.Courses.{HasFollowed, StopsIn, StopsLast}
use Rattle.snap_follow.specs.inside.Runs.{EndsAll, HasCome, IsDone, IsReadOut, IsUnderWay, OnRefusal, ReadsText, StopsEnd}
use Rattle.snap_follow.proofs.Running.{all_done, left_behind, nothing_left}
use Rattle.snap_follow.proofs.Stopping.{end_stops, last_stops, piece_stops}

-- what is so of a refusal says something else of it
pub on_refusal : (stop : Stop) (P Q : Type 0) → (P → Q) → OnRefusal stop P → OnRefusal stop Q
on_refusal Refused P Q f h = f h
on_refusal (Lost lost) P Q f h = tt
on_refusal (Fault fault) P Q f h = tt

-- an error that is passed on
pub passed_on : {X : Type 0} (r : Result X Stop) (stop : Stop) (P : Stop → Type 0) → IsErrAnd r (λ e. e ≡ stop) → P stop → IfErr r P
passed_on (Ok x) stop P is h = tt
passed_on (Err e) stop P is h = subst P (sym is) h

pub if_err_then : {X : Type 0} (r : Result X Stop) (P Q : Stop → Type 0) → IfErr r P → ((e : Stop) → P e → Q e) → IfErr r Q
if_err_then (Ok x) P Q p f = tt
if_err_then (Err e) P Q p f = f e p

pub on_ok_then : {X E : Type 0} (r : Result X E) (A B : Type 0) → OnOk r A → (A → B) → OnOk r B
on_ok_then (Ok x) A B a f = f a
on_ok_then (Err e) A B a f = tt

-- a piece has stopped the recording
come_stopped : {R : Type 0} (remaining : R → Option (List ℕ)) (c : Course) (old new : Option R) (n : ℕ) (piece : List ℕ) (later : List (List ℕ)) (gone : List ℕ) (least : ℕ) (most : Limit) (until : Until) (all : List (List ℕ)) →
    ReadsText remaining old new n piece → 0 < n → StopsIn c (take n piece) → HasCome remaining c old later gone least most all → CanBeFollowed most until all → ⊥
come_stopped remaining c None new n piece later gone least most until all reads some stops h can = omega (arith, reads.0, some)
come_stopped remaining c (Some t) None n piece later gone least most until all reads some stops h can = reads
come_stopped remaining c (Some t) (Some u) n piece later gone least most until all reads some stops h can =
    let left = left_behind (remaining u) h.0 (take n piece) (subst (λ z. Consumes z (remaining u) (take n piece)) h.1 reads.0) in
    piece_stops c (take n piece) left.0 h.0 later gone least most until all left.2 stops h.2 can

pub stopped_by_piece : {R : Type 0} (remaining : R → Option (List ℕ)) (c : Course) (old new : AtHand R) (left : Option (List (List ℕ))) (n : ℕ) (piece : List ℕ) (until : Until) →
    ReadsText remaining old.text new.text n piece → 0 < n → StopsIn c (take n piece) → (gone : List ℕ) (least : ℕ) (most : Limit) (all : List (List ℕ)) → IsUnderWay remaining c old left gone least most all → CanBeFollowed most until all → ⊥
stopped_by_piece remaining c old new left n piece until reads some stops gone least most all h = come_stopped remaining c old.text new.text n piece h.later gone least most until all reads some stops h.come

-- the end of a text has, though another one comes after it
ended_stopped : {R : Type 0} (remaining : R → Option (List ℕ)) (c : Course) (text : Option R) (later : List (List ℕ)) (gone : List ℕ) (least : ℕ) (most : Limit) (until : Until) (all : List (List ℕ)) →
    IsReadOut remaining text → IsSome text → later ≢ [] → StopsLast c → HasCome remaining c text later gone least most all → CanBeFollowed most until all → ⊥
ended_stopped remaining c None later gone least most until all out some more stops h can = false≢true some
ended_stopped remaining c (Some t) later gone least most until all out some more stops h can = end_stops c h.0 later gone least most until all (nothing_left (remaining t) h.0 h.1 out) more stops h.2 can

pub stopped_by_text : {R : Type 0} (remaining : R → Option (List ℕ)) (c : Course) (hand : AtHand R) (left : Option (List (List ℕ))) (until : Until) →
    IsReadOut remaining hand.text → (hand.has_next ≡ true) × IsSome hand.text × StopsLast c → (gone : List ℕ) (least : ℕ) (most : Limit) (all : List (List ℕ)) → IsUnderWay remaining c hand left gone least most all → CanBeFollowed most until all → ⊥
stopped_by_text remaining c hand left until out stops gone least most all h = ended_stopped remaining c hand.text h.later gone least most until all out stops.1 (h.next stops.0) stops.2 h.come

-- the end of the last text has
last_stopped : {R : Type 0} (remaining : R → Option (List ℕ)) (c : Course) (text : Option R) (later : List (List ℕ)) (gone : List ℕ) (least : ℕ) (most : Limit) (until : Until) (all : List (List ℕ)) →
    IsReadOut remaining text → IsSome text → later ≡ [] → StopsEnd until c → HasCome remaining c text later gone least most all → CanBeFollowed most until all → ⊥
last_stopped remaining c None later gone least most until all out some last stops h can = false≢true some
last_stopped remaining c (Some t) later gone least most until all out some last stops h can = last_stops c h.0 later gone least most until all (nothing_left (remaining t) h.0 h.1 out) last stops h.2 can

pub stopped_by_end : {R : Type 0} (remaining : R → Option (List ℕ)) (c : Course) (hand : AtHand R) (left : Option (List (List ℕ))) (until : Until) →
    IsReadOut remaining hand.text → IfSome left (λ later. later ≡ []) → IsSome hand.text × StopsEnd until c → (gone : List ℕ) (least : ℕ) (most : Limit) (all : List (List ℕ)) → IsUnderWay remaining c hand left gone least most all → CanBeFollowed most until all → ⊥
stopped_by_end remaining c hand left until out none stops gone least most all h =
    last_stopped remaining c hand.text h.later gone least most until all out stops.0 (subst (λ z. IfSome z (λ later. later ≡ [])) h.left_is none) stops.1 h.come

-- nothing comes any more
abbrev pub IsOver : {R : Type 0} → Option (List (List ℕ)) → Course → Course → AtHand R → AtHand R → Type 0
IsOver left c d hand new = IfSome left (λ later. later ≡ []) × (d ≡ c) × (new ≡ hand)

pub done_at_end : {R : Type 0} (remaining : R → Option (List ℕ)) (c d e : Course) (hand new : AtHand R) (left : Option (List (List ℕ))) (until : Until) →
    IsOver left c d hand new → IsReadOut remaining hand.text → IsSome new.text × EndsAll until d e → (gone : List ℕ) (least : ℕ) (most : Limit) (all : List (List ℕ)) → IsUnderWay remaining c hand left gone least most all → IsDone e until gone least most all
done_at_end remaining c d e hand new left until over out ends gone least most all h =
    all_done remaining c e hand left until gone least most all over.0 out (subst (λ z. IsSome z.text) over.2 ends.0) (subst (λ z. EndsAll until z e) over.1 ends.1) h

pub stopped_at_end : {R : Type 0} (remaining : R → Option (List ℕ)) (c d : Course) (hand new : AtHand R) (left : Option (List (List ℕ))) (until : Until) →
    IsOver left c d hand new → IsReadOut remaining hand.text → IsSome new.text × StopsEnd until d → (gone : List ℕ) (least : ℕ) (most : Limit) (all : List (List ℕ)) → IsUnderWay remaining c hand left gone least most all → CanBeFollowed most until all → ⊥
stopped_at_end remaining c d hand new left until over out stops gone least most all h =
    stopped_by_end remaining c hand left until out over.0 (subst (λ z. IsSome z.text) over.2 stops.0, subst (λ z. StopsEnd until z) over.1 stops.1) gone least most all h

-- all texts are still to come
all_to_come : {R : Type 0} (remaining : R → Option (List ℕ)) (c : Course) (hand : AtHand R) (all : List (List ℕ)) (gone : List ℕ) (least : ℕ) (most : Limit) → hand.text ≡ None → hand.has_next ≡ false → HasFollowed c gone least most [] [] [] → IsUnderWay remaining c hand (Some all) gone least most all
all_to_come remaining c hand all gone least most none first h = record {
  later = all;
  left_is = refl;
  next = λ found. absurd (false≢true (sym first ∙ found));
  come = subst (λ z. HasCome remaining c z all gone least most all) (sym none) (refl, h);
}

pub from_the_begin : {R : Type 0} (remaining : R → Option (List ℕ)) (c : Course) (hand : AtHand R) (left : Option (List (List ℕ))) (gone : List ℕ) (least : ℕ) (most : Limit) (P : List (List ℕ) → Type 0) → hand.text ≡ None → hand.has_next ≡ false → HasFollowed c gone least most [] [] [] →
    ((all : List (List ℕ)) → IsUnderWay remaining c hand left gone least most all → P all) → IfSome left P
from_the_begin remaining c hand None gone least most P none first h f = tt
from_the_begin remaining c hand (Some all) gone least most P none first h f = f all (all_to_come remaining c hand all gone least most none first h)
