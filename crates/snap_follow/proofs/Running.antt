-- What the run of a recording has taken, step by step.
use Rattle.std.proofs.Common.{◌≡◌, ◌≢◌, ◌<◌, ◌⊎◌, ◌++◌, ◌∙◌, ℕ, Bool, true, false, List, [], ◌∷◌, Option, Some, None, length, take, append_assoc, append-nil, ap, subst, sym, refl, inl, inr, arith}
use Rattle.std.specs.Prelude.{IfSome, IsSome, IsTrue, ◌↔◌}
use Rattle.std.specs.List.{AllZip}
use Rattle.std.proofs.lemmas.Bool.{false≢true}
use Rattle.std.specs.Io.KnownBytes.{Consumes, IsAtEnd}
use Rattle.snap_core.specs.declared.limit.Limit.{Limit}
use Rattle.snap_core.specs.declared.event.Event.{Event}
use Rattle.snap_core.specs.Counting.{inner_of}
use Rattle.snap_core.specs.declared.counted.Counted.{Counted}
use Rattle.std.proofs.KnownBytes.{Appends-trans}
use Rattle.snap_follow.specs.declared.answers.Answers.{Answers}
use Rattle.snap_follow.specs.declared.course.Course.{Course}
use Rattle.snap_follow.specs.declared.follow.Follow.{Follow}
use Rattle.snap_follow.specs.declared.span.Place.{Place}
use Rattle.snap_follow.specs.declared.pieces.AtHand.{AtHand}
use Rattle.snap_follow.specs.declared.run.Until.{Until}
use Rattle.snap_follow.specs.declared.run.Until.TheVariants.{Ever, Idle, End}
use Rattle.snap_follow.specs.Bytes.{AreAllLines, AreLinesOf}
use Rattle.snap_follow.specs.Followed.{StopsAt}
use Rattle.snap_follow.specs.Windows.{Told}
use Rattle.snap_follow.specs.Written.{HasSent}
use Rattle.snap_follow.specs.Recordings.{AreLastLines}
use Rattle.snap_follow.specs.Texts.{Comes}
use Rattle.snap_follow.specs.inside.Courses.{EndsBytes, HasFollowed, HasJudged, HasNoneSoFar, HasWaiting, IsBegun, TakesBytes, TakesBytesFor, TakesLast, TakesMore}
use Rattle.snap_follow.specs.inside.Runs.{EndsAll, EndsAtHand, EndsLast, GoesOnFor, GoesOnFrom, HasBegun, HasCome, HasNoneAtAll, HasStampsAtEnd, IsDone, IsReadOut, IsTellingFrom, IsUnderWay, ReadsText, StopsInRest}
use Rattle.snap_follow.specs.inside.Sums.{AreSums, HasAnswered, HasTold, WritesLines}
use Rattle.snap_follow.proofs.Sending.{both_whole, nothing_sent}
use Rattle.snap_follow.proofs.Taking.{judged_as, waits_stamped}

-- the same lines are still to be written, after the same sums
abbrev pub IsSameAnswer : Answers → Answers → Type 0
IsSameAnswer a b = (b.lines ≡ a.lines) × (b.sums ≡ a.sums)

answered_still : (a b : Answers) (gone : List ℕ) (told : List Told) → IsSameAnswer a b → HasAnswered a gone told → HasAnswered b gone told
answered_still a b gone told same h = record {
  written = ap (λ z. gone ++ z) same.0 ∙ h.written;
  sums_are = subst (AreSums told) (sym same.1) h.sums_are;
}

-- what was told with some answers is told with others that have the same
told_by : (a b : Answers) (gone all : List ℕ) (least : ℕ) (most : Limit) (places : List Place) (before : List Event) → ((told : List Told) → HasAnswered a gone told → HasAnswered b all told) → HasTold a gone least most places before → HasTold b all least most places before
told_by a b gone all least most places before f h = record { told = h.told; answered = f h.told h.answered; all = h.all; each = h.each; ended = h.ended }

judged_by : (f : Follow) (a b : Answers) (gone all : List ℕ) {least : ℕ} {most : Limit} {texts : List (List (List ℕ))} {lines : List (List ℕ)} {events : List Event} → ((told : List Told) → HasAnswered a gone told → HasAnswered b all told) →
    HasJudged f a gone least most texts lines events → HasJudged f b all least most texts lines events
judged_by f a b gone all {least} {most} {texts} {lines} {events} keeps h = record { read = h.read; in_time = h.in_time; first = h.first; told = told_by a b gone all least most h.read.places h.read.before keeps h.told }

judged_still : (f : Follow) (a b : Answers) {gone : List ℕ} {least : ℕ} {most : Limit} {texts : List (List (List ℕ))} {lines : List (List ℕ)} {events : List Event} → IsSameAnswer a b → HasJudged f a gone least most texts lines events → HasJudged f b gone least most texts lines events
judged_still f a b {gone} {least} {most} {texts} {lines} {events} same h = judged_by f a b gone gone (λ told. answered_still a b gone told same) h

-- what was followed by one course, another one with the same rest has followed
followed_as : (c d : Course) {gone : List ℕ} {least : ℕ} {most : Limit} {texts : List (List (List ℕ))} {bytes : List ℕ} {events : List Event} → d.rest ≡ c.rest → d.follow ≡ c.follow → IsSameAnswer c.answers d.answers → HasFollowed c gone least most texts bytes events → HasFollowed d gone least most texts bytes events
followed_as c d {gone} {least} {most} {texts} {bytes} {events} rest follow same h = record {
  lines = h.lines;
  cut = subst (λ z. AreLinesOf bytes h.lines z.items) (sym rest) h.cut;
  read = subst (λ z. HasJudged z d.answers gone least most texts h.lines events) (sym follow) (judged_still c.follow c.answers d.answers same h.read);
}

-- pairs, and one more after them
zip_more : {A B : Type 0} (R : A → B → Type 0) (xs : List A) (ys : List B) (x : A) (y : B) → AllZip R xs ys → R x y → AllZip R (xs ++ x ∷ []) (ys ++ y ∷ [])
zip_more R [] [] x y all one = (one, tt)
zip_more R [] (b ∷ ys) x y all one = absurd all
zip_more R (a ∷ xs) [] x y all one = absurd all
zip_more R (a ∷ xs) (b ∷ ys) x y all one = (all.0, zip_more R xs ys x y all.1 one)

-- what is left once some bytes of it were read
pub left_behind : (known : Option (List ℕ)) (rest bytes : List ℕ) → Consumes (Some rest) known bytes → (later : List ℕ) × (known ≡ Some later) × (rest ≡ bytes ++ later)
left_behind None rest bytes h = absurd h
left_behind (Some later) rest bytes h = (later, refl, h)

-- the text at hand has given some bytes, and a course has taken them
begun_more : (c d : Course) (out rest piece later_rest : List ℕ) (later : List (List ℕ)) (gone : List ℕ) (least : ℕ) (most : Limit) (all : List (List ℕ)) → rest ≡ piece ++ later_rest → TakesBytesFor out c d piece → HasBegun c rest later gone least most all → HasBegun d later_rest later (gone ++ out) least most all
begun_more c d out rest piece later_rest later gone least most all parts takes h =
    let more = takes gone least most h.lines h.bytes h.events h.followed in
    record {
      done = h.done;
      bytes = h.bytes ++ piece;
      texts_are = h.texts_are ∙ ap (λ z. h.done ++ z ∷ later) (ap (λ z. h.bytes ++ z) parts ∙ sym (append_assoc h.bytes piece later_rest));
      lines = h.lines;
      whole = h.whole;
      events = h.events ++ more.0;
      followed = more.1;
    }

come_more : {R : Type 0} (remaining : R → Option (List ℕ)) (out : List ℕ) (c d : Course) (old new : Option R) (n : ℕ) (piece : List ℕ) (later : List (List ℕ)) (gone : List ℕ) (least : ℕ) (most : Limit) (all : List (List ℕ)) →
    ReadsText remaining old new n piece → 0 < n → TakesBytesFor out c d (take n piece) → HasCome remaining c old later gone least most all → HasCome remaining d new later (gone ++ out) least most all
come_more remaining out c d None new n piece later gone least most all reads some takes h = absurd (omega (arith, reads.0, some))
come_more remaining out c d (Some t) None n piece later gone least most all reads some takes h = absurd reads
come_more remaining out c d (Some t) (Some u) n piece later gone least most all reads some takes h =
    let left = left_behind (remaining u) h.0 (take n piece) (subst (λ z. Consumes z (remaining u) (take n piece)) h.1 reads.0) in
    (left.0, left.1, begun_more c d out h.0 (take n piece) left.0 later gone least most all left.2 takes h.2)

-- some bytes were read and taken
pub goes_on_by_piece : {R : Type 0} (remaining : R → Option (List ℕ)) (out : List ℕ) (c d : Course) (old new : AtHand R) (left : Option (List (List ℕ))) (n : ℕ) (piece : List ℕ) →
    ReadsText remaining old.text new.text n piece → new.has_next ≡ old.has_next → 0 < n → TakesBytesFor out c d (take n piece) → GoesOnFor out remaining c old left d new left
goes_on_by_piece remaining out c d old new left n piece reads next some takes gone least most all h = record {
  later = h.later;
  left_is = h.left_is;
  next = λ is. h.next (sym next ∙ is);
  come = come_more remaining out c d old.text new.text n piece h.later gone least most all reads some takes h.come;
}

-- nothing came, since the text at hand is at its end
come_same : {R : Type 0} (remaining : R → Option (List ℕ)) (c : Course) (old new : Option R) (n : ℕ) (piece : List ℕ) (later : List (List ℕ)) (gone : List ℕ) (least : ℕ) (most : Limit) (all : List (List ℕ)) →
    ReadsText remaining old new n piece → n ≡ 0 → HasCome remaining c old later gone least most all → HasCome remaining c new later gone least most all
come_same remaining c None new n piece later gone least most all reads none h = subst (λ z. HasCome remaining c z later gone least most all) (sym reads.1) h
come_same remaining c (Some t) None n piece later gone least most all reads none h = absurd reads
come_same remaining c (Some t) (Some u) n piece later gone least most all reads none h =
    let left = left_behind (remaining u) h.0 (take n piece) (subst (λ z. Consumes z (remaining u) (take n piece)) h.1 reads.0) in
    (left.0, left.1, subst (λ z. HasBegun c z later gone least most all) (left.2 ∙ ap (λ z. take z piece ++ left.0) none) h.2)

pub goes_on_by_nothing : {R : Type 0} (remaining : R → Option (List ℕ)) (c : Course) (old new : AtHand R) (left : Option (List (List ℕ))) (n : ℕ) (piece : List ℕ) →
    ReadsText remaining old.text new.text n piece → new.has_next ≡ old.has_next → n ≡ 0 → GoesOnFrom remaining c old left c new left
goes_on_by_nothing remaining c old new left n piece reads next none gone least most all h = record {
  later = h.later;
  left_is = h.left_is;
  next = λ is. h.next (sym next ∙ is);
  come = come_same remaining c old.text new.text n piece h.later gone least most all reads none h.come;
}

pub read_out : {R : Type 0} (remaining : R → Option (List ℕ)) (old new : Option R) (n : ℕ) (piece : List ℕ) → ReadsText remaining old new n piece → n ≡ 0 → 0 < length piece → IsReadOut remaining new
read_out remaining None new n piece reads none room = subst (IsReadOut remaining) (sym reads.1) tt
read_out remaining (Some t) None n piece reads none room = absurd reads
read_out remaining (Some t) (Some u) n piece reads none room = reads.1 none room

-- one step, and then another
pub goes_on_both : {R : Type 0} (remaining : R → Option (List ℕ)) (a b c : Course) (f g h : AtHand R) (x y z : Option (List (List ℕ))) → GoesOnFrom remaining a f x b g y → GoesOnFrom remaining b g y c h z → GoesOnFrom remaining a f x c h z
goes_on_both remaining a b c f g h x y z first second gone least most all u = second gone least most all (first gone least most all u)

-- the text at hand is at its end: it is whole
pub nothing_left : (known : Option (List ℕ)) (rest : List ℕ) → known ≡ Some rest → IsAtEnd known → rest ≡ []
nothing_left known rest is end = subst IsAtEnd is end

text_is : (a b rest : List ℕ) → rest ≡ [] → a ≡ b ++ rest → b ≡ a
text_is a b rest none whole = sym (whole ∙ ap (λ z. b ++ z) none ∙ append-nil b)

-- the next text comes to hand
next_begun : (c d : Course) (bytes : List ℕ) (rest : List ℕ) (text : List ℕ) (later : List (List ℕ)) (gone : List ℕ) (least : ℕ) (most : Limit) (all : List (List ℕ)) → rest ≡ [] → EndsBytes c d → HasBegun c rest (text ∷ later) gone least most all → HasBegun d text later gone least most all
next_begun c d bytes rest text later gone least most all none ends h =
    let next = ends gone least most h.lines h.bytes h.events h.followed in
    record {
      done = h.done ++ h.bytes ∷ [];
      bytes = [];
      texts_are = h.texts_are ∙ ap (λ z. h.done ++ z ∷ (text ∷ later)) (ap (λ z. h.bytes ++ z) none ∙ append-nil h.bytes) ∙ sym (append_assoc h.done (h.bytes ∷ []) (text ∷ later));
      lines = h.lines ++ next.0 ∷ [];
      whole = zip_more AreAllLines h.done h.lines h.bytes next.0 h.whole next.2;
      events = h.events ++ next.1;
      followed = next.3;
    }

come_next : {R : Type 0} (remaining : R → Option (List ℕ)) (c d : Course) (old : Option R) (new : R) (text : List ℕ) (later : List (List ℕ)) (gone : List ℕ) (least : ℕ) (most : Limit) (all : List (List ℕ)) →
    IsReadOut remaining old → EndsAtHand old c d → remaining new ≡ Some text → HasCome remaining c old (text ∷ later) gone least most all → HasCome remaining d (Some new) later gone least most all
come_next remaining c d None new text later gone least most all out ends known h = (
  text,
  known,
  record {
    done = [];
    bytes = [];
    texts_are = sym h.0;
    lines = [];
    whole = tt;
    events = [];
    followed = subst (λ z. HasFollowed z gone least most [] [] []) (sym ends) h.1;
  },
)
come_next remaining c d (Some t) new text later gone least most all out ends known h = (text, known, next_begun c d [] h.0 text later gone least most all (nothing_left (remaining t) h.0 h.1 out) ends h.2)

come_as : {R : Type 0} (remaining : R → Option (List ℕ)) (c d : Course) (text : Option R) (later : List (List ℕ)) (gone : List ℕ) (least : ℕ) (most : Limit) (all : List (List ℕ)) → d.rest ≡ c.rest → d.follow ≡ c.follow → IsSameAnswer c.answers d.answers → HasCome remaining c text later gone least most all → HasCome remaining d text later gone least most all
come_as remaining c d None later gone least most all rest follow same h = (h.0, followed_as c d rest follow same h.1)
come_as remaining c d (Some t) later gone least most all rest follow same h = (
  h.0,
  h.1,
  record {
    done = h.2.done;
    bytes = h.2.bytes;
    texts_are = h.2.texts_are;
    lines = h.2.lines;
    whole = h.2.whole;
    events = h.2.events;
    followed = followed_as c d rest follow same h.2.followed;
  },
)

-- the first of the texts that were left
first_left : (left new : Option (List (List ℕ))) (later : List (List ℕ)) (text : Option (List ℕ)) → left ≡ Some later → Comes left new text → (bytes : List ℕ) × (others : List (List ℕ)) × (later ≡ bytes ∷ others) × (text ≡ Some bytes) × (new ≡ Some others)
first_left left new [] text is comes = absurd (subst (λ z. Comes z new text) is comes)
first_left left new (bytes ∷ others) text is comes = let both = subst (λ z. Comes z new text) is comes in (bytes, others, refl, both.0, both.1)

not_next : (b : Bool) (P : Type 0) → b ≡ false → b ≡ true → P
not_next b P none is = absurd (false≢true (sym none ∙ is))

pub goes_on_by_text : {R : Type 0} (remaining : R → Option (List ℕ)) (c d e : Course) (old new : AtHand R) (left new_left : Option (List (List ℕ))) (text : R) →
    IsReadOut remaining old.text → EndsAtHand old.text c d → Comes left new_left (remaining text) → new.text ≡ Some text → new.has_next ≡ false → e.rest ≡ d.rest → e.follow ≡ d.follow → IsSameAnswer d.answers e.answers → GoesOnFrom remaining c old left e new new_left
goes_on_by_text remaining c d e old new left new_left text out ends comes is none rest follow same gone least most all h =
    let first = first_left left new_left h.later (remaining text) h.left_is comes in
    record {
      later = first.1;
      left_is = first.4;
      next = not_next new.has_next (first.1 ≢ []) none;
      come = subst (λ z. HasCome remaining e z first.1 gone least most all) (sym is) (come_as remaining d e (Some text) first.1 gone least most all rest follow same
          (come_next remaining c d old.text text first.0 first.1 gone least most all out ends first.3 (subst (λ z. HasCome remaining c old.text z gone least most all) first.2 h.come)));
    }

-- no text was left, though one was found
pub no_next : {R : Type 0} (remaining : R → Option (List ℕ)) (c d : Course) (old new : AtHand R) (left new_left : Option (List (List ℕ))) → old.has_next ≡ true → IfSome left (λ texts. texts ≡ []) → GoesOnFrom remaining c old left d new new_left
no_next remaining c d old new left new_left next none gone least most all h = absurd (h.next next (subst (λ z. IfSome z (λ texts. texts ≡ [])) h.left_is none))

-- another text was found
pub goes_on_by_find : {R : Type 0} (remaining : R → Option (List ℕ)) (c : Course) (old new : AtHand R) (left : Option (List (List ℕ))) → new.text ≡ old.text → IfSome left (λ texts. texts ≢ []) → GoesOnFrom remaining c old left c new left
goes_on_by_find remaining c old new left same some gone least most all h = record {
  later = h.later;
  left_is = h.left_is;
  next = λ _. subst (λ z. IfSome z (λ texts. texts ≢ [])) h.left_is some;
  come = subst (λ z. HasCome remaining c z h.later gone least most all) (sym same) h.come;
}

-- texts were looked for
pub goes_on_by_look : {R : Type 0} (remaining : R → Option (List ℕ)) (c : Course) (hand : AtHand R) (left new : Option (List (List ℕ))) → IfSome left (λ texts. new ≡ Some texts) → GoesOnFrom remaining c hand left c hand new
goes_on_by_look remaining c hand left new same gone least most all h = record {
  later = h.later;
  left_is = subst (λ z. IfSome z (λ texts. new ≡ Some texts)) h.left_is same;
  next = h.next;
  come = h.come;
}

pub goes_on_still : {R : Type 0} (remaining : R → Option (List ℕ)) (c : Course) (hand : AtHand R) (left : Option (List (List ℕ))) → GoesOnFrom remaining c hand left c hand left
goes_on_still remaining c hand left gone least most all h = h

-- all texts have come
done_by : {R : Type 0} (remaining : R → Option (List ℕ)) (c d : Course) (text : Option R) (until : Until) (later : List (List ℕ)) (gone : List ℕ) (least : ℕ) (most : Limit) (all : List (List ℕ)) →
    later ≡ [] → IsReadOut remaining text → IsSome text → EndsAll until c d → HasCome remaining c text later gone least most all → IsDone d until gone least most all
done_by remaining c d None until later gone least most all none out some ends h = absurd (false≢true some)
done_by remaining c d (Some t) until later gone least most all none out some ends h =
    let begun = h.2 in
    let last = ends gone least most begun.lines begun.bytes begun.events begun.followed in
    record {
      earlier = begun.lines;
      last = last.0;
      cut = record {
        before = begun.done;
        text = begun.bytes;
        texts_are = begun.texts_are ∙ ap (λ z. begun.done ++ (begun.bytes ++ h.0) ∷ z) none ∙ ap (λ z. begun.done ++ z ∷ []) (ap (λ z. begun.bytes ++ z) (nothing_left (remaining t) h.0 h.1 out) ∙ append-nil begun.bytes);
        whole = begun.whole;
        lines = last.2;
      };
      events = begun.events ++ last.1;
      judged = last.3;
      none_waits = last.4;
      begun = last.5;
    }

pub all_done : {R : Type 0} (remaining : R → Option (List ℕ)) (c d : Course) (hand : AtHand R) (left : Option (List (List ℕ))) (until : Until) (gone : List ℕ) (least : ℕ) (most : Limit) (all : List (List ℕ)) →
    IfSome left (λ later. later ≡ []) → IsReadOut remaining hand.text → IsSome hand.text → EndsAll until c d → IsUnderWay remaining c hand left gone least most all → IsDone d until gone least most all
all_done remaining c d hand left until gone least most all none out some ends h =
    done_by remaining c d hand.text until h.later gone least most all (subst (λ z. IfSome z (λ later. later ≡ [])) h.left_is none) out some ends h.come

-- the end of the last text, by how long it is followed

pub last_by_end : (until : Until) (c d : Course) → until ≡ End → d.rest.items ≡ [] → TakesLast c d → EndsLast until c d
last_by_end until c d is none takes gone least most texts bytes events h =
    let last = takes gone least most texts bytes events h in
    (last.0, last.1, subst (λ u. AreLastLines u bytes last.0 d.rest.items) (sym is) (last.2, none), last.3)

pub stops_by_end : (until : Until) (c : Course) → until ≡ End → StopsAt c.follow c.rest.items → StopsInRest until c
stops_by_end until c is stops = subst (λ u. StopsInRest u c) (sym is) stops

cut_so_far : (until : Until) (bytes : List ℕ) (lines : List (List ℕ)) (rest : List ℕ) → (until ≡ Ever) ⊎ ((seconds : ℕ) × until ≡ Idle seconds) → AreLinesOf bytes lines rest → AreLastLines until bytes lines rest
cut_so_far until bytes lines rest (inl is) cut = subst (λ u. AreLastLines u bytes lines rest) (sym is) cut
cut_so_far until bytes lines rest (inr (seconds, is)) cut = subst (λ u. AreLastLines u bytes lines rest) (sym is) cut

pub last_as_it_is : (until : Until) (c : Course) → (until ≡ Ever) ⊎ ((seconds : ℕ) × until ≡ Idle seconds) → EndsLast until c c
last_as_it_is until c is gone least most texts bytes events h =
    (h.lines, [], cut_so_far until bytes h.lines c.rest.items is h.cut, subst (HasJudged c.follow c.answers gone least most texts h.lines) (sym (append-nil events)) h.read)

-- then events that waited were taken
pub ends_more : (until : Until) (c d e : Course) → EndsLast until c d → TakesMore d e → e.rest ≡ d.rest → EndsLast until c e
ends_more until c d e ends more rest gone least most texts bytes events h =
    let last = ends gone least most texts bytes events h in
    let next = more gone least most texts last.0 (events ++ last.1) last.3 in (
      last.0,
      last.1 ++ next.0,
      subst (λ r. AreLastLines until bytes last.0 r.items) (sym rest) last.2,
      subst (λ z. HasJudged e.follow e.answers gone least most texts z (events ++ (last.1 ++ next.0))) (append-nil last.0) (subst (HasJudged e.follow e.answers gone least most texts (last.0 ++ [])) (append_assoc events last.1 next.0) next.1),
    )

pub stamps_at_end : (until : Until) (c d : Course) → EndsLast until c d → HasWaiting d.follow → HasStampsAtEnd until c
stamps_at_end until c d ends some gone least most texts bytes events h =
    let last = ends gone least most texts bytes events h in
    (last.0, d.rest.items, last.2, waits_stamped d.follow least most texts last.0 (events ++ last.1) last.3.read some)

-- and there was a record
pub all_ended : (until : Until) (c d e : Course) → EndsLast until c d → d.follow.waiting.turns.items ≡ [] → e.rest ≡ d.rest → e.follow ≡ d.follow → e.answers ≡ d.answers → IsBegun d.follow → EndsAll until c e
all_ended until c d e ends nothing rest follow same begun gone least most texts bytes events h =
    let last = ends gone least most texts bytes events h in (
      last.0,
      last.1,
      subst (λ r. AreLastLines until bytes last.0 r.items) (sym rest) last.2,
      judged_as d.follow e.follow d.answers e.answers follow same last.3,
      ap (λ z. z.waiting.turns.items) follow ∙ nothing,
      begun least most texts last.0 (events ++ last.1) last.3.read,
    )

pub none_at_all : (until : Until) (c d : Course) → EndsLast until c d → HasNoneSoFar d.follow → HasNoneAtAll until c
none_at_all until c d ends none gone least most texts bytes events h =
    let last = ends gone least most texts bytes events h in
    let both = none least most texts last.0 (events ++ last.1) last.3.read in
    (last.0, d.rest.items, last.2, both.1, both.0)

-- a piece was taken, and the lines that were to be written went out
answered_for : (a b : Answers) (out gone : List ℕ) (told : List Told) → WritesLines a b out → HasAnswered a gone told → HasAnswered b (gone ++ out) told
answered_for a b out gone told writes h = record {
  written = ap (λ z. (gone ++ out) ++ z) writes.1 ∙ append-nil (gone ++ out) ∙ ap (λ z. gone ++ z) (sym writes.0) ∙ h.written;
  sums_are = subst (AreSums told) (sym writes.2) h.sums_are;
}

pub taken_for : (c d e : Course) (piece out : List ℕ) → e.rest ≡ d.rest → e.follow ≡ d.follow → WritesLines d.answers e.answers out → TakesBytes c d piece → TakesBytesFor out c e piece
taken_for c d e piece out rest follow writes takes gone least most texts bytes events h =
    let more = takes gone least most texts bytes events h in
    let all = events ++ more.0 in (
      more.0,
      record {
        lines = more.1.lines;
        cut = subst (λ z. AreLinesOf (bytes ++ piece) more.1.lines z.items) (sym rest) more.1.cut;
        read = subst (λ z. HasJudged z e.answers (gone ++ out) least most texts more.1.lines all) (sym follow)
            (judged_by d.follow d.answers e.answers gone (gone ++ out) (λ told. answered_for d.answers e.answers out gone told writes) more.1.read);
      },
    )

-- what went out, and what was taken, after a step in which nothing went out and after one in which something did
pub telling_same : {R W : Type 0} (contents : W → Option (List ℕ)) (remaining : R → Option (List ℕ)) (first now : Counted W) (b c d : Course) (f g h : AtHand R) (x y z : Option (List (List ℕ))) →
    IsTellingFrom contents remaining first now b f x c g y → GoesOnFrom remaining c g y d h z → IsTellingFrom contents remaining first now b f x d h z
telling_same contents remaining first now b c d f g h x y z told goes = (told.0, λ least most all u. goes told.0.out least most all (told.1 least most all u))

pub telling_more : {R W : Type 0} (contents : W → Option (List ℕ)) (remaining : R → Option (List ℕ)) (first now later : Counted W) (b c d : Course) (f g h : AtHand R) (x y z : Option (List (List ℕ))) →
    IsTellingFrom contents remaining first now b f x c g y → (sent : HasSent contents now later) → GoesOnFor sent.out remaining c g y d h z → IsTellingFrom contents remaining first later b f x d h z
telling_more contents remaining first now later b c d f g h x y z told sent goes = (
  record {
    out = told.0.out ++ sent.out;
    whole = both_whole told.0.out sent.out told.0.whole sent.whole;
    sent = Appends-trans (contents (inner_of first)) (contents (inner_of now)) (contents (inner_of later)) told.0.out sent.out told.0.sent sent.sent;
    counts = sent.counts ∙ told.0.counts;
  },
  λ least most all u. goes told.0.out least most all (told.1 least most all u),
)

pub telling_nothing : {R W : Type 0} (contents : W → Option (List ℕ)) (remaining : R → Option (List ℕ)) (w : Counted W) (c : Course) (f : AtHand R) (x : Option (List (List ℕ))) → IsTellingFrom contents remaining w w c f x c f x
telling_nothing contents remaining w c f x = (record { out = []; whole = inl refl; sent = nothing_sent (contents (inner_of w)); counts = refl }, λ least most all u. u)

-- no text was found
none_of : (texts : List (List ℕ)) (found : Bool) → (IsTrue found ↔ (texts ≢ [])) → found ≡ false → texts ≡ []
none_of [] found is none = refl
none_of (t ∷ texts) found is none = absurd (false≢true (sym none ∙ is.1 (λ e. omega (arith, ap length e))))

pub none_found : (left : Option (List (List ℕ))) (found : Bool) → IfSome left (λ texts. IsTrue found ↔ (texts ≢ [])) → found ≡ false → IfSome left (λ texts. texts ≡ [])
none_found None found is none = tt
none_found (Some texts) found is none = none_of texts found is none
