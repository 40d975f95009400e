-- What the course of a recording has taken with more bytes.
use Rattle.std.proofs.Common.{◌==◌, ◌+◌, false, ◌<◌, None, Some, Result, Ok, Err, arith, add-one, drop, drop-cons, get_or, length, take, ◌≡◌, ◌⊎◌, ◌++◌, ◌∙◌, ℕ, true, List, [], ◌∷◌, append-nil, append_assoc, flat_map, ap, subst, sym, refl, inl, inr}
use Rattle.std.specs.Prelude.{IfOk, vec_len}
use Rattle.std.specs.Global.{Vec}
use Rattle.std.proofs.lemmas.Bool.Decides.{nat_tests}
use Rattle.std.proofs.lemmas.List.{get_or-take, length-take, map-append, take-append-drop}
use Rattle.std.proofs.lemmas.List.Elements.{All-append, All-from_get_or}
use Rattle.std.proofs.lemmas.List.Concat.{flat_map-append}
use Rattle.memchr.specs.Find.{IsFirstByte, is_byte2}
use Rattle.snap_core.specs.declared.limit.Limit.{Limit}
use Rattle.snap_core.specs.declared.event.Event.{Event}
use Rattle.snap_follow.specs.declared.answers.Answers.{Answers}
use Rattle.snap_follow.specs.declared.course.Course.{Course}
use Rattle.snap_follow.specs.Bytes.{AreLinesOf, Ended, EndsLine, HasNoEnd}
use Rattle.snap_follow.specs.declared.follow.Follow.{Follow}
use Rattle.snap_follow.specs.declared.form.Form.{Form}
use Rattle.snap_follow.specs.declared.form.Form.TheVariants.{Plain, Stamped}
use Rattle.snap_follow.specs.declared.waiting.Turn.{Turn}
use Rattle.snap_follow.specs.Followed.{AreWaiting, EndsText, HasNoRecord, HasRead, SaysSoFar, StopsAt}
use Rattle.snap_follow.specs.Windows.{EndsFirst}
use Rattle.snap_follow.specs.inside.Courses.{BeginsWithEnd, EndsBytes, HasFollowed, HasJudged, HasNothing, HasStamps, HasWaiting, HaveStamps, IsTooLong, StopsIn, TakesBytes, TakesLast, TakesLine, TakesMore}
use Rattle.snap_follow.specs.inside.Sums.{HasAnswered, HasTold}
use Rattle.snap_follow.proofs.Steps.{both_none}
use Rattle.snap_follow.proofs.Telling.{none_first, none_told}

-- nothing
pub takes_nothing : (c : Course) → TakesBytes c c []
takes_nothing c gone least most texts bytes events h = ([], subst (λ z. HasFollowed c gone least most texts z (events ++ [])) (sym (append-nil bytes)) (subst (HasFollowed c gone least most texts bytes) (sym (append-nil events)) h))

-- some bytes, and then others
pub takes_both : (a b c : Course) (x y : List ℕ) → TakesBytes a b x → TakesBytes b c y → TakesBytes a c (x ++ y)
takes_both a b c x y first second gone least most texts bytes events h =
    let one = first gone least most texts bytes events h in
    let two = second gone least most texts (bytes ++ x) (events ++ one.0) one.1 in
    (one.0 ++ two.0, subst (λ z. HasFollowed c gone least most texts z (events ++ (one.0 ++ two.0))) (append_assoc bytes x y) (subst (HasFollowed c gone least most texts ((bytes ++ x) ++ y)) (append_assoc events one.0 two.0) two.1))

-- the end of a line: the rest and these bytes are the line
pub takes_line : (c d : Course) (front : List ℕ) (end : ℕ) → HasNoEnd front → EndsLine end → d.rest.items ≡ [] → TakesLine c d (c.rest.items ++ front) → TakesBytes c d (front ++ end ∷ [])
takes_line c d front end within ends none reads gone least most texts bytes events h =
    let line = c.rest.items ++ front in
    let read = reads gone least most texts h.lines events h.read in (
      read.0,
      record {
        lines = h.lines ++ line ∷ [];
        cut = subst (AreLinesOf (bytes ++ (front ++ end ∷ [])) (h.lines ++ line ∷ [])) (sym none) (record {
          each = h.cut.each ++ one ∷ [];
          lines_are = ap (λ z. z ++ line ∷ []) h.cut.lines_are ∙ sym (map-append (λ l. l.line) h.cut.each (one ∷ []));
          spelled = spells;
          unended = λ k d l. absurd (omega (arith, l));
        });
        read = read.1;
      },
    )
  where
    one : Ended
    one = record { line = c.rest.items ++ front; end = end; within = All-append (λ b. ¬ EndsLine b) c.rest.items front h.cut.unended within; ends = ends }

    before : List ℕ
    before = flat_map (λ l. l.line ++ l.end ∷ []) h.cut.each

    spells : bytes ++ (front ++ end ∷ []) ≡ flat_map (λ l. l.line ++ l.end ∷ []) (h.cut.each ++ one ∷ []) ++ []
    spells =
        ap (λ z. z ++ (front ++ end ∷ [])) h.cut.spelled
        ∙ append_assoc before c.rest.items (front ++ end ∷ [])
        ∙ ap (λ z. before ++ z) (sym (append_assoc c.rest.items front (end ∷ [])))
        ∙ sym (flat_map-append (λ l. l.line ++ l.end ∷ []) h.cut.each (one ∷ []) ∙ ap (λ z. before ++ z) (append-nil ((c.rest.items ++ front) ++ end ∷ [])))
        ∙ sym (append-nil (flat_map (λ l. l.line ++ l.end ∷ []) (h.cut.each ++ one ∷ [])))

-- what was judged of one course, another one with the same answers has judged
pub judged_as : (f g : Follow) (a b : Answers) {gone : List ℕ} {least : ℕ} {most : Limit} {texts : List (List (List ℕ))} {lines : List (List ℕ)} {events : List Event} → g ≡ f → b ≡ a → HasJudged f a gone least most texts lines events → HasJudged g b gone least most texts lines events
judged_as f g a b {gone} {least} {most} {texts} {lines} {events} same kept h = subst (λ z. HasJudged z b gone least most texts lines events) (sym same) (subst (λ z. HasJudged f z gone least most texts lines events) (sym kept) h)

-- bytes within which no line ends
pub takes_rest : (c d : Course) (bytes : List ℕ) → HasNoEnd bytes → d.rest.items ≡ c.rest.items ++ bytes → d.follow ≡ c.follow → d.answers ≡ c.answers → TakesBytes c d bytes
takes_rest c d piece within rest same kept gone least most texts bytes events h = (
  [],
  record {
    lines = h.lines;
    cut = subst (AreLinesOf (bytes ++ piece) h.lines) (sym rest) (record {
      each = h.cut.each;
      lines_are = h.cut.lines_are;
      spelled = ap (λ z. z ++ piece) h.cut.spelled ∙ append_assoc (flat_map (λ l. l.line ++ l.end ∷ []) h.cut.each) c.rest.items piece;
      unended = All-append (λ b. ¬ EndsLine b) c.rest.items piece h.cut.unended within;
    });
    read = judged_as c.follow d.follow c.answers d.answers same kept (subst (HasJudged c.follow c.answers gone least most texts h.lines) (sym (append-nil events)) h.read);
  },
)

-- the bytes before the first end, and those of bytes without any
front_has_no_end : (k : ℕ) (bytes : List ℕ) → IsFirstByte (is_byte2 10 13) bytes (Some k) → HasNoEnd (take k bytes)
front_has_no_end k bytes found =
    All-from_get_or (λ b. ¬ EndsLine b) (take k bytes) 0 (λ i lt.
    let below : i < k = omega (arith, length-take {A = ℕ}) in
    rw (get_or-take k bytes i 0 below) (found.0.before i (omega arith) below))

has_no_end : (bytes : List ℕ) → IsFirstByte (is_byte2 10 13) bytes None → HasNoEnd bytes
has_no_end bytes found = All-from_get_or (λ b. ¬ EndsLine b) bytes 0 (λ i lt. found i (omega arith) lt)

-- bytes are those before a place, the one there, and those after it
cut_at : (k : ℕ) (bytes : List ℕ) → k < length bytes → bytes ≡ take k bytes ++ get_or bytes k 0 ∷ drop (k + 1) bytes
cut_at k bytes high = sym (take-append-drop k bytes) ∙ ap (λ rest. take k bytes ++ rest) (rw add-one (drop-cons bytes k 0 high))

-- of a piece one line more was taken, up to its end
pub line_more : (c d e : Course) (piece front left : List ℕ) (k : ℕ) → piece ≡ front ++ left → TakesBytes c d front → IsFirstByte (is_byte2 10 13) left (Some k) →
    e.rest.items ≡ [] → TakesLine d e (d.rest.items ++ take k left) → (more : List ℕ) × (piece ≡ more ++ drop (k + 1) left) × TakesBytes c e more
line_more c d e piece front left k parts taken found none reads =
    let end = get_or left k 0 in
    let line = take k left ++ end ∷ [] in (
      front ++ line,
      parts ∙ ap (λ z. front ++ z) (cut_at k left found.0.high ∙ sym (append_assoc (take k left) (end ∷ []) (drop (k + 1) left))) ∙ sym (append_assoc front line (drop (k + 1) left)),
      takes_both c d e front line taken (takes_line d e (take k left) end (front_has_no_end k left found) found.1 none reads),
    )

-- a piece was taken whole, whose last bytes end no line
pub all_taken : (c d e : Course) (piece front left : List ℕ) → piece ≡ front ++ left → TakesBytes c d front → IsFirstByte (is_byte2 10 13) left None →
    e.rest.items ≡ d.rest.items ++ left → e.follow ≡ d.follow → e.answers ≡ d.answers → TakesBytes c e piece
all_taken c d e piece front left parts taken found rest same kept = subst (TakesBytes c e) (sym parts) (takes_both c d e front left taken (takes_rest d e left (has_no_end left found) rest same kept))

-- the next line of a piece stops the recording, or the begin of it does
pub line_stops : (c d : Course) (piece front left : List ℕ) (k : ℕ) → piece ≡ front ++ left → TakesBytes c d front → IsFirstByte (is_byte2 10 13) left (Some k) →
    IsTooLong (d.rest.items ++ take k left) ⊎ StopsAt d.follow (d.rest.items ++ take k left) → StopsIn c piece
line_stops c d piece front left k parts taken found stops = record {
  at = d;
  front = front;
  line = take k left;
  behind = get_or left k 0 ∷ drop (k + 1) left;
  parts = parts ∙ ap (λ z. front ++ z) (cut_at k left found.0.high);
  within = front_has_no_end k left found;
  taken = taken;
  stops = go stops;
}
  where
    go : IsTooLong (d.rest.items ++ take k left) ⊎ StopsAt d.follow (d.rest.items ++ take k left) → IsTooLong (d.rest.items ++ take k left) ⊎ (BeginsWithEnd (get_or left k 0 ∷ drop (k + 1) left) × StopsAt d.follow (d.rest.items ++ take k left))
    go (inl long) = inl long
    go (inr at) = inr (found.1, at)

pub rest_stops : (c d : Course) (piece front left : List ℕ) → piece ≡ front ++ left → TakesBytes c d front → IsFirstByte (is_byte2 10 13) left None → IsTooLong (d.rest.items ++ left) → StopsIn c piece
rest_stops c d piece front left parts taken found long = record {
  at = d;
  front = front;
  line = left;
  behind = [];
  parts = parts ∙ ap (λ z. front ++ z) (sym (append-nil left));
  within = has_no_end left found;
  taken = taken;
  stops = inl long;
}

-- the bytes have ended, after the end of a line or within one
pub last_none : (c : Course) → c.rest.items ≡ [] → TakesLast c c
last_none c none gone least most texts bytes events h = (h.lines, [], record { ended = h.lines; rest = c.rest.items; cut = h.cut; all = inl (none, refl) }, subst (HasJudged c.follow c.answers gone least most texts h.lines) (sym (append-nil events)) h.read)

pub last_line : (c d : Course) → (c.rest.items ≡ [] → ⊥) → TakesLine c d c.rest.items → TakesLast c d
last_line c d some reads gone least most texts bytes events h =
    let read = reads gone least most texts h.lines events h.read in
    (h.lines ++ c.rest.items ∷ [], read.0, record { ended = h.lines; rest = c.rest.items; cut = h.cut; all = inr (some, refl) }, read.1)

-- the text has no record to its end
pub no_record : (c d : Course) → TakesLast c d → HasNoRecord d.follow → HasNothing c
no_record c d last none gone least most texts bytes events h =
    let all = last gone least most texts bytes events h in
    (all.0, all.2, none least most texts all.0 (events ++ all.1) all.3.read)

-- no bytes have no lines
no_lines : (c : Course) → c.rest.items ≡ [] → AreLinesOf [] [] c.rest.items
no_lines c none = subst (AreLinesOf [] []) (sym none) (record { each = []; lines_are = refl; spelled = refl; unended = λ k d l. absurd (omega (arith, l)) })

-- events that wait, and then others
pub more_nothing : (c : Course) → TakesMore c c
more_nothing c gone least most texts lines events h = ([], subst (λ z. HasJudged c.follow c.answers gone least most texts z (events ++ [])) (sym (append-nil lines)) (subst (HasJudged c.follow c.answers gone least most texts lines) (sym (append-nil events)) h))

pub more_both : (a b c : Course) → TakesMore a b → TakesMore b c → TakesMore a c
more_both a b c first second gone least most texts lines events h =
    let one = first gone least most texts lines events h in
    let two = second gone least most texts (lines ++ []) (events ++ one.0) one.1 in
    (one.0 ++ two.0, subst (λ z. HasJudged c.follow c.answers gone least most texts z (events ++ (one.0 ++ two.0))) (append-nil (lines ++ [])) (subst (HasJudged c.follow c.answers gone least most texts ((lines ++ []) ++ [])) (append_assoc events one.0 two.0) two.1))

-- all lines were taken, and then events that waited
pub last_more : (c d e : Course) → TakesLast c d → TakesMore d e → TakesLast c e
last_more c d e last more gone least most texts bytes events h =
    let all = last gone least most texts bytes events h in
    let next = more gone least most texts all.0 (events ++ all.1) all.3 in
    (all.0, all.1 ++ next.0, all.2, subst (λ z. HasJudged e.follow e.answers gone least most texts z (events ++ (all.1 ++ next.0))) (append-nil all.0) (subst (HasJudged e.follow e.answers gone least most texts (all.0 ++ [])) (append_assoc events all.1 next.0) next.1))

-- what waits has a stamp
pub waits_stamped : (f : Follow) (least : ℕ) (most : Limit) (texts : List (List (List ℕ))) (lines : List (List ℕ)) (events : List Event) → HasRead f least most texts lines events → HasWaiting f → HaveStamps (length texts) lines
waits_stamped f least most texts lines events h some = go h.form (h.here ++ f.waiting.turns.items) (λ none. some (both_none h.here f.waiting.turns.items none).1) h.lines_say h.waiting
  where
    go : (form : Form) (turns : List Turn) → (turns ≡ [] → ⊥) → SaysSoFar f form (length texts) lines turns → AreWaiting form f (h.earlier ++ h.here) → HaveStamps (length texts) lines
    go Plain turns more says waits = absurd (some waits)
    go Stamped turns more (inl (unheaded, none, nothing)) waits = absurd (more nothing)
    go Stamped turns more (inr (headed, spells)) waits = (turns, spells)

pub stamps_last : (c d : Course) → TakesLast c d → HasWaiting d.follow → HasStamps c
stamps_last c d last some gone least most texts bytes events h =
    let all = last gone least most texts bytes events h in
    (all.0, all.2, waits_stamped d.follow least most texts all.0 (events ++ all.1) all.3.read some)

-- a text has ended, and the next one begins
pub text_done : (c d e : Course) → TakesLast c d → EndsText d.follow e.follow → d.follow.waiting.turns.items ≡ [] → e.rest.items ≡ [] → e.answers ≡ d.answers → EndsBytes c e
text_done c d e last ends nothing none kept gone least most texts bytes events h =
    let all = last gone least most texts bytes events h in
    let next = ends least most texts all.0 (events ++ all.1) all.3.read nothing in (
      all.0,
      all.1,
      all.2,
      record {
        lines = [];
        cut = no_lines e none;
        read = record {
          read = next.0;
          in_time = λ quiet. subst (λ z. (length z < least) ⊎ (z ≡ [])) (sym next.2) (all.3.in_time quiet);
          first = subst (λ z. EndsFirst least z next.0.since) (sym next.1) (subst (EndsFirst least all.3.read.before) (sym next.2) all.3.first);
          told = subst (λ z. HasTold z gone least most next.0.places next.0.before) (sym kept) (subst (λ z. HasTold d.answers gone least most z next.0.before) (sym next.3) (subst (HasTold d.answers gone least most all.3.read.places) (sym next.1) all.3.told));
        };
      },
    )

-- a recording of which nothing was read
nothing_since : (before since : List Event) → [] ≡ before ++ since → since ≡ []
nothing_since [] since none = sym none
nothing_since (x ∷ before) since none = absurd (omega (arith, ap length none))

nothing_before : (before since : List Event) → [] ≡ before ++ since → before ≡ []
nothing_before [] since none = refl
nothing_before (x ∷ before) since none = absurd (omega (arith, ap length none))

pub none_followed : (c : Course) (least : ℕ) (most : Limit) → c.rest.items ≡ [] → HasRead c.follow least most [] [] [] → HasAnswered c.answers [] [] → HasFollowed c [] least most [] [] []
none_followed c least most none read answered = record {
  lines = [];
  cut = no_lines c none;
  read = record {
    read = read;
    in_time = λ quiet. inr (nothing_since read.before read.since read.windows);
    first = subst (EndsFirst least read.before) (sym (nothing_since read.before read.since read.windows)) (none_first least read.before);
    told = subst (HasTold c.answers [] least most read.places) (sym (nothing_before read.before read.since read.windows)) (none_told c.answers least most read.places answered);
  };
}

-- an answer of which one thing is so is one of which another is so
pub if_ok_then : {X E : Type 0} (r : Result X E) (P Q : X → Type 0) → IfOk r P → ((x : X) → P x → Q x) → IfOk r Q
if_ok_then (Ok x) P Q p h = h x p
if_ok_then (Err e) P Q p h = tt

-- what is so of each answer is so of this one
pub if_ok : {X E : Type 0} (r : Result X E) (P : X → Type 0) → ((x : X) → P x) → IfOk r P
if_ok (Ok x) P h = h x
if_ok (Err e) P h = tt

-- a list without length is empty
no_length : (bytes : List ℕ) → length bytes ≡ 0 → bytes ≡ []
no_length [] none = refl
no_length (b ∷ bytes) none = absurd (omega (arith, none))

pub some_bytes : (bytes : Vec ℕ) → false ≡ (vec_len bytes == 0) → bytes.items ≡ [] → ⊥
some_bytes bytes is none = let some : vec_len bytes ≡ 0 → ⊥ = grind (arith, nat_tests, is) in some (omega (arith, ap length none, bytes.ok))

pub no_bytes : (bytes : Vec ℕ) → true ≡ (vec_len bytes == 0) → bytes.items ≡ []
no_bytes bytes is = let none : vec_len bytes ≡ 0 = grind (arith, nat_tests, is) in no_length bytes.items (omega (arith, none, bytes.ok))
