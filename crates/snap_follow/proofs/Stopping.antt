-- What stops a recording: its texts can't be followed.
use Rattle.std.proofs.Common.{◌≡◌, ◌≢◌, ◌≤◌, ◌⊎◌, ◌++◌, ◌∙◌, ℕ, List, [], ◌∷◌, length, append_assoc, append-nil, flat_map, ap, subst, sym, refl, inl, inr, arith}
use Rattle.std.specs.Prelude.{All}
use Rattle.std.specs.List.{AllZip}
use Rattle.std.proofs.lemmas.List.Elements.{All-append, All-cons, All-head, All-tail}
use Rattle.std.proofs.lemmas.Grind.{flat_map-append}
use Rattle.snap_core.specs.declared.limit.Limit.{Limit}
use Rattle.snap_core.specs.declared.event.Event.{Event}
use Rattle.snap_core.specs.Bounded.{IsHistoryBy}
use Rattle.snap_format.specs.Rows.{rows_of}
use Rattle.snap_follow.specs.declared.course.Course.{Course}
use Rattle.snap_follow.specs.declared.run.Until.{Until}
use Rattle.snap_follow.specs.declared.run.Until.TheVariants.{Ever, Idle, End}
use Rattle.snap_follow.specs.Bytes.{AreAllLines, AreLinesOf, EndsLine, HasNoEnd}
use Rattle.snap_follow.specs.declared.form.Form.TheVariants.{Plain}
use Rattle.snap_follow.specs.Followed.{AllSpell, StopsAt}
use Rattle.snap_follow.specs.Turns.{Spells, events_of}
use Rattle.snap_follow.specs.Recordings.{AreLastLines, CanBeFollowed, IsShort}
use Rattle.snap_follow.specs.inside.Courses.{BeginsWithEnd, HasFollowed, HaveStamps, IsTooLong, StopsIn, StopsLast}
use Rattle.snap_follow.specs.inside.Runs.{HasBegun, StopsEnd, StopsInRest}
use Rattle.snap_follow.proofs.Cutting.{begin_short, cut_behind, first, first_line, one_cut, one_whole, others, row_of_line}
use Rattle.snap_follow.proofs.Saying.{IsAmong, all_before, does_not_stop, not_stamped}
use Rattle.snap_follow.proofs.Unquoting.{no_rows}

-- of all elements, one, and those after some
one_of : {A : Type 0} (P : A → Type 0) (xs : List A) (y : A) (ys : List A) → All P (xs ++ y ∷ ys) → P y
one_of P [] y ys all = All-head P y ys all
one_of P (x ∷ xs) y ys all = one_of P xs y ys (All-tail P x (xs ++ y ∷ ys) all)

all_behind : {A : Type 0} (P : A → Type 0) (xs ys : List A) → All P (xs ++ ys) → All P ys
all_behind P [] ys all = all
all_behind P (x ∷ xs) ys all = all_behind P xs ys (All-tail P x (xs ++ ys) all)

some_ahead : {A : Type 0} (xs : List A) (y : A) (ys : List A) → xs ++ y ∷ ys ≡ [] → ⊥
some_ahead [] y ys is = omega (arith, ap length is)
some_ahead (x ∷ xs) y ys is = omega (arith, ap length is)

-- the text at hand is the last one, or one of those before it
abbrev IsWhere : List ℕ → List (List ℕ) → List (List (List ℕ)) → List ℕ → List (List (List ℕ)) → Type 0
IsWhere text later lines last earlier = ((later ≡ []) × (text ≡ last) × (earlier ≡ lines))
    ⊎ ((here : List (List ℕ)) × (more : List (List (List ℕ))) × (later ≢ []) × (earlier ≡ lines ++ here ∷ more) × AreAllLines text here)

where_next : (text : List ℕ) (later : List (List ℕ)) (lines : List (List (List ℕ))) (last : List ℕ) (earlier : List (List (List ℕ))) (l m : List (List ℕ)) → l ≡ m → IsWhere text later lines last earlier → IsWhere text later (l ∷ lines) last (m ∷ earlier)
where_next text later lines last earlier l m same (inl (none, is, all)) = inl (none, is, ap (λ z. m ∷ z) all ∙ ap (λ z. z ∷ lines) (sym same))
where_next text later lines last earlier l m same (inr (here, more, some, all, cut)) = inr (here, more, some, ap (λ z. m ∷ z) all ∙ ap (λ z. z ∷ (lines ++ here ∷ more)) (sym same), cut)

where_is : (done : List (List ℕ)) (lines : List (List (List ℕ))) (text : List ℕ) (later : List (List ℕ)) (before : List (List ℕ)) (earlier : List (List (List ℕ))) (last : List ℕ) →
    done ++ text ∷ later ≡ before ++ last ∷ [] → AllZip AreAllLines done lines → AllZip AreAllLines before earlier → IsWhere text later lines last earlier
where_is [] [] text later [] [] last is one two = inl (ap others is, ap (first []) is, refl)
where_is [] [] text later (b ∷ before) (m ∷ earlier) last is one two =
    inr (m, earlier, (λ none. some_ahead before last [] (sym (ap others is) ∙ none)), refl, subst (λ z. AreAllLines z m) (sym (ap (first []) is)) two.0)
where_is (d ∷ done) (l ∷ lines) text later [] [] last is one two = absurd (some_ahead done text later (ap others is))
where_is (d ∷ done) (l ∷ lines) text later (b ∷ before) (m ∷ earlier) last is one two =
    where_next text later lines last earlier l m (one_whole b l m (subst (λ z. AreAllLines z l) (ap (first []) is) one.0) two.0) (where_is done lines text later before earlier last (ap others is) one.1 two.1)
where_is [] (l ∷ lines) text later before earlier last is one two = absurd one
where_is (d ∷ done) [] text later before earlier last is one two = absurd one
where_is [] [] text later [] (m ∷ earlier) last is one two = absurd two
where_is [] [] text later (b ∷ before) [] last is one two = absurd two
where_is (d ∷ done) (l ∷ lines) text later [] (m ∷ earlier) last is one two = absurd two
where_is (d ∷ done) (l ∷ lines) text later (b ∷ before) [] last is one two = absurd two

-- the lines of the text at hand in texts that can be followed
record HasLines (most : Limit) (until : Until) (earlier : List (List (List ℕ))) (text : List ℕ) (later : List (List ℕ)) : Type 0 where
  pub lines : List (List ℕ)
  pub rest : List ℕ
  pub cut : ((later ≢ []) × AreAllLines text lines) ⊎ ((later ≡ []) × AreLastLines until text lines rest)
  pub among : IsAmong most earlier lines (later ≡ [])
  pub short : All IsShort lines
  pub short_rest : IsShort rest

short_nothing : IsShort []
short_nothing = omega arith

has_lines : (most : Limit) (until : Until) (done : List (List ℕ)) (lines : List (List (List ℕ))) (text : List ℕ) (later all : List (List ℕ)) → all ≡ done ++ text ∷ later → AllZip AreAllLines done lines → CanBeFollowed most until all → HasLines most until lines text later
has_lines most until done lines text later all parts whole can = go (where_is done lines text later can.cut.before can.earlier can.cut.text (sym parts ∙ can.cut.texts_are) whole can.cut.whole)
  where
    go : IsWhere text later lines can.cut.text can.earlier → HasLines most until lines text later
    go (inl (none, is, same)) =
        let parted : can.turns ≡ can.say.before ++ (can.say.here ++ []) = can.say.parts ∙ ap (λ z. can.say.before ++ z) (sym (append-nil can.say.here)) in
        record {
          lines = can.last;
          rest = can.rest;
          cut = inr (none, subst (λ z. AreLastLines until z can.last can.rest) (sym is) can.cut.lines);
          among = record {
            before = can.say.before;
            here = can.say.here;
            behind = [];
            history = subst (λ z. IsHistoryBy most.writers (events_of z)) parted can.history;
            few = subst (λ z. length z ≤ most.events) parted can.few;
            texts_say = subst (λ z. AllSpell Plain 0 z can.say.before) same can.say.texts_say;
            lines_say = last_say none same can.say.last_says;
          };
          short = can.short;
          short_rest = can.short_rest;
        }
      where
        last_say : later ≡ [] → can.earlier ≡ lines → Spells Plain (length can.earlier) (flat_map rows_of can.last) can.say.here ⊎ ((can.earlier ≢ []) × (flat_map rows_of can.last ≡ []) × (can.say.here ≡ [])) →
            Spells Plain (length lines) (flat_map rows_of can.last) can.say.here ⊎ ((lines ≢ []) × (flat_map rows_of can.last ≡ []) × (can.say.here ≡ []) × (later ≡ []))
        last_say last same (inl spells) = inl (subst (λ z. Spells Plain (length z) (flat_map rows_of can.last) can.say.here) same spells)
        last_say last same (inr (some, rows, nothing)) = inr ((λ e. some (same ∙ e)), rows, nothing, last)
    go (inr (here, more, some, same, cut)) =
        let all_say = all_before Plain 0 (length lines) lines here more can.say.before (omega arith) (subst (λ z. AllSpell Plain 0 z can.say.before) same can.say.texts_say) in
        let parted : can.turns ≡ all_say.0 ++ (all_say.1 ++ (all_say.2 ++ can.say.here)) =
        can.say.parts ∙ ap (λ z. z ++ can.say.here) all_say.3 ∙ append_assoc all_say.0 (all_say.1 ++ all_say.2) can.say.here ∙ ap (λ z. all_say.0 ++ z) (append_assoc all_say.1 all_say.2 can.say.here) in
        record {
          lines = here;
          rest = [];
          cut = inl (some, cut);
          among = record {
            before = all_say.0;
            here = all_say.1;
            behind = all_say.2 ++ can.say.here;
            history = subst (λ z. IsHistoryBy most.writers (events_of z)) parted can.history;
            few = subst (λ z. length z ≤ most.events) parted can.few;
            texts_say = all_say.4;
            lines_say = inl all_say.5;
          };
          short = one_of (All IsShort) lines here more (subst (All (All IsShort)) same can.short_before);
          short_rest = short_nothing;
        }

-- those of them that have an end, and what comes after these
record HasEnds (text : List ℕ) (lines : List (List ℕ)) : Type 0 where
  pub ended : List (List ℕ)
  pub rest : List ℕ
  pub more : List (List ℕ)
  pub cut : AreLinesOf text ended rest
  pub lines_are : lines ≡ ended ++ more
  pub short : All IsShort ended
  pub short_rest : IsShort rest

short_front : (xs ys : List (List ℕ)) → All IsShort (xs ++ ys) → All IsShort xs
short_front [] ys all = λ k d l. absurd (omega (arith, l))
short_front (x ∷ xs) ys all = All-cons IsShort x xs (All-head IsShort x (xs ++ ys) all) (short_front xs ys (All-tail IsShort x (xs ++ ys) all))

ends_of_whole : (text : List ℕ) (lines : List (List ℕ)) → AreAllLines text lines → All IsShort lines → HasEnds text lines
ends_of_whole text lines whole short = go whole.all
  where
    go : ((whole.rest ≡ []) × (lines ≡ whole.ended)) ⊎ ((whole.rest ≢ []) × (lines ≡ whole.ended ++ whole.rest ∷ [])) → HasEnds text lines
    go (inl (none, is)) = record {
      ended = whole.ended;
      rest = whole.rest;
      more = [];
      cut = whole.cut;
      lines_are = is ∙ sym (append-nil whole.ended);
      short = subst (All IsShort) is short;
      short_rest = subst IsShort (sym none) short_nothing;
    }
    go (inr (some, is)) = record {
      ended = whole.ended;
      rest = whole.rest;
      more = whole.rest ∷ [];
      cut = whole.cut;
      lines_are = is;
      short = short_front whole.ended (whole.rest ∷ []) (subst (All IsShort) is short);
      short_rest = one_of IsShort whole.ended whole.rest [] (subst (All IsShort) is short);
    }

ends_of_cut : (text : List ℕ) (lines : List (List ℕ)) (rest : List ℕ) → AreLinesOf text lines rest → All IsShort lines → IsShort rest → HasEnds text lines
ends_of_cut text lines rest cut short short_rest = record { ended = lines; rest = rest; more = []; cut = cut; lines_are = sym (append-nil lines); short = short; short_rest = short_rest }

ends_of_last : (until : Until) (text : List ℕ) (lines : List (List ℕ)) (rest : List ℕ) → AreLastLines until text lines rest → All IsShort lines → IsShort rest → HasEnds text lines
ends_of_last End text lines rest cut short short_rest = ends_of_whole text lines cut.0 short
ends_of_last Ever text lines rest cut short short_rest = ends_of_cut text lines rest cut short short_rest
ends_of_last (Idle seconds) text lines rest cut short short_rest = ends_of_cut text lines rest cut short short_rest

ends_of : (most : Limit) (until : Until) (earlier : List (List (List ℕ))) (text : List ℕ) (later : List (List ℕ)) (a : HasLines most until earlier text later) → HasEnds text a.lines
ends_of most until earlier text later a = go a.cut
  where
    go : ((later ≢ []) × AreAllLines text a.lines) ⊎ ((later ≡ []) × AreLastLines until text a.lines a.rest) → HasEnds text a.lines
    go (inl (some, whole)) = ends_of_whole text a.lines whole a.short
    go (inr (none, cut)) = ends_of_last until text a.lines a.rest cut a.short a.short_rest

-- a line of the text at hand does not stop texts that can be followed

line_in : (at : Course) (gone : List ℕ) (least : ℕ) (most : Limit) (until : Until) (earlier : List (List (List ℕ))) (text front line behind rest : List ℕ) (later : List (List ℕ)) (events : List Event) → text ≡ front ++ (line ++ behind) → HasNoEnd line →
    HasFollowed at gone least most earlier front events → HasLines most until earlier text later → IsTooLong (at.rest.items ++ line) ⊎ (BeginsWithEnd behind × StopsAt at.follow (at.rest.items ++ line)) → ⊥
line_in at gone least most until earlier text front line behind rest later events parts within h a stops = go behind parts next.2 stops
  where
    ends : HasEnds text a.lines
    ends = ends_of most until earlier text later a

    next : (more : List (List ℕ)) × (ends.ended ≡ h.lines ++ more) × AreLinesOf (at.rest.items ++ (line ++ behind)) more ends.rest
    next = cut_behind text front (line ++ behind) at.rest.items ends.rest h.lines ends.ended parts h.cut ends.cut

    whole : List ℕ
    whole = at.rest.items ++ line

    no_end : HasNoEnd whole
    no_end = All-append (λ b. ¬ EndsLine b) at.rest.items line h.cut.unended within

    go : (tail : List ℕ) → text ≡ front ++ (line ++ tail) → AreLinesOf (at.rest.items ++ (line ++ tail)) next.0 ends.rest → IsTooLong whole ⊎ (BeginsWithEnd tail × StopsAt at.follow whole) → ⊥
    go tail is cut (inl long) =
        let short = begin_short whole tail ends.rest next.0 no_end (subst (λ z. AreLinesOf z next.0 ends.rest) (sym (append_assoc at.rest.items line tail)) cut) (all_behind IsShort h.lines next.0 (subst (All IsShort) next.1 ends.short)) ends.short_rest in
        omega (arith, short, long)
    go [] is cut (inr (begins, at_line)) = absurd begins
    go (e ∷ tail) is cut (inr (begins, at_line)) =
        let line_is = first_line whole tail ends.rest e next.0 no_end begins (subst (λ z. AreLinesOf z next.0 ends.rest) (sym (append_assoc at.rest.items line (e ∷ tail))) cut) in
        let lines_are : a.lines ≡ h.lines ++ (whole ∷ (line_is.0 ++ ends.more)) =
        ends.lines_are ∙ ap (λ z. z ++ ends.more) next.1 ∙ append_assoc h.lines next.0 ends.more ∙ ap (λ z. h.lines ++ (z ++ ends.more)) line_is.1 in
        does_not_stop at.follow least most earlier h.lines a.lines whole (flat_map rows_of (line_is.0 ++ ends.more)) events (later ≡ [])
        (ap (flat_map rows_of) lines_are ∙ flat_map-append rows_of h.lines (whole ∷ (line_is.0 ++ ends.more))) (row_of_line whole no_end) h.read.read a.among at_line

-- a piece stops a recording
pub piece_stops : (c : Course) (piece behind rest : List ℕ) (later : List (List ℕ)) (gone : List ℕ) (least : ℕ) (most : Limit) (until : Until) (all : List (List ℕ)) → rest ≡ piece ++ behind → StopsIn c piece → HasBegun c rest later gone least most all → CanBeFollowed most until all → ⊥
piece_stops c piece behind rest later gone least most until all parts s h can =
    let next = s.taken gone least most h.lines h.bytes h.events h.followed in
    let text_is : h.bytes ++ rest ≡ (h.bytes ++ s.front) ++ (s.line ++ (s.behind ++ behind)) =
    ap (λ z. h.bytes ++ z) (parts ∙ ap (λ z. z ++ behind) s.parts ∙ append_assoc s.front (s.line ++ s.behind) behind ∙ ap (λ z. s.front ++ z) (append_assoc s.line s.behind behind)) ∙ sym (append_assoc h.bytes s.front (s.line ++ (s.behind ++ behind))) in
    line_in s.at gone least most until h.lines (h.bytes ++ rest) (h.bytes ++ s.front) s.line (s.behind ++ behind) rest later (h.events ++ next.0) text_is s.within next.1
    (has_lines most until h.done h.lines (h.bytes ++ rest) later all h.texts_are h.whole can) (stops_on s.behind s.stops)
  where
    begins_on : (tail : List ℕ) → BeginsWithEnd tail → BeginsWithEnd (tail ++ behind)
    begins_on [] begins = absurd begins
    begins_on (e ∷ tail) begins = begins

    stops_on : (tail : List ℕ) → IsTooLong (s.at.rest.items ++ s.line) ⊎ (BeginsWithEnd tail × StopsAt s.at.follow (s.at.rest.items ++ s.line)) → IsTooLong (s.at.rest.items ++ s.line) ⊎ (BeginsWithEnd (tail ++ behind) × StopsAt s.at.follow (s.at.rest.items ++ s.line))
    stops_on tail (inl long) = inl long
    stops_on tail (inr (begins, at)) = inr (begins_on tail begins, at)

-- the last line of a whole text does not stop texts that can be followed
last_in : (c : Course) (gone : List ℕ) (least : ℕ) (most : Limit) (earlier : List (List (List ℕ))) (text : List ℕ) (lines : List (List ℕ)) (events : List Event) (IsLast : Type 0) →
    HasFollowed c gone least most earlier text events → AreAllLines text lines → IsAmong most earlier lines IsLast → StopsAt c.follow c.rest.items → ⊥
last_in c gone least most earlier text lines events IsLast h whole among stops = go whole.all
  where
    same : (whole.ended ≡ h.lines) × (whole.rest ≡ c.rest.items)
    same = one_cut text whole.rest c.rest.items whole.ended h.lines whole.cut h.cut

    go : ((whole.rest ≡ []) × (lines ≡ whole.ended)) ⊎ ((whole.rest ≢ []) × (lines ≡ whole.ended ++ whole.rest ∷ [])) → ⊥
    go (inl (none, is)) =
        let empty : rows_of c.rest.items ≡ [] = subst (λ z. rows_of z ≡ []) (sym none ∙ same.1) (no_rows [] refl) in
        does_not_stop c.follow least most earlier h.lines lines c.rest.items [] events IsLast
        (ap (flat_map rows_of) (is ∙ same.0) ∙ sym (append-nil (flat_map rows_of h.lines)) ∙ ap (λ z. flat_map rows_of h.lines ++ (z ++ [])) (sym empty)) (inl empty) h.read.read among stops
    go (inr (some, is)) =
        does_not_stop c.follow least most earlier h.lines lines c.rest.items [] events IsLast
        (ap (flat_map rows_of) (is ∙ ap (λ z. z ++ whole.rest ∷ []) same.0 ∙ ap (λ z. h.lines ++ z ∷ []) same.1) ∙ flat_map-append rows_of h.lines (c.rest.items ∷ [])) (row_of_line c.rest.items h.cut.unended) h.read.read among stops

-- lines without a record are none of a text that can be followed, but where it is the last of several
no_record_in : (most : Limit) (earlier : List (List (List ℕ))) (lines : List (List ℕ)) (IsLast : Type 0) → IsAmong most earlier lines IsLast → flat_map rows_of lines ≡ [] → (earlier ≢ []) × IsLast
no_record_in most earlier lines IsLast among none = go among.lines_say
  where
    go : Spells Plain (length earlier) (flat_map rows_of lines) among.here ⊎ ((earlier ≢ []) × (flat_map rows_of lines ≡ []) × (among.here ≡ []) × IsLast) → (earlier ≢ []) × IsLast
    go (inl spells) = absurd (some_ahead [] spells.head spells.later (sym spells.whole ∙ none))
    go (inr (some, rows, nothing, last)) = (some, last)

text_whole : (bytes rest : List ℕ) → rest ≡ [] → bytes ++ rest ≡ bytes
text_whole bytes rest none = ap (λ z. bytes ++ z) none ∙ append-nil bytes

-- the end of a text that is not the last one stops a recording
pub end_stops : (c : Course) (rest : List ℕ) (later : List (List ℕ)) (gone : List ℕ) (least : ℕ) (most : Limit) (until : Until) (all : List (List ℕ)) → rest ≡ [] → later ≢ [] → StopsLast c → HasBegun c rest later gone least most all → CanBeFollowed most until all → ⊥
end_stops c rest later gone least most until all none some stops h can = go a.cut stops
  where
    a : HasLines most until h.lines (h.bytes ++ rest) later
    a = has_lines most until h.done h.lines (h.bytes ++ rest) later all h.texts_are h.whole can

    go : ((later ≢ []) × AreAllLines (h.bytes ++ rest) a.lines) ⊎ ((later ≡ []) × AreLastLines until (h.bytes ++ rest) a.lines a.rest) → StopsLast c → ⊥
    go (inr (last, cut)) stops = some last
    go (inl (more, whole)) (inl at) = last_in c gone least most h.lines h.bytes a.lines h.events (later ≡ []) h.followed (subst (λ z. AreAllLines z a.lines) (text_whole h.bytes rest none) whole) a.among at
    go (inl (more, whole)) (inr (inr stamps)) =
        let found = stamps gone least most h.lines h.bytes h.events h.followed in
        not_stamped most h.lines a.lines (later ≡ []) a.among
        (subst (HaveStamps (length h.lines)) (one_whole h.bytes found.0 a.lines found.1 (subst (λ z. AreAllLines z a.lines) (text_whole h.bytes rest none) whole)) found.2)
    go (inl (more, whole)) (inr (inl nothing)) =
        let empty = nothing gone least most h.lines h.bytes h.events h.followed in
        some (no_record_in most h.lines a.lines (later ≡ []) a.among
        (ap (flat_map rows_of) (one_whole h.bytes a.lines empty.0 (subst (λ z. AreAllLines z a.lines) (text_whole h.bytes rest none) whole) empty.1) ∙ empty.2)).1

-- and so does that of the last one
one_last : (until : Until) (text r s : List ℕ) (l m : List (List ℕ)) → AreLastLines until text l r → AreLastLines until text m s → l ≡ m
one_last End text r s l m one two = one_whole text l m one.0 two.0
one_last Ever text r s l m one two = (one_cut text r s l m one two).0
one_last (Idle seconds) text r s l m one two = (one_cut text r s l m one two).0

rest_in : (until : Until) (c : Course) (gone : List ℕ) (least : ℕ) (most : Limit) (earlier : List (List (List ℕ))) (text : List ℕ) (lines : List (List ℕ)) (rest : List ℕ) (events : List Event) (IsLast : Type 0) →
    HasFollowed c gone least most earlier text events → AreLastLines until text lines rest → IsAmong most earlier lines IsLast → StopsInRest until c → ⊥
rest_in End c gone least most earlier text lines rest events IsLast h cut among stops = last_in c gone least most earlier text lines events IsLast h cut.0 among stops
rest_in Ever c gone least most earlier text lines rest events IsLast h cut among stops = stops
rest_in (Idle seconds) c gone least most earlier text lines rest events IsLast h cut among stops = stops

pub last_stops : (c : Course) (rest : List ℕ) (later : List (List ℕ)) (gone : List ℕ) (least : ℕ) (most : Limit) (until : Until) (all : List (List ℕ)) → rest ≡ [] → later ≡ [] → StopsEnd until c → HasBegun c rest later gone least most all → CanBeFollowed most until all → ⊥
last_stops c rest later gone least most until all none last stops h can = go a.cut stops
  where
    a : HasLines most until h.lines (h.bytes ++ rest) later
    a = has_lines most until h.done h.lines (h.bytes ++ rest) later all h.texts_are h.whole can

    go : ((later ≢ []) × AreAllLines (h.bytes ++ rest) a.lines) ⊎ ((later ≡ []) × AreLastLines until (h.bytes ++ rest) a.lines a.rest) → StopsEnd until c → ⊥
    go (inl (some, whole)) stops = some last
    go (inr (is, cut)) (inl at) = rest_in until c gone least most h.lines h.bytes a.lines a.rest h.events (later ≡ []) h.followed (subst (λ z. AreLastLines until z a.lines a.rest) (text_whole h.bytes rest none) cut) a.among at
    go (inr (is, cut)) (inr (inr stamps)) =
        let found = stamps gone least most h.lines h.bytes h.events h.followed in
        not_stamped most h.lines a.lines (later ≡ []) a.among
        (subst (HaveStamps (length h.lines)) (one_last until h.bytes found.1 a.rest found.0 a.lines found.2 (subst (λ z. AreLastLines until z a.lines a.rest) (text_whole h.bytes rest none) cut)) found.3)
    go (inr (is, cut)) (inr (inl nothing)) =
        let empty = nothing gone least most h.lines h.bytes h.events h.followed in
        (no_record_in most h.lines a.lines (later ≡ []) a.among
        (ap (flat_map rows_of) (one_last until h.bytes a.rest empty.1 a.lines empty.0 (subst (λ z. AreLastLines until z a.lines a.rest) (text_whole h.bytes rest none) cut) empty.2) ∙ empty.3)).0 empty.4
