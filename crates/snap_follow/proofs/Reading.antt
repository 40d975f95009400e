-- What a recording says with one line more, or with one text more.
use Rattle.std.proofs.Common.{◌≡◌, ◌≢◌, ◌+◌, ◌-◌, ◌^◌, min, ℕ, Bool, true, false, cond, if◌then◌else◌, List, [], ◌∷◌, ◌++◌, length, length-append, arith, append_assoc, append-nil, flat_map, None, Result, Ok, Err, refl, sym, ap, ◌∙◌, subst, inl, inr}
use Rattle.std.specs.Prelude.{OnOk, count_by}
use Rattle.std.proofs.lemmas.Bool.{false≢true}
use Rattle.std.proofs.lemmas.List.{length-map, map-append}
use Rattle.std.proofs.lemmas.List.Sums.{sum_by_push}
use Rattle.std.proofs.lemmas.Grind.{flat_map-append}
use Rattle.snap_core.specs.declared.limit.Limit.{Limit}
use Rattle.snap_core.specs.declared.event.Event.{Event}
use Rattle.snap_core.specs.Events.{IsWellFormed}
use Rattle.snap_core.proofs.OrderedPushes.{is_ordered_by}
use Rattle.snap_format.specs.Rows.{rows_of}
use Rattle.snap_text.specs.Fields.{Fields}
use Rattle.snap_windows.specs.Taken.{HasTaken}
use Rattle.snap_follow.specs.declared.follow.Follow.{Follow}
use Rattle.snap_follow.specs.declared.form.Form.{Form}
use Rattle.snap_follow.specs.declared.form.Form.TheVariants.{Plain, Stamped}
use Rattle.snap_follow.specs.declared.span.Place.{Place}
use Rattle.snap_follow.specs.declared.waiting.Turn.{Turn}
use Rattle.snap_follow.specs.Followed.{AllSpell, AreWaiting, EndsText, HasRead, IsFormOf, IsNext, IsPlaceOf, ReadsMore, SaysSoFar}
use Rattle.snap_follow.specs.Misses.{AreMissed, MissesNext}
use Rattle.snap_follow.specs.Places.{IsPlaceOfEvent, IsSpanIn}
use Rattle.snap_follow.specs.Spans.{HasOneMore, IsSpanOf, ends_view}
use Rattle.snap_follow.specs.Turns.{RiseFrom, Spells, after_given, events_of, places_of, stamps_of}
use Rattle.snap_follow.specs.inside.Counts.{CountsOpen}
use Rattle.snap_follow.proofs.Missing.{missed_more, none_missed}
use Rattle.snap_follow.proofs.Opening.{open_more}
use Rattle.snap_follow.proofs.Placing.{grows_by, place_last, span_of_none, span_with}

pub rows_more : (lines : List (List ℕ)) (line : List ℕ) → flat_map rows_of (lines ++ line ∷ []) ≡ flat_map rows_of lines ++ rows_of line
rows_more lines line = flat_map-append rows_of lines (line ∷ []) ∙ ap (λ z. flat_map rows_of lines ++ z) (append-nil (rows_of line))

-- from how many events on a window ends, and how many it has at most, stay
abbrev pub KeepsRule : Follow → Follow → Type 0
KeepsRule f g = (g.least ≡ f.least) × (g.judge.most ≡ f.judge.most)

-- the place stays where no record comes, and otherwise goes on by one
pub place_stays : (f g : Follow) (texts : List (List (List ℕ))) (lines : List (List ℕ)) (line : List ℕ) → g.place ≡ f.place → rows_of line ≡ [] → IsPlaceOf f.place texts lines → IsPlaceOf g.place texts (lines ++ line ∷ [])
place_stays f g texts lines line same none h = record {
  text_is = ap (λ p. p.text) same ∙ h.text_is;
  record_is = ap (λ p. p.number) same ∙ h.record_is ∙ ap (λ z. min (length z) (2 ^ 64 - 1)) (sym (rows_more lines line ∙ ap (λ z. flat_map rows_of lines ++ z) none ∙ append-nil (flat_map rows_of lines)));
}

one_more : (a b n m : ℕ) → b ≡ min (a + 1) (2 ^ 64 - 1) → a ≡ min n (2 ^ 64 - 1) → m ≡ n + 1 → b ≡ min m (2 ^ 64 - 1)
one_more a b n m next was more = omega (arith, next, was, more)

pub place_next : (f g : Follow) (texts : List (List (List ℕ))) (lines : List (List ℕ)) (line : List ℕ) (row : Fields) → IsNext f.place g.place → rows_of line ≡ row ∷ [] → IsPlaceOf f.place texts lines → IsPlaceOf g.place texts (lines ++ line ∷ [])
place_next f g texts lines line row next rows h = record {
  text_is = next.0 ∙ h.text_is;
  record_is = one_more f.place.number g.place.number (length (flat_map rows_of lines)) (length (flat_map rows_of (lines ++ line ∷ []))) next.1 h.record_is
      (ap length (rows_more lines line ∙ ap (λ z. flat_map rows_of lines ++ z) rows) ∙ length-append (flat_map rows_of lines) (row ∷ []));
}

count_more : (a b n m k : ℕ) → b ≡ min (a + k) (2 ^ 64 - 1) → a ≡ min n (2 ^ 64 - 1) → m ≡ n + k → b ≡ min m (2 ^ 64 - 1)
count_more a b n m k next was more = omega (arith, next, was, more)

one_view : (b : Bool) → ◌≡◌ {A = ℕ} (cond b 1 0) (if b then 1 else 0)
one_view true = refl
one_view false = refl

span_more : (f g : Follow) (since : List Event) (x : Event) (p : Place) → HasOneMore f.span x p g.span → IsSpanOf f.span since → IsSpanOf g.span (since ++ x ∷ [])
span_more f g since x p next h = record {
  events_are = count_more f.span.events g.span.events (length since) (length (since ++ x ∷ [])) 1 next.0 h.events_are (length-append since (x ∷ []));
  views_are = count_more f.span.views g.span.views (count_by ends_view since) (count_by ends_view (since ++ x ∷ [])) (if ends_view x then 1 else 0) next.1 h.views_are
      (sum_by_push (λ e. cond (ends_view e) 1 0) since x ∙ ap (λ z. count_by ends_view since + z) (one_view (ends_view x)));
}

-- the judge was given nothing more, and lines more were read
abbrev pub ReadsNone : Follow → Follow → List (List ℕ) → Type 0
ReadsNone old new added = (least : ℕ) (most : Limit) (texts : List (List (List ℕ))) (lines : List (List ℕ)) (events : List Event) (h : HasRead old least most texts lines events) →
    (n : HasRead new least most texts (lines ++ added) events) × (n.before ≡ h.before) × (n.since ≡ h.since) × (n.places ≡ h.places)

-- the same judge, with the same window at hand
abbrev pub KeepsJudge : Follow → Follow → Type 0
KeepsJudge f g = (g.judge ≡ f.judge) × (g.span ≡ f.span) × (g.least ≡ f.least) × (g.open_calls ≡ f.open_calls)

-- what the lines say, of which the judge was given no event more
abbrev pub SaysStill : Follow → Follow → List (List ℕ) → Type 0
SaysStill f g added = (form : Form) (texts : List (List (List ℕ))) (lines : List (List ℕ)) (earlier here : List Turn) → IsFormOf f form texts → AllSpell form 0 texts earlier → SaysSoFar f form (length texts) lines (here ++ f.waiting.turns.items) → AreWaiting form f (earlier ++ here) → IsPlaceOf f.place texts lines →
    (new : Form) × IsFormOf g new texts × AllSpell new 0 texts earlier × SaysSoFar g new (length texts) (lines ++ added) (here ++ g.waiting.turns.items) × AreWaiting new g (earlier ++ here) × IsPlaceOf g.place texts (lines ++ added)

pub reads_none : (f g : Follow) (added : List (List ℕ)) → KeepsJudge f g → SaysStill f g added → ReadsNone f g added
reads_none f g added keeps says least most texts lines events h =
    let next = says h.form texts lines h.earlier h.here h.form_is h.texts_say h.lines_say h.waiting h.place_is in (
      record {
        least_is = keeps.2 ∙ h.least_is;
        most_is = ap (λ z. z.most) keeps.0 ∙ h.most_is;
        opened = rw keeps.3 h.opened;
        before = h.before;
        since = h.since;
        taken = subst (λ z. HasTaken z h.before h.since) (sym keeps.0) h.taken;
        windows = h.windows;
        span_is = subst (λ z. IsSpanOf z h.since) (sym keeps.1) h.span_is;
        form = next.0;
        form_is = next.1;
        earlier = h.earlier;
        here = h.here;
        said = h.said;
        places = h.places;
        places_are = h.places_are;
        span_in = subst (λ z. IsSpanIn z h.places (length h.before) (length h.since)) (sym keeps.1) h.span_in;
        missed = subst (λ z. AreMissed h.places h.before h.since z.missed) (sym keeps.1) h.missed;
        texts_say = next.2;
        lines_say = next.3;
        waiting = next.4;
        place_is = next.5;
      },
      refl,
      refl,
      refl,
    )

-- that is to read nothing more or one event
pub none_reads : (f g : Follow) (added : List (List ℕ)) → ReadsNone f g added → ReadsMore f g added
none_reads f g added reads least most texts lines events h =
    let next = reads least most texts lines events h in
    let n = next.0 in
    let all = subst (λ z. (m : HasRead g least most texts (lines ++ added) z) × (m.before ≡ n.before) × (m.since ≡ n.since) × (m.places ≡ n.places)) (sym (append-nil events)) (n, refl, refl, refl) in
    ([], omega arith, all.0, all.1 ∙ next.1, all.2 ∙ next.2 ∙ sym (append-nil h.since), [], all.3 ∙ next.3 ∙ sym (append-nil h.places))

pub reads_then : (f b g : Follow) (added : List (List ℕ)) → ReadsNone f b added → ReadsMore b g [] → ReadsMore f g added
reads_then f b g added first second least most texts lines events h =
    let one = first least most texts lines events h in
    let two = second least most texts (lines ++ added) events one.0 in
    let n = two.2 in
    let all = subst (λ z. (m : HasRead g least most texts z (events ++ two.0)) × (m.before ≡ n.before) × (m.since ≡ n.since) × (m.places ≡ n.places)) (append-nil (lines ++ added)) (n, refl, refl, refl) in
    (two.0, two.1, all.0, all.1 ∙ two.3 ∙ one.1, all.2 ∙ two.4 ∙ ap (λ z. z ++ two.0) one.2, two.5, all.3 ∙ two.6 ∙ ap (λ z. z ++ two.5) one.3)

-- what the lines say, of which the judge was given one event more
abbrev pub SaysOne : Follow → Follow → Turn → List (List ℕ) → Type 0
SaysOne f g turn added = (form : Form) (texts : List (List (List ℕ))) (lines : List (List ℕ)) (earlier here : List Turn) → IsFormOf f form texts → AllSpell form 0 texts earlier → SaysSoFar f form (length texts) lines (here ++ f.waiting.turns.items) → AreWaiting form f (earlier ++ here) → IsPlaceOf f.place texts lines →
    IsFormOf g form texts × SaysSoFar g form (length texts) (lines ++ added) ((here ++ turn ∷ []) ++ g.waiting.turns.items) × AreWaiting form g (earlier ++ (here ++ turn ∷ [])) × IsPlaceOf g.place texts (lines ++ added)

-- the events are a history
pub read_well_formed : (f : Follow) {least : ℕ} {most : Limit} {texts : List (List (List ℕ))} {lines : List (List ℕ)} {events : List Event} → HasRead f least most texts lines events → IsWellFormed events
read_well_formed f h = subst IsWellFormed (sym h.windows) (is_ordered_by f.judge.most.writers _ h.taken.history).well_formed

pub reads_one : (f g : Follow) (turn : Turn) (added : List (List ℕ)) → KeepsRule f g → CountsOpen f.open_calls turn.event g.open_calls → HasOneMore f.span turn.event turn.place g.span → MissesNext f.judge turn.event f.span.missed turn.place g.span.missed →
    ((before since : List Event) → HasTaken f.judge before since → HasTaken g.judge before (since ++ turn.event ∷ [])) → SaysOne f g turn added → ReadsMore f g added
reads_one f g turn added keeps counts one misses taken says least most texts lines events h =
    let next = says h.form texts lines h.earlier h.here h.form_is h.texts_say h.lines_say h.waiting h.place_is in (
      x ∷ [],
      omega arith,
      record {
        least_is = keeps.0 ∙ h.least_is;
        most_is = keeps.1 ∙ h.most_is;
        opened = open_more events x f.open_calls g.open_calls (read_well_formed f h) h.opened counts;
        before = h.before;
        since = h.since ++ x ∷ [];
        taken = taken h.before h.since h.taken;
        windows = ap (λ z. z ++ x ∷ []) h.windows ∙ append_assoc h.before h.since (x ∷ []);
        span_is = span_more f g h.since x turn.place one h.span_is;
        form = h.form;
        form_is = next.0;
        earlier = h.earlier;
        here = h.here ++ turn ∷ [];
        said = ap (λ z. z ++ x ∷ []) h.said ∙ sym (map-append (λ t. t.event) (h.earlier ++ h.here) (turn ∷ [])) ∙ ap events_of (append_assoc h.earlier h.here (turn ∷ []));
        places = places;
        places_are = ap (λ z. z ++ turn.place ∷ []) h.places_are ∙ sym (map-append (λ t. t.place) (h.earlier ++ h.here) (turn ∷ [])) ∙ ap places_of (append_assoc h.earlier h.here (turn ∷ []));
        span_in = span_with f.span g.span x turn.place h.places places (length h.before) h.since (h.since ++ x ∷ []) one (grows_by h.places places (turn.place ∷ []) refl) h.span_is.events_are longer now h.span_in;
        missed = missed_more f.judge h.places places h.before h.since x turn.place f.span.missed g.span.missed h.taken misses (grows_by h.places places (turn.place ∷ []) refl) (place_last h.places (length h.before + length h.since + 1) turn.place (omega (arith, count))) h.missed;
        texts_say = h.texts_say;
        lines_say = next.1;
        waiting = next.2;
        place_is = next.3;
      },
      refl,
      refl,
      turn.place ∷ [],
      refl,
    )
  where
    x : Event
    x = turn.event

    places : List Place
    places = h.places ++ turn.place ∷ []

    longer : length (h.since ++ x ∷ []) ≡ length h.since + 1
    longer = length-append h.since (x ∷ [])

    -- there are as many places as events
    count : length h.places ≡ length h.before + length h.since
    count = ap length h.places_are ∙ length-map (h.earlier ++ h.here) (λ t. t.place) ∙ sym (length-map (h.earlier ++ h.here) (λ t. t.event)) ∙ ap length (sym h.said ∙ h.windows) ∙ length-append h.before h.since

    now : IsPlaceOfEvent places (length h.before + length (h.since ++ x ∷ [])) turn.place
    now = place_last h.places (length h.before + length (h.since ++ x ∷ [])) turn.place (omega (arith, count, longer))

-- the same is so of a recording with the same header, the same that waits, and lines with the same records
pub form_as : (f g : Follow) (form : Form) (texts : List (List (List ℕ))) → g.form ≡ f.form → g.headed ≡ f.headed → g.given ≡ f.given → IsFormOf f form texts → IsFormOf g form texts
form_as f g form texts same headed given (inl (is, inl here)) = inl (same ∙ is, inl (headed ∙ here))
form_as f g form texts same headed given (inl (is, inr some)) = inl (same ∙ is, inr some)
form_as f g form texts same headed given (inr (is, unheaded, none, nothing)) = inr (same ∙ is, headed ∙ unheaded, none, given ∙ nothing)

pub waits_as : (form : Form) (f g : Follow) (taken : List Turn) → g.waiting ≡ f.waiting → g.given ≡ f.given → AreWaiting form f taken → AreWaiting form g taken
waits_as Plain f g taken waiting given h = ap (λ z. z.turns.items) waiting ∙ h
waits_as Stamped f g taken waiting given h = (subst (λ z. RiseFrom 0 (stamps_of (taken ++ z.turns.items))) (sym waiting) h.0, ap after_given given ∙ h.1)

pub says_as : (f g : Follow) (form : Form) (n : ℕ) (lines more : List (List ℕ)) (turns said : List Turn) → g.headed ≡ f.headed → flat_map rows_of more ≡ flat_map rows_of lines → said ≡ turns → SaysSoFar f form n lines turns → SaysSoFar g form n more said
says_as f g form n lines more turns said headed rows same (inl (unheaded, none, nothing)) = inl (headed ∙ unheaded, rows ∙ none, same ∙ nothing)
says_as f g form n lines more turns said headed rows same (inr (is, spells)) = inr (headed ∙ is, subst (λ z. Spells form n z said) (sym rows) (subst (Spells form n (flat_map rows_of lines)) (sym same) spells))

-- texts with one more after them
text_more : (form : Form) (n m : ℕ) (texts : List (List (List ℕ))) (text : List (List ℕ)) (earlier here : List Turn) → m ≡ n + length texts → AllSpell form n texts earlier → Spells form m (flat_map rows_of text) here → AllSpell form n (texts ++ text ∷ []) (earlier ++ here)
text_more form n m [] text earlier here is none spells = (here, [], ap (λ z. z ++ here) none ∙ sym (append-nil here), subst (λ z. Spells form z (flat_map rows_of text) here) (omega (arith, is)) spells, refl)
text_more form n m (t ∷ texts) text earlier here is (first, later, parts, says, all) spells =
    (first, later ++ here, ap (λ z. z ++ here) parts ∙ append_assoc first later here, says, text_more form (n + 1) m texts text later here (omega (arith, is)) all spells)

some_text : (texts : List (List (List ℕ))) (lines : List (List ℕ)) → texts ++ lines ∷ [] ≢ []
some_text texts lines none = omega (arith, ap length none, length-append texts (lines ∷ []))

-- a text that has a header, and ends
pub text_ended : (f g : Follow) → f.headed ≡ true → g.headed ≡ false → g.form ≡ f.form → g.waiting ≡ f.waiting → g.given ≡ f.given → KeepsJudge f g → g.place.text ≡ min (f.place.text + 1) (2 ^ 64 - 1) → g.place.number ≡ 0 → EndsText f g
text_ended f g old new form_same waiting_same given_same keeps next none least most texts lines events h nothing = (
  record {
    least_is = keeps.2 ∙ h.least_is;
    most_is = ap (λ z. z.most) keeps.0 ∙ h.most_is;
    opened = rw keeps.3 h.opened;
    before = h.before;
    since = h.since;
    taken = subst (λ z. HasTaken z h.before h.since) (sym keeps.0) h.taken;
    windows = h.windows;
    span_is = subst (λ z. IsSpanOf z h.since) (sym keeps.1) h.span_is;
    form = h.form;
    form_is = is_form h.form_is;
    earlier = h.earlier ++ h.here;
    here = [];
    said = h.said ∙ ap events_of (sym (append-nil (h.earlier ++ h.here)));
    places = h.places;
    places_are = h.places_are ∙ ap places_of (sym (append-nil (h.earlier ++ h.here)));
    span_in = subst (λ z. IsSpanIn z h.places (length h.before) (length h.since)) (sym keeps.1) h.span_in;
    missed = subst (λ z. AreMissed h.places h.before h.since z.missed) (sym keeps.1) h.missed;
    texts_say = text_more h.form 0 (length texts) texts lines h.earlier h.here (omega arith) h.texts_say (go h.lines_say);
    lines_say = inl (new, refl, none_left);
    waiting = subst (AreWaiting h.form g) (sym (append-nil (h.earlier ++ h.here))) (waits_as h.form f g (h.earlier ++ h.here) waiting_same given_same h.waiting);
    place_is = record {
      text_is = one_more f.place.text g.place.text (length texts) (length (texts ++ lines ∷ [])) next h.place_is.text_is (length-append texts (lines ∷ []));
      record_is = none;
    };
  },
  refl,
  refl,
  refl,
)
  where
    none_left : g.waiting.turns.items ≡ []
    none_left = ap (λ z. z.turns.items) waiting_same ∙ nothing

    is_form : IsFormOf f h.form texts → IsFormOf g h.form (texts ++ lines ∷ [])
    is_form (inl (is, some)) = inl (form_same ∙ is, inr (some_text texts lines))
    is_form (inr (is, unheaded, nothing_before, rest)) = absurd (false≢true (sym unheaded ∙ old))

    go : SaysSoFar f h.form (length texts) lines (h.here ++ f.waiting.turns.items) → Spells h.form (length texts) (flat_map rows_of lines) h.here
    go (inl p) = absurd (false≢true (sym p.0 ∙ old))
    go (inr q) = subst (Spells h.form (length texts) (flat_map rows_of lines)) (ap (λ z. h.here ++ z) nothing ∙ append-nil h.here) q.1

-- a window has ended
pub window_ended : (f g : Follow) → g.headed ≡ f.headed → g.form ≡ f.form → g.waiting ≡ f.waiting → g.given ≡ f.given → g.place ≡ f.place → IsSpanOf g.span [] → g.span.missed ≡ None → KeepsRule f g → g.open_calls ≡ f.open_calls → ((before since : List Event) → HasTaken f.judge before since → HasTaken g.judge (before ++ since) []) →
    (least : ℕ) (most : Limit) (texts : List (List (List ℕ))) (lines : List (List ℕ)) (events : List Event) (h : HasRead f least most texts lines events) →
    (n : HasRead g least most texts lines events) × (n.before ≡ h.before ++ h.since) × (n.since ≡ []) × (n.places ≡ h.places)
window_ended f g headed form_same waiting_same given_same place_same span none keeps calls_same ends least most texts lines events h = (
  record {
    least_is = keeps.0 ∙ h.least_is;
    most_is = keeps.1 ∙ h.most_is;
    opened = rw calls_same h.opened;
    before = h.before ++ h.since;
    since = [];
    taken = ends h.before h.since h.taken;
    windows = h.windows ∙ sym (append-nil (h.before ++ h.since));
    span_is = span;
    form = h.form;
    form_is = form_as f g h.form texts form_same headed given_same h.form_is;
    earlier = h.earlier;
    here = h.here;
    said = h.said;
    places = h.places;
    places_are = h.places_are;
    span_in = span_of_none g.span h.places (length (h.before ++ h.since));
    missed = subst (AreMissed h.places (h.before ++ h.since) []) (sym none) (none_missed h.places (h.before ++ h.since));
    texts_say = h.texts_say;
    lines_say = says_as f g h.form (length texts) lines lines (h.here ++ f.waiting.turns.items) (h.here ++ g.waiting.turns.items) headed refl (ap (λ z. h.here ++ z.turns.items) waiting_same) h.lines_say;
    waiting = waits_as h.form f g (h.earlier ++ h.here) waiting_same given_same h.waiting;
    place_is = subst (λ z. IsPlaceOf z texts lines) (sym place_same) h.place_is;
  },
  refl,
  refl,
  refl,
)

-- what an answer that is given says, and what it says in four parts
pub on_one : {X E : Type 0} (r : Result X E) (A B : Type 0) → OnOk r A → (A → B) → OnOk r B
on_one (Ok x) A B a f = f a
on_one (Err e) A B a f = tt

pub on_all : {X E : Type 0} (r : Result X E) (A B C D F : Type 0) → OnOk r A → OnOk r B → OnOk r C → OnOk r D → (A → B → C → D → F) → OnOk r F
on_all (Ok x) A B C D F a b c d f = f a b c d
on_all (Err e) A B C D F a b c d f = tt
