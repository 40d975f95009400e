-- What was answered of the windows, with one window more.
use Rattle.std.proofs.Common.{◌≡◌, ◌≢◌, ◌≤◌, ◌<◌, ◌+◌, ◌⊎◌, ◌++◌, ◌∙◌, ℕ, List, [], ◌∷◌, append-nil, arith, ap, inl, inr, length, length-append, refl, subst, sym}
use Rattle.std.proofs.lemmas.List.Concat.{flat_map-append}
use Rattle.snap_core.specs.declared.limit.Limit.{Limit}
use Rattle.snap_core.specs.declared.event.Event.{Event}
use Rattle.snap_theory.specs.Windows.{IsQuiet}
use Rattle.snap_windows.specs.Verdicts.{IsVerdict}
use Rattle.snap_follow.specs.declared.answers.Answers.{Answers}
use Rattle.snap_follow.specs.declared.course.Course.{Course}
use Rattle.snap_follow.specs.declared.follow.Follow.{Follow}
use Rattle.snap_follow.specs.declared.span.Place.{Place}
use Rattle.snap_follow.specs.declared.follow.Window.{Window}
use Rattle.snap_follow.specs.Followed.{HasRead, IsInTime, ReadsMore}
use Rattle.snap_follow.specs.Misses.{AreMissed}
use Rattle.snap_follow.specs.Places.{IsSpanIn}
use Rattle.snap_follow.proofs.Missing.{missed_grown}
use Rattle.snap_follow.specs.Spans.{IsSpanOf, stop}
use Rattle.snap_follow.proofs.Placing.{Grows, grows_by, snoc_cases, span_grown}
use Rattle.snap_follow.specs.Windows.{EndsFirst, HasEnded, IsToldAfter, Told, events_of}
use Rattle.snap_follow.specs.inside.Courses.{HasJudged, TakesLines}
use Rattle.snap_follow.specs.inside.Sums.{AddsLast, AddsWindow, HasAnswered, HasTold, HasToldAll}

no_events : (xs : List Event) → length xs ≡ 0 → xs ≡ []
no_events [] none = refl
no_events (x ∷ xs) none = absurd (omega (arith, none))

-- a front of some events and one more, which has not all of them, is a front of the events
front_of : (since : List Event) (x : Event) (front rest : List Event) → since ++ x ∷ [] ≡ front ++ rest → rest ≢ [] → (r : List Event) × (since ≡ front ++ r)
front_of since x [] rest parts some = (since, refl)
front_of [] x (a ∷ front) rest parts some = absurd (some (no_events rest (omega (arith, ap length parts, length-append front rest))))
front_of (s ∷ since) x (a ∷ front) rest parts some =
    let tails : since ++ x ∷ [] ≡ front ++ rest = cc in
    let deep = front_of since x front rest tails some in
    let found : since ≡ front ++ deep.0 = deep.1 in
    (deep.0, cc)

pub none_first : (least : ℕ) (before : List Event) → EndsFirst least before []
none_first least before front rest parts some more quiet = absurd (some (no_events front (omega (arith, ap length parts, length-append front rest))))

-- no window could have ended before the event that comes next
first_one : (least : ℕ) (events before since : List Event) (x : Event) → events ≡ before ++ since → IsInTime least events since → EndsFirst least before since → EndsFirst least before (since ++ x ∷ [])
first_one least events before since x is in_time first front rest parts some more quiet = go found.0 found.1
  where
    found : (r : List Event) × (since ≡ front ++ r)
    found = front_of since x front rest parts more

    here : since ≡ front → (length since < least) ⊎ (since ≡ []) → length front < least
    here same (inl short) = subst (λ z. length z < least) same short
    here same (inr none) = absurd (some (sym same ∙ none))

    go : (r : List Event) → since ≡ front ++ r → length front < least
    go [] same =
        let all : since ≡ front = same ∙ append-nil front in
        here all (in_time (subst IsQuiet (ap (λ z. before ++ z) (sym all) ∙ sym is) quiet))
    go (y ∷ r) same = first front (y ∷ r) same some (λ none. absurd (omega (arith, ap length none))) quiet

first_more : (least : ℕ) (events before since more : List Event) → length more ≤ 1 → events ≡ before ++ since → IsInTime least events since → EndsFirst least before since → EndsFirst least before (since ++ more)
first_more least events before since [] small is in_time first = subst (EndsFirst least before) (sym (append-nil since)) first
first_more least events before since (x ∷ y ∷ more) small is in_time first = absurd (omega (arith, small))
first_more least events before since (x ∷ []) small is in_time first = first_one least events before since x is in_time first

-- of windows and one more, each is that one or one of the others
each_more : (P : List Told → Told → Type 0) (told : List Told) (t : Told) → ((front behind : List Told) (x : Told) → told ≡ front ++ x ∷ behind → P front x) → P told t →
    (front behind : List Told) (x : Told) → told ++ t ∷ [] ≡ front ++ x ∷ behind → P front x
each_more P told t each one front behind x is = go (snoc_cases told t front x behind is)
  where
    go : ((behind ≡ []) × (front ≡ told) × (x ≡ t)) ⊎ ((b : List Told) × (told ≡ front ++ x ∷ b)) → P front x
    go (inl p) = subst (λ z. P z x) (sym p.1) (subst (P told) (sym p.2) one)
    go (inr q) = each front q.0 x q.1

each_but_last : (P : List Told → Told → Type 0) (told : List Told) (t : Told) → ((front behind : List Told) (x : Told) → told ≡ front ++ x ∷ behind → P front x) →
    (front behind : List Told) (x : Told) → told ++ t ∷ [] ≡ front ++ x ∷ behind → behind ≢ [] → P front x
each_but_last P told t each front behind x is some = go (snoc_cases told t front x behind is)
  where
    go : ((behind ≡ []) × (front ≡ told) × (x ≡ t)) ⊎ ((b : List Told) × (told ≡ front ++ x ∷ b)) → P front x
    go (inl p) = absurd (some p.0)
    go (inr q) = each front q.0 x q.1

events_more : (told : List Told) (t : Told) (before since : List Event) → events_of told ≡ before → t.events ≡ since → events_of (told ++ t ∷ []) ≡ before ++ since
events_more told t before since b s = flat_map-append (λ x. x.events) told (t ∷ []) ∙ ap (λ z. events_of told ++ z) (append-nil t.events ∙ s) ∙ ap (λ z. z ++ since) b

-- what is so of a window that was found is so of it where it was written
told_after : (least : ℕ) (most : Limit) (stands : List Place) (told : List Told) (t : Told) (before since : List Event) (window : Window) → t.window ≡ window → t.events ≡ since → t.number ≡ stop (length told + 1) → events_of told ≡ before →
    IsSpanOf window.span since → IsSpanIn window.span stands (length before) (length since) → AreMissed stands before since window.span.missed → IsVerdict most.writers window.verdict before since → EndsFirst least before since → (0 < least → since ≢ []) → IsToldAfter least most stands told t
told_after least most stands told t before since window w e n b span places missed verdict first some = record {
  number = n;
  span = subst (λ z. IsSpanOf z.span t.events) (sym w) (subst (IsSpanOf window.span) (sym e) span);
  places = subst (λ z. IsSpanIn z.span stands (length (events_of told)) (length t.events)) (sym w) (subst (λ z. IsSpanIn window.span stands (length z) (length t.events)) (sym b) (subst (λ z. IsSpanIn window.span stands (length before) (length z)) (sym e) places));
  missed = subst (λ z. AreMissed stands (events_of told) t.events z.span.missed) (sym w) (subst (λ z. AreMissed stands z t.events window.span.missed) (sym b) (subst (λ z. AreMissed stands before z window.span.missed) (sym e) missed));
  verdict = subst (λ z. IsVerdict most.writers z.verdict (events_of told) t.events) (sym w) (subst (λ z. IsVerdict most.writers window.verdict z t.events) (sym b) (subst (IsVerdict most.writers window.verdict before) (sym e) verdict));
  first = subst (λ z. EndsFirst least z t.events) (sym b) (subst (EndsFirst least before) (sym e) first);
  some = λ lt none. some lt (sym e ∙ none);
}

-- a window that has ended was answered
window_told : (a b : Answers) (gone : List ℕ) (least : ℕ) (most : Limit) (stands : List Place) (before since : List Event) (window : Window) → HasTold a gone least most stands before → AddsWindow a b window →
    IsSpanOf window.span since → IsSpanIn window.span stands (length before) (length since) → AreMissed stands before since window.span.missed → IsVerdict most.writers window.verdict before since → EndsFirst least before since → HasEnded least before since → HasTold b gone least most stands (before ++ since)
window_told a b gone least most stands before since window h adds span places missed verdict first ended =
    let next = adds gone h.told since span h.answered in
    record {
      told = h.told ++ next.0 ∷ [];
      answered = next.4;
      all = events_more h.told next.0 before since h.all next.2;
      each = each_more (λ front x. IsToldAfter least most stands front x) h.told next.0 h.each
          (told_after least most stands h.told next.0 before since window next.1 next.2 next.3 h.all span places missed verdict first (λ some none. omega (arith, ended.0, some, ap length none)));
      ended = each_more (λ front x. HasEnded least (events_of front) x.events) h.told next.0 h.ended
          (subst (λ z. HasEnded least z next.0.events) (sym h.all) (subst (HasEnded least before) (sym next.2) ended));
    }

-- what was told stays so once the places have grown
pub told_grown : (a : Answers) (gone : List ℕ) (least : ℕ) (most : Limit) (all new : List Place) (before : List Event) → Grows all new → HasTold a gone least most all before → HasTold a gone least most new before
told_grown a gone least most all new before grows h = record {
  told = h.told;
  answered = h.answered;
  all = h.all;
  each = λ front behind t is.
      let was = h.each front behind t is in
      record {
        number = was.number;
        span = was.span;
        places = span_grown t.window.span all new (length (events_of front)) (length t.events) grows was.places;
        missed = missed_grown all new (events_of front) t.events t.window.span.missed grows was.missed;
        verdict = was.verdict;
        first = was.first;
        some = was.some;
      };
  ended = h.ended;
}

-- no window was answered so far
pub none_told : (a : Answers) (least : ℕ) (most : Limit) (stands : List Place) → HasAnswered a [] [] → HasTold a [] least most stands []
none_told a least most stands answered = record {
  told = [];
  answered = answered;
  all = refl;
  each = λ front behind t is. absurd (omega (arith, ap length is, length-append front (t ∷ behind)));
  ended = λ front behind t is. absurd (omega (arith, ap length is, length-append front (t ∷ behind)));
}

-- lines were read, and a window ended after them
pub cut_then : (c d : Course) (g : Follow) (added : List (List ℕ)) (window : Window) → ReadsMore c.follow g added →
    ((least : ℕ) (most : Limit) (texts : List (List (List ℕ))) (lines : List (List ℕ)) (events : List Event) (h : HasRead g least most texts lines events) → (n : HasRead d.follow least most texts lines events) × (n.before ≡ h.before ++ h.since) × (n.since ≡ []) × (n.places ≡ h.places)) →
    ((least : ℕ) (most : Limit) (texts : List (List (List ℕ))) (lines : List (List ℕ)) (events : List Event) (h : HasRead g least most texts lines events) → IsVerdict most.writers window.verdict h.before h.since) →
    ((least : ℕ) (most : Limit) (texts : List (List (List ℕ))) (lines : List (List ℕ)) (events : List Event) (h : HasRead g least most texts lines events) → least ≤ length h.since) →
    window.span ≡ g.span → AddsWindow c.answers d.answers window → TakesLines c d added
cut_then c d g added window reads ends verdict enough span adds gone least most texts lines events h =
    let read = reads least most texts lines events h.read in
    let r = read.2 in
    let next = ends least most texts (lines ++ added) (events ++ read.0) r in
    let told = told_grown c.answers gone least most h.read.places r.places h.read.before (grows_by h.read.places r.places read.5 read.6) h.told in
    let first : EndsFirst least r.before r.since =
    subst (λ z. EndsFirst least z r.since) (sym read.3) (subst (EndsFirst least h.read.before) (sym read.4) (first_more least events h.read.before h.read.since read.0 read.1 h.read.windows h.in_time h.first)) in (
      read.0,
      record {
        read = next.0;
        in_time = λ quiet. inr next.2;
        first = subst (EndsFirst least next.0.before) (sym next.2) (none_first least next.0.before);
        told = subst (λ z. HasTold d.answers gone least most z next.0.before) (sym next.3) (subst (HasTold d.answers gone least most r.places) (sym next.1)
            (window_told c.answers d.answers gone least most r.places r.before r.since window (subst (HasTold c.answers gone least most r.places) (sym read.3) told) adds
            (subst (λ z. IsSpanOf z r.since) (sym span) r.span_is) (subst (λ z. IsSpanIn z r.places (length r.before) (length r.since)) (sym span) r.span_in) (subst (λ z. AreMissed r.places r.before r.since z.missed) (sym span) r.missed)
            (verdict least most texts (lines ++ added) (events ++ read.0) r) first
            (enough least most texts (lines ++ added) (events ++ read.0) r, subst IsQuiet next.1 next.0.taken.quiet)));
      },
    )

-- or none could end there
pub none_then : (c d : Course) (g : Follow) (added : List (List ℕ)) → ReadsMore c.follow g added → d.follow ≡ g → d.answers ≡ c.answers →
    ((least : ℕ) (most : Limit) (texts : List (List (List ℕ))) (lines : List (List ℕ)) (events : List Event) (r : HasRead g least most texts lines events) → IsQuiet events → length r.since < least) → TakesLines c d added
none_then c d g added reads same kept short gone least most texts lines events h =
    let read = reads least most texts lines events h.read in
    let r = read.2 in
    let first : EndsFirst least r.before r.since =
    subst (λ z. EndsFirst least z r.since) (sym read.3) (subst (EndsFirst least h.read.before) (sym read.4) (first_more least events h.read.before h.read.since read.0 read.1 h.read.windows h.in_time h.first)) in (
      read.0,
      subst (λ z. HasJudged z d.answers gone least most texts (lines ++ added) (events ++ read.0)) (sym same) (subst (λ z. HasJudged g z gone least most texts (lines ++ added) (events ++ read.0)) (sym kept) (record {
        read = r;
        in_time = λ quiet. inl (short least most texts (lines ++ added) (events ++ read.0) r quiet);
        first = first;
        told = subst (HasTold c.answers gone least most r.places) (sym read.3)
            (told_grown c.answers gone least most h.read.places r.places h.read.before (grows_by h.read.places r.places read.5 read.6) h.told);
      })),
    )

-- the last window was answered, if there is one
no_last : (since : List Event) (n : ℕ) → n ≡ stop (length since) → n ≡ 0 → since ≡ []
no_last since n is none = no_events since (omega (arith, is, none))

pub all_told : (f : Follow) (a b : Answers) (window : Window) → window.span ≡ f.span →
    ((least : ℕ) (most : Limit) (texts : List (List (List ℕ))) (lines : List (List ℕ)) (events : List Event) (h : HasRead f least most texts lines events) → IsVerdict most.writers window.verdict h.before h.since) →
    AddsLast a b window → (gone : List ℕ) (least : ℕ) (most : Limit) (texts : List (List (List ℕ))) (lines : List (List ℕ)) (events : List Event) (h : HasJudged f a gone least most texts lines events) → HasToldAll b gone least most h.read.places events
all_told f a b window span verdict adds gone least most texts lines events h = go adds
  where
    spans : IsSpanOf window.span h.read.since
    spans = subst (λ z. IsSpanOf z h.read.since) (sym span) h.read.span_is

    places : IsSpanIn window.span h.read.places (length h.read.before) (length h.read.since)
    places = subst (λ z. IsSpanIn z h.read.places (length h.read.before) (length h.read.since)) (sym span) h.read.span_in

    go : AddsLast a b window → HasToldAll b gone least most h.read.places events
    go (inl (none, same)) =
        let since : h.read.since ≡ [] = no_last h.read.since window.span.events spans.events_are none in
        record {
          told = h.told.told;
          answered = subst (λ z. HasAnswered z gone h.told.told) (sym same) h.told.answered;
          windows = record {
            all = h.told.all ∙ sym (h.read.windows ∙ ap (λ z. h.read.before ++ z) since ∙ append-nil h.read.before);
            each = h.told.each;
            ended = λ front behind t is some. h.told.ended front behind t is;
          };
        }
    go (inr (some, adds_one)) =
        let next = adds_one gone h.told.told h.read.since spans h.told.answered in
        record {
          told = h.told.told ++ next.0 ∷ [];
          answered = next.4;
          windows = record {
            all = events_more h.told.told next.0 h.read.before h.read.since h.told.all next.2 ∙ sym h.read.windows;
            each = each_more (λ front x. IsToldAfter least most h.read.places front x) h.told.told next.0 h.told.each
                (told_after least most h.read.places h.told.told next.0 h.read.before h.read.since window next.1 next.2 next.3 h.told.all spans places (subst (λ z. AreMissed h.read.places h.read.before h.read.since z.missed) (sym span) h.read.missed) (verdict least most texts lines events h.read) h.first
                (λ lt none. omega (arith, some, spans.events_are, ap length none)));
            ended = each_but_last (λ front x. HasEnded least (events_of front) x.events) h.told.told next.0 h.told.ended;
          };
        }
