-- How many calls are open after the events of a history.
use Rattle.std.proofs.Common.{◌≡◌, ◌≤◌, ◌+◌, ◌-◌, ◌%◌, ℕ, zero, suc, Bool, true, false, cond, not, List, [], ◌∷◌, ◌++◌, length, refl, sym, ap, ◌∙◌, subst, arith}
use Rattle.std.specs.Prelude.{◌==◌}
use Rattle.std.specs.List.{count_by, filter}
use Rattle.std.proofs.lemmas.Bool.{eq-eqb, eqb-false, eqb-true}
use Rattle.std.proofs.lemmas.List.Sums.{count_by-le-length, length-filter, sum_by-append}
use Rattle.snap_core.specs.declared.event.Event.{Event}
use Rattle.snap_core.specs.declared.event.Event.TheVariants.{BeginUpdate, BeginView, EndUpdate, EndView}
use Rattle.snap_core.specs.Events.{process_of, IsBegin, Ends, TakeTurns, events_of, IsWellFormed}
use Rattle.snap_core.specs.Refusals.{is_begin}
use Rattle.snap_core.proofs.Lists.{count-cons}
use Rattle.snap_theory.specs.Windows.{IsQuiet}
use Rattle.snap_theory.proofs.Sides.{even_quiet}
use Rattle.snap_follow.specs.Followed.{open_after}
use Rattle.snap_follow.specs.inside.Counts.{CountsOpen}

abbrev is_end : Event → Bool
is_end x = not (is_begin x)

-- a count over all events, by those of each process

abbrev others : ℕ → List Event → List Event
others p es = filter (λ x. not (process_of x == p)) es

parted : (f : Event → Bool) (p : ℕ) (es : List Event) → count_by f es ≡ count_by f (events_of p es) + count_by f (others p es)
parted f p [] = refl
parted f p (x ∷ es) = go (process_of x == p) (parted f p es)
  where
    go : (b : Bool) → count_by f es ≡ count_by f (events_of p es) + count_by f (others p es) → count_by f (x ∷ es) ≡ count_by f (cond b (x ∷ events_of p es) (events_of p es)) + count_by f (cond (not b) (x ∷ others p es) (others p es))
    go true rest = omega (arith, rest, count-cons f x es, count-cons f x (events_of p es))
    go false rest = omega (arith, rest, count-cons f x es, count-cons f x (others p es))

none_left : (p : ℕ) (es : List Event) → events_of p (others p es) ≡ []
none_left p [] = refl
none_left p (x ∷ es) = go (process_of x == p) refl (none_left p es)
  where
    go : (b : Bool) → (process_of x == p) ≡ b → events_of p (others p es) ≡ [] → events_of p (cond (not b) (x ∷ others p es) (others p es)) ≡ []
    go true t rest = rest
    go false t rest = ap (λ b. cond b (x ∷ events_of p (others p es)) (events_of p (others p es))) t ∙ rest

all_left : (p q : ℕ) (es : List Event) → (q ≡ p → ⊥) → events_of q (others p es) ≡ events_of q es
all_left p q [] other = refl
all_left p q (x ∷ es) other = go (process_of x == p) refl (process_of x == q) refl (all_left p q es other)
  where
    go : (b : Bool) → (process_of x == p) ≡ b → (c : Bool) → (process_of x == q) ≡ c → events_of q (others p es) ≡ events_of q es → events_of q (cond (not b) (x ∷ others p es) (others p es)) ≡ cond c (x ∷ events_of q es) (events_of q es)
    go true s true t rest = absurd (other (sym (eqb-true _ _ t) ∙ eqb-true _ _ s))
    go true s false t rest = rest
    go false s c t rest = ap (λ b. cond b (x ∷ events_of q (others p es)) (events_of q (others p es))) t ∙ ap (λ z. cond c (x ∷ z) z) rest

few_by : (a b c d : ℕ) → a ≡ b → b ≡ c → c ≤ d → a ≤ d
few_by a b c d first second few = omega (arith, first, second, few)

fewer_left : (x : Event) (es : List Event) → length (others (process_of x) (x ∷ es)) ≤ length es
fewer_left x es =
    let p = process_of x in
    few_by _ _ _ _ (ap (λ b. length (cond (not b) (x ∷ others p es) (others p es))) (eq-eqb p p refl)) (length-filter (λ y. not (process_of y == p)) es) (count_by-le-length (λ y. not (process_of y == p)) es)

both_few : (a b c d e f : ℕ) → a ≡ b + c → d ≡ e + f → b ≤ e → c ≤ f → a ≤ d
both_few a b c d e f first second here there = omega (arith, first, second, here, there)

by_process : (f g : Event → Bool) (n : ℕ) (es : List Event) → length es ≤ n → ((p : ℕ) → count_by f (events_of p es) ≤ count_by g (events_of p es)) → count_by f es ≤ count_by g es
by_process f g n [] short each = omega arith
by_process f g zero (x ∷ es) short each = absurd (omega (arith, short))
by_process f g (suc n) (x ∷ es) short each =
    let p = process_of x in
    both_few _ _ _ _ _ _ (parted f p (x ∷ es)) (parted g p (x ∷ es)) (each p) (by_process f g n (others p (x ∷ es)) (omega (arith, short, fewer_left x es)) left)
  where
    left : (q : ℕ) → count_by f (events_of q (others (process_of x) (x ∷ es))) ≤ count_by g (events_of q (others (process_of x) (x ∷ es)))
    left q = go (q == process_of x) refl
      where
        go : (b : Bool) → (q == process_of x) ≡ b → count_by f (events_of q (others (process_of x) (x ∷ es))) ≤ count_by g (events_of q (others (process_of x) (x ∷ es)))
        go true t =
            subst (λ z. count_by f (events_of z (others (process_of x) (x ∷ es))) ≤ count_by g (events_of z (others (process_of x) (x ∷ es)))) (sym (eqb-true _ _ t))
            (subst (λ z. count_by f z ≤ count_by g z) (sym (none_left (process_of x) (x ∷ es))) (omega arith))
        go false t = subst (λ z. count_by f z ≤ count_by g z) (sym (all_left (process_of x) q (x ∷ es) (eqb-false _ _ t))) (each q)

-- begins and ends of one process

begin_first : (b : Event) → IsBegin b → is_begin b ≡ true
begin_first (BeginUpdate p e) h = refl
begin_first (BeginView p) h = refl
begin_first (EndUpdate p) h = absurd h
begin_first (EndView p es) h = absurd h

begin_and_end : (b e : Event) → Ends b e → (is_begin b ≡ true) × (is_begin e ≡ false)
begin_and_end (BeginUpdate p d) (EndUpdate q) h = (refl, refl)
begin_and_end (BeginView p) (EndView q es) h = (refl, refl)
begin_and_end (BeginUpdate p d) (BeginUpdate q e) h = absurd h
begin_and_end (BeginUpdate p d) (BeginView q) h = absurd h
begin_and_end (BeginUpdate p d) (EndView q es) h = absurd h
begin_and_end (BeginView p) (BeginUpdate q e) h = absurd h
begin_and_end (BeginView p) (BeginView q) h = absurd h
begin_and_end (BeginView p) (EndUpdate q) h = absurd h
begin_and_end (EndUpdate p) e h = absurd h
begin_and_end (EndView p es) e h = absurd h

counted : (f : Event → Bool) (x : Event) (es : List Event) (b : Bool) → f x ≡ b → count_by f (x ∷ es) ≡ cond b 1 0 + count_by f es
counted f x es b is = count-cons f x es ∙ ap (λ z. cond z 1 0 + count_by f es) is

turns_ended : (es : List Event) → TakeTurns es → count_by is_end es ≤ count_by is_begin es
turns_ended [] t = omega arith
turns_ended (b ∷ []) t = omega (arith, counted is_end b [] false (ap not (begin_first b t)))
turns_ended (b ∷ e ∷ es) t =
    let both = begin_and_end b e t.0 in
    omega (arith, counted is_end b (e ∷ es) false (ap not both.0), counted is_begin b (e ∷ es) true both.0, counted is_end e es true (ap not both.1), turns_ended es t.1, counted is_begin e es false both.1)

turns_even : (es : List Event) → TakeTurns es → length es % 2 ≡ 0 → count_by is_begin es ≤ count_by is_end es
turns_even [] t even = omega arith
turns_even (b ∷ []) t even = absurd (omega (arith, even))
turns_even (b ∷ e ∷ es) t even =
    let both = begin_and_end b e t.0 in
    omega (arith, counted is_end b (e ∷ es) false (ap not both.0), counted is_begin b (e ∷ es) true both.0, counted is_end e es true (ap not both.1), counted is_begin e es false both.1, turns_even es t.1 (omega (arith, even)))

-- of all of them

ended_few : (events : List Event) → IsWellFormed events → count_by is_end events ≤ count_by is_begin events
ended_few events h = by_process is_end is_begin (length events) events (omega arith) (λ p. turns_ended (events_of p events) (h p))

-- where no call is open, none counts as open
pub none_open : (events : List Event) → IsWellFormed events → IsQuiet events → open_after events ≡ 0
none_open events h quiet =
    let all = by_process is_begin is_end (length events) events (omega arith) (λ p. turns_even (events_of p events) (h p) (even_quiet events quiet p (h p))) in
    omega (arith, all)

-- one event more
pub open_more : (events : List Event) (x : Event) (before after : ℕ) → IsWellFormed events → before ≤ open_after events → CountsOpen before x after → after ≤ open_after (events ++ x ∷ [])
open_more events x before after h few counts = go (is_begin x) refl counts
  where
    pushed : (f : Event → Bool) (b : Bool) → f x ≡ b → count_by f (events ++ x ∷ []) ≡ count_by f events + cond b 1 0
    pushed f b is = omega (arith, sum_by-append (λ y. cond (f y) 1 0) events (x ∷ []), counted f x [] b is)

    go : (b : Bool) → is_begin x ≡ b → after ≤ cond b (before + 1) (before - 1) → after ≤ open_after (events ++ x ∷ [])
    go true is c = omega (arith, c, few, ended_few events h, pushed is_begin true is, pushed is_end false (ap not is))
    go false is c = omega (arith, c, few, pushed is_begin false is, pushed is_end true (ap not is))
