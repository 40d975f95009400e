-- A history with one event more.
use Rattle.std.proofs.Common.{◌≡◌, ◌⊎◌, ℕ, suc, ◌%◌, ◌<◌, Bool, true, false, cond, not, List, [], ◌∷◌, ◌++◌, append_assoc, append-nil, length, Option, Some, None, refl, sym, ap, ◌∙◌, subst, inl, inr, arith}
use Rattle.std.specs.Prelude.{◌==◌}
use Rattle.std.specs.List.{Contains, count_by, list_any}
use Rattle.std.proofs.lemmas.Bool.{false≢true, eqb-true, eqb-false, eq-eqb, ne_eqb, cases_order, false_from_ne_true, not-false, not-true, not_from_true, and_left, and_right, and_cases, and_parts, and_from, not_from_false}
use Rattle.std.proofs.lemmas.List.Elements.{filter-append}
use Rattle.std.proofs.lemmas.List.Sums.{length-filter}
use Rattle.snap_core.specs.declared.entry.Entry.{Entry}
use Rattle.snap_core.specs.Events.{Event, BeginUpdate, BeginView, EndUpdate, EndView, process_of, IsBegin, Ends, TakeTurns, events_of, IsWellFormed, begins_update_of, IsSingleWriter, IsNumbered, IsHistory}
use Rattle.snap_core.specs.declared.writers.Writers.{Writers}
use Rattle.snap_core.specs.declared.writers.Writers.TheVariants.{One}
use Rattle.snap_core.specs.Refusals.{is_begin, has_open, last_event, is_end_of, ends_last, is_busy, is_idle, is_other, is_by_other, has_other_writer, has_other_number, IsAccepted, IsAcceptedBy}
use Rattle.snap_core.proofs.Lists.{In, In-from_Contains, Contains-from_In, In-append_left, In-append_right, In-append_cases, any_from, any_to}
use Rattle.snap_core.proofs.Begun.{Compared, alike, first, second, compare_splits, not_end}

-- what may follow a list of turns
abbrev TurnAt : List Event → Event → Type 0
TurnAt [] e = IsBegin e
TurnAt (b ∷ []) e = Ends b e
TurnAt (b ∷ x ∷ rest) e = TurnAt rest e

begin_of_ends : (b e : Event) → Ends b e → IsBegin b
begin_of_ends (BeginUpdate p d) e h = tt
begin_of_ends (BeginView p) e h = tt
begin_of_ends (EndUpdate p) e h = absurd h
begin_of_ends (EndView p s) e h = absurd h

turn_push : (xs : List Event) (e : Event) → TakeTurns xs → TurnAt xs e → TakeTurns (xs ++ e ∷ [])
turn_push [] e t h = h
turn_push (b ∷ []) e t h = (h, tt)
turn_push (b ∷ x ∷ rest) e t h = (t.0, turn_push rest e t.1 h)

turn_back : (xs : List Event) (e : Event) → TakeTurns (xs ++ e ∷ []) → TakeTurns xs × TurnAt xs e
turn_back [] e t = (tt, t)
turn_back (b ∷ []) e t = (begin_of_ends b e t.0, t.0)
turn_back (b ∷ x ∷ rest) e t = let r = turn_back rest e t.1 in ((t.0, r.0), r.1)

abbrev pub last_of : Option Event → List Event → Option Event
last_of o [] = o
last_of o (x ∷ xs) = last_of (Some x) xs

ends_from : (b e : Event) → is_end_of b e ≡ true → Ends b e
ends_from (BeginUpdate p d) (EndUpdate q) h = tt
ends_from (BeginView p) (EndView q s) h = tt
ends_from (BeginUpdate p d) (BeginUpdate q c) h = cc
ends_from (BeginUpdate p d) (BeginView q) h = cc
ends_from (BeginUpdate p d) (EndView q s) h = cc
ends_from (BeginView p) (BeginUpdate q c) h = cc
ends_from (BeginView p) (BeginView q) h = cc
ends_from (BeginView p) (EndUpdate q) h = cc
ends_from (EndUpdate p) e h = cc
ends_from (EndView p s) e h = cc

ends_to : (b e : Event) → Ends b e → is_end_of b e ≡ true
ends_to (BeginUpdate p d) (EndUpdate q) h = refl
ends_to (BeginView p) (EndView q s) h = refl
ends_to (BeginUpdate p d) (BeginUpdate q c) h = absurd h
ends_to (BeginUpdate p d) (BeginView q) h = absurd h
ends_to (BeginUpdate p d) (EndView q s) h = absurd h
ends_to (BeginView p) (BeginUpdate q c) h = absurd h
ends_to (BeginView p) (BeginView q) h = absurd h
ends_to (BeginView p) (EndUpdate q) h = absurd h
ends_to (EndUpdate p) e h = absurd h
ends_to (EndView p s) e h = absurd h

turn_from : (zs : List Event) (e : Event) (o : Option Event) → (length zs % 2 ≡ 0 → IsBegin e) → (length zs % 2 ≡ 1 → ends_last (last_of o zs) e ≡ true) → TurnAt zs e
turn_from [] e o f g = f refl
turn_from (b ∷ []) e o f g = ends_from b e (g refl)
turn_from (b ∷ x ∷ rest) e o f g = turn_from rest e (Some x) (λ h. f (omega arith)) (λ h. g (omega arith))

turn_even : (zs : List Event) (e : Event) → TurnAt zs e → length zs % 2 ≡ 0 → IsBegin e
turn_even [] e t h = t
turn_even (b ∷ []) e t h = absurd (omega arith)
turn_even (b ∷ x ∷ rest) e t h = turn_even rest e t (omega arith)

turn_odd : (zs : List Event) (e : Event) (o : Option Event) → TurnAt zs e → length zs % 2 ≡ 1 → (ends_last (last_of o zs) e ≡ true) × (IsBegin e → ⊥)
turn_odd [] e o t h = absurd (omega arith)
turn_odd (b ∷ []) e o t h = (ends_to b e t, λ i. not_end b e t i)
turn_odd (b ∷ x ∷ rest) e o t h = turn_odd rest e (Some x) t (omega arith)

pub last_is : (p : ℕ) (o : Option Event) (es : List Event) → last_event p o es ≡ last_of o (events_of p es)
last_is p o [] = refl
last_is p o (e ∷ es) = go (process_of e == p) (last_is p (Some e) es) (last_is p o es)
  where
    go : (b : Bool) → last_event p (Some e) es ≡ last_of (Some e) (events_of p es) → last_event p o es ≡ last_of o (events_of p es)
        → last_event p (cond b (Some e) o) es ≡ last_of o (cond b (e ∷ events_of p es) (events_of p es))
    go true x y = x
    go false x y = y

pub count_is : (p : ℕ) (es : List Event) → length (events_of p es) ≡ count_by (λ e. process_of e == p) es
count_is p es = length-filter (λ e. process_of e == p) es

odd_open : (p : ℕ) (es : List Event) → length (events_of p es) % 2 ≡ 1 → has_open p es ≡ true
odd_open p es h = eq-eqb (count_by (λ e. process_of e == p) es % 2) 1 (sym (ap (λ n. n % 2) (count_is p es)) ∙ h)

even_closed : (p : ℕ) (es : List Event) → length (events_of p es) % 2 ≡ 0 → has_open p es ≡ false
even_closed p es h = ne_eqb (count_by (λ e. process_of e == p) es % 2) 1 (λ g. let c = ap (λ n. n % 2) (count_is p es) in omega (arith, c))

begin_is : (e : Event) → is_begin e ≡ true → IsBegin e
begin_is (BeginUpdate p d) h = tt
begin_is (BeginView p) h = tt
begin_is (EndUpdate p) h = cc
begin_is (EndView p s) h = cc

is_begin_from : (e : Event) → IsBegin e → is_begin e ≡ true
is_begin_from (BeginUpdate p d) h = refl
is_begin_from (BeginView p) h = refl
is_begin_from (EndUpdate p) h = absurd h
is_begin_from (EndView p s) h = absurd h

events_of_push : (p : ℕ) (es : List Event) (e : Event) → process_of e ≡ p → events_of p (es ++ e ∷ []) ≡ events_of p es ++ e ∷ []
events_of_push p es e h = filter-append (λ x. process_of x == p) es (e ∷ []) ∙ ap (λ b. events_of p es ++ cond b (e ∷ []) []) (eq-eqb _ _ h)

events_of_other : (p : ℕ) (es : List Event) (e : Event) → (process_of e ≡ p → ⊥) → events_of p (es ++ e ∷ []) ≡ events_of p es
events_of_other p es e h = filter-append (λ x. process_of x == p) es (e ∷ []) ∙ ap (λ b. events_of p es ++ cond b (e ∷ []) []) (ne_eqb _ _ h) ∙ append-nil (events_of p es)

-- the turn of the event's process
turn_accepted : (writers : Writers) (es : List Event) (e : Event) → IsAcceptedBy writers es e → TurnAt (events_of (process_of e) es) e
turn_accepted writers es e a = turn_from (events_of p es) e None even odd
  where
    p : ℕ
    p = process_of e

    even : length (events_of p es) % 2 ≡ 0 → IsBegin e
    even h = begin_is e (starts (is_begin e) refl)
      where
        starts : (b : Bool) → is_begin e ≡ b → is_begin e ≡ true
        starts true s = s
        starts false s = absurd (false≢true (sym a.not_idle ∙ and_from _ _ (not_from_false _ s) (not_from_false _ (even_closed p es h))))

    odd : length (events_of p es) % 2 ≡ 1 → ends_last (last_of None (events_of p es)) e ≡ true
    odd h = go (is_begin e) refl (ends_last (last_event p None es) e) refl
      where
        go : (b : Bool) → is_begin e ≡ b → (c : Bool) → ends_last (last_event p None es) e ≡ c → ends_last (last_of None (events_of p es)) e ≡ true
        go true s c t = absurd (false≢true (sym a.not_busy ∙ and_from _ _ s (odd_open p es h)))
        go false s true t = sym (ap (λ z. ends_last z e) (last_is p None es)) ∙ t
        go false s false t = absurd (false≢true (sym a.not_other ∙ and_from _ _ (not_from_false _ s) (not_from_false _ t)))

pub well_formed_push : (writers : Writers) (es : List Event) (e : Event) → IsWellFormed es → IsAcceptedBy writers es e → IsWellFormed (es ++ e ∷ [])
well_formed_push writers es e w a p = go (process_of e == p) refl
  where
    go : (b : Bool) → (process_of e == p) ≡ b → TakeTurns (events_of p (es ++ e ∷ []))
    go true t =
        let h : process_of e ≡ p = eqb-true _ _ t in
        subst TakeTurns (sym (events_of_push p es e h)) (turn_push (events_of p es) e (w p) (subst (λ q. TurnAt (events_of q es) e) h (turn_accepted writers es e a)))
    go false t = subst TakeTurns (sym (events_of_other p es e (eqb-false _ _ t))) (w p)

pub well_formed_back : (es : List Event) (e : Event) → IsWellFormed (es ++ e ∷ []) → IsWellFormed es × TurnAt (events_of (process_of e) es) e
well_formed_back es e w = (rest, (turn_back (events_of (process_of e) es) e (subst TakeTurns (events_of_push (process_of e) es e refl) (w (process_of e)))).1)
  where
    rest : (p : ℕ) → TakeTurns (events_of p es)
    rest p = go (process_of e == p) refl
      where
        go : (b : Bool) → (process_of e == p) ≡ b → TakeTurns (events_of p es)
        go true t = (turn_back (events_of p es) e (subst TakeTurns (events_of_push p es e (eqb-true _ _ t)) (w p))).0
        go false t = subst TakeTurns (events_of_other p es e (eqb-false _ _ t)) (w p)

pub turn_tests : (es : List Event) (e : Event) → TurnAt (events_of (process_of e) es) e → (is_busy es e ≡ false) × (is_idle es e ≡ false) × (is_other es e ≡ false)
turn_tests es e t = go (cases_order (length (events_of p es) % 2) 0)
  where
    p : ℕ
    p = process_of e

    go : (length (events_of p es) % 2 ≡ 0) ⊎ ((length (events_of p es) % 2 < 0) ⊎ (0 < length (events_of p es) % 2)) → (is_busy es e ≡ false) × (is_idle es e ≡ false) × (is_other es e ≡ false)
    go (inl even) =
        let i : not (is_begin e) ≡ false = not_from_true _ (is_begin_from e (turn_even (events_of p es) e t even)) in
        (and_right _ _ (even_closed p es even), and_left _ _ i, and_left _ _ i)
    go (inr (inl less)) = absurd (omega arith)
    go (inr (inr more)) =
        let odd : length (events_of p es) % 2 ≡ 1 = omega arith in
        let r = turn_odd (events_of p es) e None t odd in
        let i : is_begin e ≡ false = false_from_ne_true _ (λ h. r.1 (begin_is e h)) in
        let l : ends_last (last_event p None es) e ≡ true = ap (λ z. ends_last z e) (last_is p None es) ∙ r.0 in
        (and_left _ _ i, and_right _ _ (not_from_true _ (odd_open p es odd)), and_right _ _ (not_from_true _ l))

-- the writer

other_from : (p k : ℕ) (q : ℕ) (d : Entry) → d.component ≡ k → is_by_other p k (BeginUpdate q d) ≡ false → q ≡ p
other_from p k q d h f = elim (and_cases (d.component == k) (not (q == p)) f) [
  | inl g ↦ absurd (false≢true (sym g ∙ eq-eqb _ _ h))
  | inr g ↦ eqb-true _ _ (not-false _ g)
]

single_writer_push : (es : List Event) (e : Event) → IsSingleWriter es → has_other_writer es e ≡ false → IsSingleWriter (es ++ e ∷ [])
single_writer_push es e s w p q c d i j same = go (In-append_cases (BeginUpdate p c) es (e ∷ []) (In-from_Contains _ _ i)) (In-append_cases (BeginUpdate q d) es (e ∷ []) (In-from_Contains _ _ j))
  where
    -- an earlier update of the new one's component has its process
    earlier : (p q : ℕ) (c d : Entry) → e ≡ BeginUpdate q d → In (BeginUpdate p c) es → c.component ≡ d.component → p ≡ q
    earlier p q c d x k h =
        let f : list_any (is_by_other q d.component) es ≡ false = sym (ap (has_other_writer es) x) ∙ w in
        other_from q d.component p c h (false_from_ne_true _ (λ t. false≢true (sym f ∙ any_from (is_by_other q d.component) es (BeginUpdate p c) k t)))

    go : In (BeginUpdate p c) es ⊎ In (BeginUpdate p c) (e ∷ []) → In (BeginUpdate q d) es ⊎ In (BeginUpdate q d) (e ∷ []) → p ≡ q
    go (inl a) (inl b) = s p q c d (Contains-from_In _ _ a) (Contains-from_In _ _ b) same
    go (inl a) (inr (inl y)) = earlier p q c d y a same
    go (inr (inl x)) (inl b) = sym (earlier q p d c x b (sym same))
    go (inr (inl x)) (inr (inl y)) = let h : BeginUpdate p c ≡ BeginUpdate q d = sym x ∙ y in cc
    go (inr (inr z)) b = absurd z
    go a (inr (inr z)) = absurd z

single_writer_back : (es : List Event) (e : Event) → IsSingleWriter (es ++ e ∷ []) → IsSingleWriter es × (has_other_writer es e ≡ false)
single_writer_back es e s = (λ p q c d i j same. s p q c d (left (BeginUpdate p c) i) (left (BeginUpdate q d) j) same, test e refl)
  where
    left : (x : Event) → Contains es x → Contains (es ++ e ∷ []) x
    left x i = Contains-from_In _ _ (In-append_left x es (e ∷ []) (In-from_Contains _ _ i))

    test : (x : Event) → e ≡ x → has_other_writer es x ≡ false
    test (BeginUpdate p d) h = false_from_ne_true _ wrong
      where
        by : (x : Event) → In x es → is_by_other p d.component x ≡ true → ⊥
        by (BeginUpdate q c) i t =
            let r = and_parts (c.component == d.component) (not (q == p)) t in
            let same = s q p c d (left (BeginUpdate q c) (Contains-from_In _ _ i)) (Contains-from_In _ _ (In-append_right (BeginUpdate p d) es (e ∷ []) (inl h))) (eqb-true _ _ r.0) in
            eqb-false _ _ (not-true _ r.1) same
        by (BeginView q) i t = false≢true t
        by (EndUpdate q) i t = false≢true t
        by (EndView q z) i t = false≢true t

        wrong : list_any (is_by_other p d.component) es ≡ true → ⊥
        wrong t = let r = any_to (is_by_other p d.component) es t in by r.it r.there r.passes
    test (BeginView p) h = refl
    test (EndUpdate p) h = refl
    test (EndView p z) h = refl

-- the number

pub nil_split : {X : Type 0} (xs : List X) (x : X) (ys : List X) → [] ≡ xs ++ x ∷ ys → ⊥
nil_split [] x ys h = cc
nil_split (z ∷ xs) x ys h = cc

pub numbered_push : (es : List Event) (e : Event) → IsNumbered es → has_other_number es e ≡ false → IsNumbered (es ++ e ∷ [])
numbered_push es e n w before after p d split = go (compare_splits es e [] before (BeginUpdate p d) after split)
  where
    go : Compared es e [] before (BeginUpdate p d) after → d.number ≡ suc (count_by (begins_update_of d.component) before)
    go (alike i j k) =
        let f : not (d.number == suc (count_by (begins_update_of d.component) es)) ≡ false = sym (ap (has_other_number es) j) ∙ w in
        eqb-true _ _ (not-false _ f) ∙ ap (λ z. suc (count_by (begins_update_of d.component) z)) i
    go (first mid i j) = absurd (nil_split mid (BeginUpdate p d) after j)
    go (second mid i j) = n before mid p d i

pub numbered_back : (es : List Event) (e : Event) → IsNumbered (es ++ e ∷ []) → IsNumbered es × (has_other_number es e ≡ false)
numbered_back es e n =
    (λ before after p d s. n before (after ++ e ∷ []) p d (ap (λ z. z ++ e ∷ []) s ∙ append_assoc before (BeginUpdate p d ∷ after) (e ∷ [])), test e refl)
  where
    test : (x : Event) → e ≡ x → has_other_number es x ≡ false
    test (BeginUpdate p d) h = not_from_true _ (eq-eqb _ _ (n es [] p d (ap (λ z. es ++ z ∷ []) h)))
    test (BeginView p) h = refl
    test (EndUpdate p) h = refl
    test (EndView p z) h = refl

-- a longer list is a history exactly where the shorter is and no refusal applies
pub history_push : (es : List Event) (e : Event) → IsHistory es → IsAccepted es e → IsHistory (es ++ e ∷ [])
history_push es e h a = record {
  well_formed = well_formed_push One es e h.well_formed a;
  single_writer = single_writer_push es e h.single_writer a.writer;
  numbered = numbered_push es e h.numbered a.number;
}

pub history_back : (es : List Event) (e : Event) → IsHistory (es ++ e ∷ []) → IsHistory es × IsAccepted es e
history_back es e h =
    let w = well_formed_back es e h.well_formed in
    let s = single_writer_back es e h.single_writer in
    let n = numbered_back es e h.numbered in
    let t = turn_tests es e w.1 in
    (record { well_formed = w.0; single_writer = s.0; numbered = n.0 }, record { not_busy = t.0; not_idle = t.1; not_other = t.2; writer = s.1; number = n.1; order = refl })

pub history_nil : IsHistory []
history_nil = record {
  well_formed = λ p. tt;
  single_writer = λ p q c d i j same. absurd (In-from_Contains [] (BeginUpdate p c) i);
  numbered = λ before after p d s. absurd (nil_split before (BeginUpdate p d) after s);
}

pub last_of_push : (o : Option Event) (xs : List Event) (x : Event) → last_of o (xs ++ x ∷ []) ≡ Some x
last_of_push o [] x = refl
last_of_push o (y ∷ xs) x = last_of_push (Some y) xs x

pub last_event_push : (p : ℕ) (o : Option Event) (es : List Event) (e : Event) → last_event p o (es ++ e ∷ []) ≡ cond (process_of e == p) (Some e) (last_event p o es)
last_event_push p o [] e = refl
last_event_push p o (x ∷ es) e = last_event_push p (cond (process_of x == p) (Some x) o) es e
