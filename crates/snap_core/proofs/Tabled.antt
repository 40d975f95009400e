-- What the tables say of a history with one event more.
use Rattle.std.proofs.Common.{◌≡◌, ◌≤◌, ◌<◌, ℕ, suc, ◌+◌, Bool, true, false, cond, not, ◌&&◌, ◌||◌, List, [], ◌∷◌, ◌++◌, Option, Some, None, refl, sym, ap, ◌∙◌, subst, inl, inr, arith}
use Rattle.std.specs.Prelude.{◌==◌, is_some, nat_le}
use Rattle.std.specs.List.{count_by, list_any}
use Rattle.std.proofs.lemmas.Bool.{eqb-true, eq-eqb, false≢true, not-false, cases_order, le-leb, lt-leb, leb-false}
use Rattle.std.proofs.lemmas.List.Folds.{list_any-append}
use Rattle.snap_core.specs.declared.entry.Entry.{Entry}
use Rattle.snap_core.specs.declared.event.Begun.{Begun}
use Rattle.snap_core.specs.declared.event.Begun.TheVariants as begun
use Rattle.snap_core.specs.declared.tables.Tables.{Tables}
use Rattle.snap_core.specs.declared.tables.Writer.{Writer}
use Rattle.snap_core.specs.declared.limit.Limit.{Limit}
use Rattle.snap_core.specs.declared.writers.Writers.{Writers}
use Rattle.snap_core.specs.Events.{Event, BeginUpdate, BeginView, EndUpdate, EndView, process_of, begins_update_of, EventFits}
use Rattle.snap_core.specs.Calls.{Call, calls_of}
use Rattle.snap_core.specs.Ordered.{IsOrdered}
use Rattle.snap_core.specs.Refusals.{breaks_writer, ends_last, has_open_below, is_open_below, last_event, is_by_other, has_other_writer, has_other_number, IsAcceptedBy, refusal_of}
use Rattle.snap_core.specs.Regular.{IsUpdateOf}
use Rattle.snap_core.specs.inside.Tables.{begun_by, begun_in, call_in, writer_in, count_in, ended_in, is_written_by_other, Recalls, IsRecalled, with_ended, writer_after, writer_ended}
use Rattle.snap_core.proofs.Begun.{count-append}
use Rattle.snap_core.proofs.Histories.{number_few, one_part, positive_part}
use Rattle.snap_core.proofs.Lists.{count-cons}
use Rattle.snap_core.proofs.OrderedPushes.{bounded_push, ended_below, in_time, is_ordered_by}
use Rattle.snap_core.proofs.Picks.{accepted_none}
use Rattle.snap_core.proofs.Pushed.{Pushed, begins_now, as_before, ends_now, pushed, OpenUpdate, open_update}
use Rattle.snap_core.proofs.Pushes.{last_event_push}

or_none : (b : Bool) → (b || false) ≡ b
or_none true = refl
or_none false = refl

-- tables that say the same

pub recalls_same : (writers : Writers) (t u : Tables) (es : List Event) → ((p : ℕ) → call_in u p ≡ call_in t p) → ((k : ℕ) → writer_in u k ≡ writer_in t k) → Recalls writers t es → Recalls writers u es
recalls_same writers t u es a b r = record {
  calls = λ p. a p ∙ r.calls p;
  counts = λ k. ap count_in (b k) ∙ r.counts k;
  writer = λ o k p. ap (is_written_by_other p) (b k) ∙ r.writer o k p;
  ended = λ c e i. r.ended c e i ∙ ap (λ w. nat_le e.number (ended_in w)) (sym (b e.component));
  few = λ k. subst (λ w. ended_in w ≤ count_in w) (sym (b k)) (r.few k);
}

-- the tables after one event more

begun_cond : (b : Bool) (e : Event) (o : Option Event) → cond b (begun_by e) (begun_in o) ≡ begun_in (cond b (Some e) o)
begun_cond true e o = refl
begun_cond false e o = refl

count_push : (k : ℕ) (es : List Event) (e : Event) → count_by (begins_update_of k) (es ++ e ∷ []) ≡ count_by (begins_update_of k) es + cond (begins_update_of k e) 1 0
count_push k es e = omega (arith, count-append k es (e ∷ []), count-cons (begins_update_of k) e [])

any_push : (p k : ℕ) (es : List Event) (e : Event) → list_any (is_by_other p k) (es ++ e ∷ []) ≡ (list_any (is_by_other p k) es || is_by_other p k e)
any_push p k es e = list_any-append (is_by_other p k) es (e ∷ []) ∙ ap (λ b. list_any (is_by_other p k) es || b) (or_none (is_by_other p k e))

-- the end of an update changes neither the count nor the writer

same_count : (n : ℕ) (w : Option Writer) → count_in (with_ended n w) ≡ count_in w
same_count n None = refl
same_count n (Some w) = refl

same_other : (n p : ℕ) (w : Option Writer) → is_written_by_other p (with_ended n w) ≡ is_written_by_other p w
same_other n p None = refl
same_other n p (Some w) = refl

ended_count : (p k : ℕ) (was : Option Begun) (w : Option Writer) → count_in (writer_after p was None k w) ≡ count_in w
ended_count p k None w = refl
ended_count p k (Some begun.View) w = refl
ended_count p k (Some (begun.Update e)) w = go (e.component == k)
  where
    go : (b : Bool) → count_in (cond b (with_ended e.number w) w) ≡ count_in w
    go true = same_count e.number w
    go false = refl

ended_other : (q p k : ℕ) (was : Option Begun) (w : Option Writer) → is_written_by_other p (writer_after q was None k w) ≡ is_written_by_other p w
ended_other q p k None w = refl
ended_other q p k (Some begun.View) w = refl
ended_other q p k (Some (begun.Update e)) w = go (e.component == k)
  where
    go : (b : Bool) → is_written_by_other p (cond b (with_ended e.number w) w) ≡ is_written_by_other p w
    go true = same_other e.number p w
    go false = refl

count_after : (k : ℕ) (es : List Event) (e : Event) (was : Option Begun) (w : Option Writer) → count_in w ≡ count_by (begins_update_of k) es → has_other_number es e ≡ false
    → count_in (writer_after (process_of e) was (begun_by e) k w) ≡ count_by (begins_update_of k) es + cond (begins_update_of k e) 1 0
count_after k es (BeginUpdate q d) was w h n = go (d.component == k) refl
  where
    number : d.number ≡ suc (count_by (begins_update_of d.component) es)
    number = eqb-true _ _ (not-false _ n)

    go : (b : Bool) → (d.component == k) ≡ b → count_in (cond b (Some (record { process = q; count = d.number; ended = ended_in w })) w) ≡ count_by (begins_update_of k) es + cond b 1 0
    go true t = let same = ap (λ z. count_by (begins_update_of z) es) (eqb-true _ _ t) in omega (arith, number, same)
    go false t = omega (arith, h)
count_after k es (BeginView q) was w h n = omega (arith, h)
count_after k es (EndUpdate q) was w h n = omega (arith, h, ended_count q k was w)
count_after k es (EndView q z) was w h n = omega (arith, h, ended_count q k was w)

or_same : (b : Bool) → (b || b) ≡ b
or_same true = refl
or_same false = refl

-- a writer that is no other process is this one
one_writer : (w : Option Writer) (q p : ℕ) → is_written_by_other q w ≡ false → not (q == p) ≡ (is_written_by_other p w || not (q == p))
one_writer None q p h = refl
one_writer (Some w) q p h = let same : w.process ≡ q = eqb-true _ _ (not-false _ h) in rw same (sym (or_same (not (q == p))))

other_after : (p k : ℕ) (es : List Event) (e : Event) (was : Option Begun) (w : Option Writer) → ((q : ℕ) → is_written_by_other q w ≡ list_any (is_by_other q k) es) → has_other_writer es e ≡ false
    → is_written_by_other p (writer_after (process_of e) was (begun_by e) k w) ≡ (is_written_by_other p w || is_by_other p k e)
other_after p k es (BeginUpdate q d) was w h n = go (d.component == k) refl
  where
    go : (b : Bool) → (d.component == k) ≡ b → is_written_by_other p (cond b (Some (record { process = q; count = d.number; ended = ended_in w })) w) ≡ (is_written_by_other p w || (b && not (q == p)))
    go true t = one_writer w q p (h q ∙ ap (λ z. list_any (is_by_other q z) es) (sym (eqb-true _ _ t)) ∙ n)
    go false t = sym (or_none (is_written_by_other p w))
other_after p k es (BeginView q) was w h n = sym (or_none (is_written_by_other p w))
other_after p k es (EndUpdate q) was w h n = ended_other q p k was w ∙ sym (or_none (is_written_by_other p w))
other_after p k es (EndView q z) was w h n = ended_other q p k was w ∙ sym (or_none (is_written_by_other p w))

-- the ends that the tables keep, after one event more

begin_keeps : (p : ℕ) (was : Option Begun) (b : Begun) (k : ℕ) (w : Option Writer) → ended_in (writer_after p was (Some b) k w) ≡ ended_in w
begin_keeps p was begun.View k w = refl
begin_keeps p was (begun.Update e) k w = go (e.component == k)
  where
    go : (b : Bool) → ended_in (cond b (Some (record { process = p; count = e.number; ended = ended_in w })) w) ≡ ended_in w
    go true = refl
    go false = refl

-- the end of a view ends no update
view_keeps : (q p k : ℕ) (s : List Entry) (o : Option Event) (w : Option Writer) → ends_last o (EndView q s) ≡ true → ended_in (writer_after p (begun_in o) None k w) ≡ ended_in w
view_keeps q p k s None w h = refl
view_keeps q p k s (Some (BeginUpdate r e)) w h = absurd (false≢true h)
view_keeps q p k s (Some (BeginView r)) w h = refl
view_keeps q p k s (Some (EndUpdate r)) w h = refl
view_keeps q p k s (Some (EndView r z)) w h = refl

-- what the end of an update ends
update_begun : (q : ℕ) (o : Option Event) → ends_last o (EndUpdate q) ≡ true → (r : ℕ) × (e : Entry) × (o ≡ Some (BeginUpdate r e))
update_begun q None h = absurd (false≢true h)
update_begun q (Some (BeginUpdate r e)) h = (r, e, refl)
update_begun q (Some (BeginView r)) h = absurd (false≢true h)
update_begun q (Some (EndUpdate r)) h = absurd (false≢true h)
update_begun q (Some (EndView r z)) h = absurd (false≢true h)

-- of each update of the longer list the tables say whether it has ended
abbrev KeepEnds : Tables → List Event → Type 0
KeepEnds u es = (c : Call) (e : Entry) → IsUpdateOf (calls_of es) c e → is_some c.ended ≡ nat_le e.number (ended_in (writer_in u e.component))

-- where the event ends no update
keep_ends : (writers : Writers) (t u : Tables) (es : List Event) (x : Event) → Recalls writers t es → IsOrdered (es ++ x ∷ []) → ((p : ℕ) → x ≡ EndUpdate p → ⊥) → ((k : ℕ) → ended_in (writer_in u k) ≡ ended_in (writer_in t k)) → KeepEnds u (es ++ x ∷ [])
keep_ends writers t u es x r h other same c e i = at (pushed es x h.well_formed c e i)
  where
    kept : is_some c.ended ≡ nat_le e.number (ended_in (writer_in t e.component)) → is_some c.ended ≡ nat_le e.number (ended_in (writer_in u e.component))
    kept f = f ∙ ap (nat_le e.number) (sym (same e.component))

    at : Pushed es x c e → is_some c.ended ≡ nat_le e.number (ended_in (writer_in u e.component))
    at (begins_now p is place none) =
        let number = h.numbered es [] p e (ap (λ z. es ++ z ∷ []) is) in
        let few = r.few e.component in
        kept (ap is_some none ∙ sym (lt-leb e.number (ended_in (writer_in t e.component)) (omega (arith, number, few, r.counts e.component))))
    at (as_before d v l s) = kept (ap is_some s ∙ r.ended d e v)
    at (ends_now d v l o f p is last) = absurd (other p is)

-- where it ends one, the updates that have ended are those up to its number
keep_ended : (writers : Writers) (t u : Tables) (es : List Event) (p q : ℕ) (d : Entry) → Recalls writers t es → IsOrdered es → IsOrdered (es ++ EndUpdate p ∷ []) → last_event p None es ≡ Some (BeginUpdate q d) →
    ((k : ℕ) → writer_in u k ≡ writer_ended d k (writer_in t k)) → KeepEnds u (es ++ EndUpdate p ∷ []) × ((k : ℕ) → ended_in (writer_in u k) ≤ count_in (writer_in t k))
keep_ended writers t u es p q d r o h last g = (λ c e i. at c e i (pushed es x h.well_formed c e i), few)
  where
    x : Event
    x = EndUpdate p

    b : OpenUpdate es x d
    b = open_update es x p q d refl last

    -- the component has an update
    number : d.number ≤ count_in (writer_in t d.component)
    number = omega (arith, number_few es o.numbered b.call d b.update, r.counts d.component)

    positive : 0 < d.number
    positive = positive_part es o.numbered b.call d b.update

    here : (w : Option Writer) → d.number ≤ count_in w → ended_in (with_ended d.number w) ≡ d.number
    here None l = absurd (omega (arith, l, positive))
    here (Some w) l = refl

    ended_here : (k : ℕ) → d.component ≡ k → ended_in (writer_in u k) ≡ d.number
    ended_here k same =
        ap ended_in (g k) ∙ ap (λ z. ended_in (cond z (with_ended d.number (writer_in t k)) (writer_in t k))) (eq-eqb _ _ same)
        ∙ here (writer_in t k) (subst (λ z. d.number ≤ count_in (writer_in t z)) same number)

    ended_there : (k : ℕ) → (d.component == k) ≡ false → ended_in (writer_in u k) ≡ ended_in (writer_in t k)
    ended_there k other = ap ended_in (g k) ∙ ap (λ z. ended_in (cond z (with_ended d.number (writer_in t k)) (writer_in t k))) other

    few : (k : ℕ) → ended_in (writer_in u k) ≤ count_in (writer_in t k)
    few k = by (d.component == k) refl
      where
        by : (z : Bool) → (d.component == k) ≡ z → ended_in (writer_in u k) ≤ count_in (writer_in t k)
        by true s = let same = eqb-true _ _ s in omega (arith, ended_here k same, subst (λ z. d.number ≤ count_in (writer_in t z)) same number)
        by false s = omega (arith, ended_there k s, r.few k)

    none : list_any (is_open_below d) (calls_of es) ≡ false
    none = sym (ap (has_open_below (calls_of es)) last) ∙ in_time es x h

    was : ended_in (writer_in t d.component) < d.number
    was = leb-false d.number (ended_in (writer_in t d.component)) (sym (r.ended b.call d b.update) ∙ ap is_some b.pending)

    at : (c : Call) (e : Entry) → IsUpdateOf (calls_of (es ++ x ∷ [])) c e → Pushed es x c e → is_some c.ended ≡ nat_le e.number (ended_in (writer_in u e.component))
    at c e i (begins_now z is place f) = absurd (cc)
    at c e i (ends_now c0 v l f s z is l') =
        let p_is : p ≡ z = cc in
        let g : Some (BeginUpdate q d) ≡ Some (BeginUpdate z e) = sym last ∙ ap (λ y. last_event y None es) p_is ∙ l' in
        let same : d ≡ e = cc in
        let m = ap (λ (y : Entry). y.number) same in
        ap is_some s ∙ sym (ap (nat_le e.number) (ended_here e.component (ap (λ (y : Entry). y.component) same)) ∙ le-leb e.number d.number (omega (arith, m)))
    at c e i (as_before c0 v l s) = by (d.component == e.component) refl
      where
        by : (z : Bool) → (d.component == e.component) ≡ z → is_some c.ended ≡ nat_le e.number (ended_in (writer_in u e.component))
        by false other = ap is_some s ∙ r.ended c0 e v ∙ ap (nat_le e.number) (sym (ended_there e.component other))
        by true z = below (eqb-true _ _ z) ∙ ap (nat_le e.number) (sym (ended_here e.component (eqb-true _ _ z)))
          where
            below : d.component ≡ e.component → is_some c.ended ≡ nat_le e.number d.number
            below same = elim (cases_order e.number d.number) [
              | inl eq ↦ ap (λ (y : Call). is_some y.ended) (one_part (es ++ x ∷ []) h.numbered c b.later e d i b.ended (sym same) eq) ∙ ap is_some b.ends ∙ sym (le-leb e.number d.number (omega (arith, eq)))
              | inr (inl less) ↦ ap is_some (s ∙ (ended_below es d none c0 e v (sym same) less).1) ∙ sym (le-leb e.number d.number (omega (arith, less)))
              | inr (inr more) ↦ ap is_some s ∙ r.ended c0 e v ∙ ap (λ k. nat_le e.number (ended_in (writer_in t k))) (sym same) ∙ lt-leb e.number (ended_in (writer_in t d.component)) (omega (arith, was, more)) ∙ sym (lt-leb e.number d.number more)
            ]

-- what the tables keep of ends
record Keeps (writers : Writers) (t u : Tables) (es : List Event) : Type 0 where
  ended : KeepEnds u es
  few : (k : ℕ) → ended_in (writer_in u k) ≤ count_in (writer_in u k)

keeps : (writers : Writers) (t u : Tables) (es : List Event) (x : Event) → Recalls writers t es → IsOrdered es → IsAcceptedBy writers es x → IsOrdered (es ++ x ∷ []) →
    ((k : ℕ) → writer_in u k ≡ writer_after (process_of x) (call_in t (process_of x)) (begun_by x) k (writer_in t k)) → Keeps writers t u (es ++ x ∷ [])
keeps writers t u es (BeginUpdate p d) r o a h g = record {
  ended = keep_ends writers t u es (BeginUpdate p d) r h (λ q s. absurd (cc)) (λ k. ap ended_in (g k) ∙ begin_keeps p (call_in t p) (begun.Update d) k (writer_in t k));
  few = λ k. omega (arith, ap ended_in (g k) ∙ begin_keeps p (call_in t p) (begun.Update d) k (writer_in t k), ap count_in (g k) ∙ count_after k es (BeginUpdate p d) (call_in t p) (writer_in t k) (r.counts k) a.number, r.few k, r.counts k);
}
keeps writers t u es (BeginView p) r o a h g = record {
  ended = keep_ends writers t u es (BeginView p) r h (λ q s. absurd (cc)) (λ k. ap ended_in (g k));
  few = λ k. omega (arith, ap ended_in (g k), ap count_in (g k), r.few k);
}
keeps writers t u es (EndView p z) r o a h g = record {
  ended = keep_ends writers t u es (EndView p z) r h (λ q s. absurd (cc)) same;
  few = λ k. omega (arith, same k, ap count_in (g k) ∙ ended_count p k (call_in t p) (writer_in t k), r.few k);
}
  where
    last : ends_last (last_event p None es) (EndView p z) ≡ true
    last = not-false _ a.not_other

    same : (k : ℕ) → ended_in (writer_in u k) ≡ ended_in (writer_in t k)
    same k = ap ended_in (g k) ∙ ap (λ w. ended_in (writer_after p w None k (writer_in t k))) (r.calls p) ∙ view_keeps p p k z (last_event p None es) (writer_in t k) last
keeps writers t u es (EndUpdate p) r o a h g = record {
  ended = e.0;
  few = λ k. omega (arith, e.1 k, ap count_in (g k) ∙ ended_count p k (call_in t p) (writer_in t k));
}
  where
    b : (q : ℕ) × (d : Entry) × (last_event p None es ≡ Some (BeginUpdate q d))
    b = update_begun p (last_event p None es) (not-false _ a.not_other)

    e : KeepEnds u (es ++ EndUpdate p ∷ []) × ((k : ℕ) → ended_in (writer_in u k) ≤ count_in (writer_in t k))
    e = keep_ended writers t u es p b.0 b.1 r o h b.2 (λ k. g k ∙ ap (λ w. writer_after p w None k (writer_in t k)) (r.calls p ∙ ap begun_in b.2))

recalls_push : (writers : Writers) (t u : Tables) (es : List Event) (e : Event) → Recalls writers t es → IsOrdered es → IsAcceptedBy writers es e → IsOrdered (es ++ e ∷ [])
    → ((p : ℕ) → call_in u p ≡ cond (process_of e == p) (begun_by e) (call_in t p))
    → ((k : ℕ) → writer_in u k ≡ writer_after (process_of e) (call_in t (process_of e)) (begun_by e) k (writer_in t k)) → Recalls writers u (es ++ e ∷ [])
recalls_push writers t u es e r o a h f g = record {
  calls = λ p. f p ∙ ap (cond (process_of e == p) (begun_by e)) (r.calls p) ∙ begun_cond (process_of e == p) e (last_event p None es) ∙ ap begun_in (sym (last_event_push p None es e));
  counts = λ k. ap count_in (g k) ∙ count_after k es e was (writer_in t k) (r.counts k) a.number ∙ sym (count_push k es e);
  writer = λ one k p. ap (is_written_by_other p) (g k) ∙ other_after p k es e was (writer_in t k) (λ q. r.writer one k q) (sym (ap (λ w. breaks_writer w es e) one) ∙ a.writer)
      ∙ ap (λ b. b || is_by_other p k e) (r.writer one k p) ∙ sym (any_push p k es e);
  ended = k.ended;
  few = k.few;
}
  where
    was : Option Begun
    was = call_in t (process_of e)

    k : Keeps writers t u (es ++ e ∷ [])
    k = keeps writers t u es e r o a h g

pub recalled_push : (limit : Limit) (t u v : Tables) (es : List Event) (e : Event) → IsRecalled limit.writers t es → refusal_of limit es e ≡ None → EventFits e
    → ((p : ℕ) → call_in u p ≡ call_in t p) → ((k : ℕ) → writer_in u k ≡ writer_in t k)
    → ((p : ℕ) → call_in v p ≡ cond (process_of e == p) (begun_by e) (call_in u p))
    → ((k : ℕ) → writer_in v k ≡ writer_after (process_of e) (call_in u (process_of e)) (begun_by e) k (writer_in u k)) → IsRecalled limit.writers v (es ++ e ∷ [])
recalled_push limit t u v es e r h fits a b f g =
    let w = limit.writers in
    let kept = bounded_push limit es e r.kept h fits in
    record {
      kept = kept;
      recalls = recalls_push w u v es e (recalls_same w t u es a b r.recalls) (is_ordered_by w es r.kept.history) (accepted_none limit es e h).0 (is_ordered_by w (es ++ e ∷ []) kept.history) f g;
    }
