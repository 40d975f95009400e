-- An ordered history with one event more.
use Rattle.std.proofs.Common.{◌≡◌, ◌⊎◌, ◌<◌, ℕ, true, false, not, List, [], ◌∷◌, ◌++◌, length, length-append, Option, Some, None, refl, sym, ap, ◌∙◌, inl, inr, arith}
use Rattle.std.specs.Prelude.{is_some}
use Rattle.std.specs.List.{Contains, list_any}
use Rattle.std.proofs.lemmas.Bool.{false≢true, false_from_ne_true, ltb-true, lt-ltb, eqb-true, eq-eqb, and_parts, and_from}
use Rattle.std.proofs.lemmas.List.Elements.{All-nil, All-push}
use Rattle.snap_core.specs.declared.entry.Entry.{Entry}
use Rattle.snap_core.specs.declared.limit.Limit.{Limit}
use Rattle.snap_core.specs.declared.writers.Writers.{Writers}
use Rattle.snap_core.specs.declared.writers.Writers.TheVariants.{One, Many}
use Rattle.snap_core.specs.Events.{Event, BeginUpdate, BeginView, EndUpdate, EndView, EventFits, IsWellFormed, IsNumbered}
use Rattle.snap_core.specs.Bounded.{IsAtMost, IsBoundedBy, IsBoundedOrdered, IsHistoryBy}
use Rattle.snap_core.specs.Calls.{Call, Operation, Updates, Views, calls_of, is_before}
use Rattle.snap_core.specs.Ordered.{EndInOrder, IsOrdered}
use Rattle.snap_core.specs.Refusals.{ends_early, has_open_below, is_open_below, last_event, refusal_of, writes_below, IsAcceptedBy}
use Rattle.snap_core.specs.Regular.{IsUpdateOf}
use Rattle.snap_core.proofs.Ends.{end_event}
use Rattle.snap_core.proofs.Histories.{begins_part}
use Rattle.snap_core.proofs.Lists.{In-from_Contains, Contains-from_In, any_from, any_to}
use Rattle.snap_core.proofs.Ordered.{history_is_ordered}
use Rattle.snap_core.proofs.Picks.{accepted_none}
use Rattle.snap_core.proofs.Pushed.{Pushed, begins_now, as_before, ends_now, pushed, Stays, stays, open_update}
use Rattle.snap_core.proofs.Pushes.{history_nil, history_push, history_back, numbered_back, numbered_push, turn_tests, well_formed_back, well_formed_push}

-- a call ends within the list
ends_within : (es : List Event) → IsWellFormed es → (c : Call) (place : ℕ) → Contains (calls_of es) c → c.ended ≡ Some place → place < length es
ends_within es h c place i e = let z = end_event es h c place i e in omega (arith, z.size, ap length z.split ∙ length-append z.front (z.event ∷ z.rest))

-- no pending update of the component of an entry has a lower number: each has ended
pub ended_below : (es : List Event) (e : Entry) → list_any (is_open_below e) (calls_of es) ≡ false → (a : Call) (d : Entry) → IsUpdateOf (calls_of es) a d → d.component ≡ e.component → d.number < e.number → (q : ℕ) × (a.ended ≡ Some q)
ended_below es e none a d u same less = go a.ended refl
  where
    below : writes_below a.operation e ≡ true
    below = ap (λ o. writes_below o e) u.writes ∙ and_from _ _ (eq-eqb _ _ same) (lt-ltb d.number e.number less)

    go : (o : Option ℕ) → a.ended ≡ o → (q : ℕ) × (a.ended ≡ Some q)
    go (Some q) h = (q, h)
    go None h = absurd (false≢true (sym none ∙ any_from (is_open_below e) (calls_of es) a (In-from_Contains _ _ u.there) (and_from _ _ below (ap (λ o. not (is_some o)) h))))

ordered_push : (es : List Event) (x : Event) → IsOrdered es → IsAcceptedBy Many es x → IsOrdered (es ++ x ∷ [])
ordered_push es x h a = record { well_formed = well_formed; numbered = numbered; in_order = in_order }
  where
    well_formed : IsWellFormed (es ++ x ∷ [])
    well_formed = well_formed_push Many es x h.well_formed a

    numbered : IsNumbered (es ++ x ∷ [])
    numbered = numbered_push es x h.numbered a.number

    in_order : EndInOrder (calls_of (es ++ x ∷ []))
    in_order c b d e place uc ub same less end = by (pushed es x well_formed c d uc) (pushed es x well_formed b e ub)
      where
        first : c.begun < b.begun
        first = begins_part (es ++ x ∷ []) numbered c b d e uc ub same less

        by : Pushed es x c d → Pushed es x b e → is_before c.ended place ≡ true
        by p (begins_now q is at none) = absurd (let g : None ≡ Some place = sym none ∙ end in cc)
        by (begins_now q is at none) (as_before b0 u0 l s) = absurd (omega (arith, first, at, l))
        by (begins_now q is at none) (ends_now b0 u0 l o f q' is' last) = absurd (omega (arith, first, at, l))
        by (as_before c0 v0 m r) (as_before b0 u0 l s) = ap (λ z. is_before z place) r ∙ h.in_order c0 b0 d e place v0 u0 same less (sym s ∙ end)
        by (ends_now c0 v0 m o f q is last) (as_before b0 u0 l s) = absurd (false≢true (sym (ap (λ z. is_before z place) o) ∙ h.in_order c0 b0 d e place v0 u0 same less (sym s ∙ end)))
        by (as_before c0 v0 m r) (ends_now b0 u0 l o f q is last) =
            let none : list_any (is_open_below e) (calls_of es) ≡ false = sym (ap (ends_early es) is ∙ ap (has_open_below (calls_of es)) last) ∙ a.order in
            let z = ended_below es e none c0 d v0 same less in
            let at : length es ≡ place = let g : Some (length es) ≡ Some place = sym f ∙ end in cc in
            ap (λ z. is_before z place) (r ∙ z.1) ∙ lt-ltb z.0 place (omega (arith, at, ends_within es h.well_formed c0 z.0 v0.there z.1))
        by (ends_now c0 v0 m o f q is last) (ends_now b0 u0 l o' f' q' is' last') =
            let p : q ≡ q' = let g : EndUpdate q ≡ EndUpdate q' = sym is ∙ is' in cc in
            let g : Some (BeginUpdate q d) ≡ Some (BeginUpdate q' e) = sym last ∙ ap (λ z. last_event z None es) p ∙ last' in
            let n : d ≡ e = cc in
            absurd (omega (arith, less, ap (λ (z : Entry). z.number) n))

pub open_below : (o : Operation) (e : Entry) → writes_below o e ≡ true → (d : Entry) × (o ≡ Updates d) × (d.component ≡ e.component) × (d.number < e.number)
open_below (Updates d) e t = let p = and_parts _ _ t in (d, refl, eqb-true _ _ p.0, ltb-true _ _ p.1)
open_below (Views answer) e t = absurd (false≢true t)

not_ended : (o : Option ℕ) → not (is_some o) ≡ true → o ≡ None
not_ended None t = refl
not_ended (Some q) t = absurd (false≢true t)

-- the last event of a longer ordered history is no end out of order
pub in_time : (es : List Event) (x : Event) → IsOrdered (es ++ x ∷ []) → ends_early es x ≡ false
in_time es (BeginUpdate p e) h = refl
in_time es (BeginView p) h = refl
in_time es (EndView p s) h = refl
in_time es (EndUpdate p) h = go (last_event p None es) refl
  where
    x : Event
    x = EndUpdate p

    go : (o : Option Event) → last_event p None es ≡ o → has_open_below (calls_of es) (last_event p None es) ≡ false
    go None l = ap (has_open_below (calls_of es)) l
    go (Some (BeginView q)) l = ap (has_open_below (calls_of es)) l
    go (Some (EndUpdate q)) l = ap (has_open_below (calls_of es)) l
    go (Some (EndView q s)) l = ap (has_open_below (calls_of es)) l
    go (Some (BeginUpdate q e)) l = ap (has_open_below (calls_of es)) l ∙ false_from_ne_true _ early
      where
        early : list_any (is_open_below e) (calls_of es) ≡ true → ⊥
        early t =
            let r = any_to (is_open_below e) (calls_of es) t in
            let parts = and_parts _ _ r.passes in
            let d = open_below r.it.operation e parts.0 in
            let c = stays es x r.it d.0 (record { there = Contains-from_In _ _ r.there; writes = d.1 }) in
            let b = open_update es x p q e refl l in
            let in_order = h.in_order c.call b.later d.0 e (length es) c.update b.ended d.2 d.3 b.ends in (
            elim c.ends [
              | inl same ↦ false≢true (sym (ap (λ z. is_before z (length es)) (same ∙ not_ended r.it.ended parts.1)) ∙ in_order)
              | inr now ↦ let l = ltb-true (length es) (length es) (sym (ap (λ z. is_before z (length es)) now.1) ∙ in_order) in omega (arith, l)
            ]
            )

ordered_back : (es : List Event) (x : Event) → IsOrdered (es ++ x ∷ []) → IsOrdered es × IsAcceptedBy Many es x
ordered_back es x h =
    let w = well_formed_back es x h.well_formed in
    let n = numbered_back es x h.numbered in
    let t = turn_tests es x w.1 in (
      record { well_formed = w.0; numbered = n.0; in_order = in_order },
      record { not_busy = t.0; not_idle = t.1; not_other = t.2; writer = refl; number = n.1; order = in_time es x h },
    )
  where
    in_order : EndInOrder (calls_of es)
    in_order c b d e place uc ub same less end = by y.ends z.ends
      where
        y : Stays es x b e
        y = stays es x b e ub

        z : Stays es x c d
        z = stays es x c d uc

        -- the end of the higher number is within the shorter list
        later : (y.call.ended ≡ Some place) → is_before z.call.ended place ≡ true
        later f = h.in_order z.call y.call d e place z.update y.update same less f

        within : place < length es
        within = ends_within es (well_formed_back es x h.well_formed).0 b place ub.there end

        by : (y.call.ended ≡ b.ended) ⊎ ((b.ended ≡ None) × (y.call.ended ≡ Some (length es))) → (z.call.ended ≡ c.ended) ⊎ ((c.ended ≡ None) × (z.call.ended ≡ Some (length es))) → is_before c.ended place ≡ true
        by (inr now) r = absurd (let g : None ≡ Some place = sym now.0 ∙ end in cc)
        by (inl f) (inl g) = ap (λ o. is_before o place) (sym g) ∙ later (f ∙ end)
        by (inl f) (inr now) = absurd (let l = ltb-true (length es) place (sym (ap (λ o. is_before o place) now.1) ∙ later (f ∙ end)) in omega (arith, l, within))

-- a longer list is what it was exactly where the shorter one is and no refusal applies
pub history_by_push : (writers : Writers) (es : List Event) (x : Event) → IsHistoryBy writers es → IsAcceptedBy writers es x → IsHistoryBy writers (es ++ x ∷ [])
history_by_push One es x h a = history_push es x h a
history_by_push Many es x h a = ordered_push es x h a

pub history_by_back : (writers : Writers) (es : List Event) (x : Event) → IsHistoryBy writers (es ++ x ∷ []) → IsHistoryBy writers es × IsAcceptedBy writers es x
history_by_back One es x h = history_back es x h
history_by_back Many es x h = ordered_back es x h

pub is_ordered_by : (writers : Writers) (es : List Event) → IsHistoryBy writers es → IsOrdered es
is_ordered_by One es h = history_is_ordered es h
is_ordered_by Many es h = h

pub bounded_by_ordered : (writers : Writers) (es : List Event) → IsBoundedBy writers es → IsBoundedOrdered es
bounded_by_ordered writers es h = record { history = is_ordered_by writers es h.history; short = h.short; fit = h.fit }

-- a history of so many writers is one of the most that there may be
pub bounded_at_most : (most writers : Writers) (es : List Event) → IsAtMost most writers → IsBoundedBy writers es → IsBoundedBy most es
bounded_at_most Many writers es most h = bounded_by_ordered writers es h
bounded_at_most One One es most h = h
bounded_at_most One Many es most h = absurd (false≢true most)

-- what is known of an ordered list that is a history with such writers
pub bounded_as : (writers : Writers) (es : List Event) → IsBoundedOrdered es → IsHistoryBy writers es → IsBoundedBy writers es
bounded_as writers es k h = record { history = h; short = k.short; fit = k.fit }

pub bounded_push : (limit : Limit) (es : List Event) (x : Event) → IsBoundedBy limit.writers es → refusal_of limit es x ≡ None → EventFits x → IsBoundedBy limit.writers (es ++ x ∷ [])
bounded_push limit es x k h fits =
    let a = accepted_none limit es x h in
    record {
      history = history_by_push limit.writers es x k.history a.0;
      short = omega (arith, length-append es (x ∷ []), a.1, limit.fits.1);
      fit = All-push EventFits es x k.fit fits;
    }

history_by_nil : (writers : Writers) → IsHistoryBy writers []
history_by_nil One = history_nil
history_by_nil Many = history_is_ordered [] history_nil

pub bounded_nil : (writers : Writers) → IsBoundedBy writers []
bounded_nil writers = record { history = history_by_nil writers; short = omega arith; fit = All-nil EventFits }
