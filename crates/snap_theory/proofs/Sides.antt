-- Both sides of a quiet moment are histories, the later one with numbers from 1.
use Rattle.std.proofs.Common.{◌≡◌, ℕ, suc, ◌+◌, ◌-◌, ◌%◌, Bool, true, false, cond, List, [], ◌∷◌, ◌++◌, append_assoc, append-nil, length, Option, Some, None, refl, sym, ap, ◌∙◌, subst, inl, inr, arith}
use Rattle.std.specs.Prelude.{◌==◌}
use Rattle.std.specs.List.{Contains, count_by}
use Rattle.std.proofs.lemmas.Bool.{eqb-true}
use Rattle.std.proofs.lemmas.List.Elements.{filter-append}
use Rattle.snap_core.specs.declared.entry.Entry.{Entry}
use Rattle.snap_core.specs.declared.event.Event.{Event}
use Rattle.snap_core.specs.declared.event.Event.TheVariants.{BeginUpdate, BeginView, EndUpdate, EndView}
use Rattle.snap_core.specs.Entries.{number_in}
use Rattle.snap_core.specs.Events.{process_of, IsBegin, Ends, TakeTurns, events_of, IsWellFormed, begins_update_of, IsSingleWriter, IsNumbered, IsHistory}
use Rattle.snap_core.specs.Calls.{Call, next_place, calls_from, calls_of}
use Rattle.snap_core.specs.Orders.{is_completed, last_written}
use Rattle.snap_core.proofs.Lists.{In, In-from_Contains, Contains-from_In, In-append_right, count-cons}
use Rattle.snap_core.proofs.Begun.{call_at, count-append}
use Rattle.snap_core.proofs.OrderedPushes.{history_by_back, is_ordered_by}
use Rattle.snap_core.specs.Bounded.{IsHistoryBy}
use Rattle.snap_core.specs.Ordered.{IsOrdered}
use Rattle.snap_core.specs.declared.writers.Writers.{Writers}
use Rattle.snap_core.specs.declared.writers.Writers.TheVariants.{One, Many}
use Rattle.snap_theory.proofs.EndOrders.{later_in_order}
use Rattle.snap_theory.specs.Windows.{IsQuiet, left_by}
use Rattle.snap_theory.specs.Renumbered.{renumbered_entry, renumbered_event, renumbered}
use Rattle.snap_theory.specs.WindowLaws.{SidesAreHistories}
use Rattle.snap_theory.proofs.Images.{split_origin}
use Rattle.snap_core.proofs.Members.{In-from_map}
use Rattle.snap_theory.proofs.Splits.{ended, all_completed}
use Rattle.snap_theory.proofs.Renumbered.{process_same}

-- the earlier side

pub history_front : (writers : Writers) (before after : List Event) → IsHistoryBy writers (before ++ after) → IsHistoryBy writers before
history_front writers before [] h = subst (IsHistoryBy writers) (append-nil before) h
history_front writers before (x ∷ after) h = (history_by_back writers before x (history_front writers (before ++ x ∷ []) after (subst (IsHistoryBy writers) (sym (append_assoc before (x ∷ []) after)) h))).0

-- no call is open: the events of each process are even

no_end_update : (p : ℕ) (zs : List Event) → TakeTurns (EndUpdate p ∷ zs) → ⊥
no_end_update p [] t = t
no_end_update p (z ∷ zs) t = t.0

no_end_view : (p : ℕ) (s : List Entry) (zs : List Event) → TakeTurns (EndView p s ∷ zs) → ⊥
no_end_view p s [] t = t
no_end_view p s (z ∷ zs) t = t.0

-- where no call is open, and where one is that ends in the list
abbrev Even : ℕ → List Event → Type 0
Even p es = (TakeTurns (events_of p es) → length (events_of p es) % 2 ≡ 0) × ((b : Event) (place m : ℕ) → TakeTurns (b ∷ events_of p es) → next_place p place es ≡ Some m → length (events_of p es) % 2 ≡ 1)

even_step : (p : ℕ) (x : Event) (es : List Event) → (TakeTurns (x ∷ events_of p es) → process_of x ≡ p → (place : ℕ) × (m : ℕ) × (next_place p place es ≡ Some m)) → Even p es → Even p (x ∷ es)
even_step p x es ends r = (closed (process_of x == p) refl, λ b place m. opened (process_of x == p) b place m)
  where
    closed : (t : Bool) → (process_of x == p) ≡ t → TakeTurns (cond t (x ∷ events_of p es) (events_of p es)) → length (cond t (x ∷ events_of p es) (events_of p es)) % 2 ≡ 0
    closed true t turns = let e = ends turns (eqb-true _ _ t) in let odd = r.1 x e.0 e.1 turns e.2 in omega (arith, odd)
    closed false t turns = r.0 turns

    opened : (t : Bool) (b : Event) (place m : ℕ) → TakeTurns (b ∷ cond t (x ∷ events_of p es) (events_of p es)) → cond t (Some place) (next_place p (suc place) es) ≡ Some m → length (cond t (x ∷ events_of p es) (events_of p es)) % 2 ≡ 1
    opened true b place m turns s = let even = r.0 turns.1 in omega (arith, even)
    opened false b place m turns s = r.1 b (suc place) m turns s

begin_ends : (n place : ℕ) (x : Event) (es : List Event) (p : ℕ) → is_completed (call_at n place x es) ≡ true → process_of x ≡ p → (place : ℕ) × (m : ℕ) × (next_place p place es ≡ Some m)
begin_ends n place x es p done same = let e = ended (call_at n place x es) done in (suc place, e.place, ap (λ q. next_place q (suc place) es) (sym same) ∙ e.ends)

evens : (p n place : ℕ) (es : List Event) → ((c : Call) → In c (calls_from n place es) → is_completed c ≡ true) → Even p es
evens p n place [] h = (λ t. refl, λ b q m t s. absurd (let g : None ≡ Some m = s in cc))
evens p n place (BeginUpdate q e ∷ es) h = even_step p (BeginUpdate q e) es (λ t s. begin_ends n place (BeginUpdate q e) es p (h _ (inl refl)) s) (evens p (suc n) (suc place) es (λ c i. h c (inr i)))
evens p n place (BeginView q ∷ es) h = even_step p (BeginView q) es (λ t s. begin_ends n place (BeginView q) es p (h _ (inl refl)) s) (evens p (suc n) (suc place) es (λ c i. h c (inr i)))
evens p n place (EndUpdate q ∷ es) h = even_step p (EndUpdate q) es (λ t s. absurd (no_end_update q (events_of p es) t)) (evens p n (suc place) es h)
evens p n place (EndView q d ∷ es) h = even_step p (EndView q d) es (λ t s. absurd (no_end_view q d (events_of p es) t)) (evens p n (suc place) es h)

pub even_quiet : (before : List Event) → IsQuiet before → (p : ℕ) → TakeTurns (events_of p before) → length (events_of p before) % 2 ≡ 0
unfolding calls_of
even_quiet before quiet p t = (evens p 0 0 before (all_completed before quiet)).0 t

turns_behind : (xs ys : List Event) → TakeTurns (xs ++ ys) → length xs % 2 ≡ 0 → TakeTurns ys
turns_behind [] ys t even = t
turns_behind (b ∷ []) ys t even = absurd (omega (arith, even))
turns_behind (b ∷ e ∷ xs) ys t even = turns_behind xs ys t.1 (omega (arith, even))

-- turns of renumbered events

begin_renumbered : (left : ℕ → Option Entry) (x : Event) → IsBegin x → IsBegin (renumbered_event left x)
begin_renumbered left (BeginUpdate p e) h = tt
begin_renumbered left (BeginView p) h = tt
begin_renumbered left (EndUpdate p) h = h
begin_renumbered left (EndView p s) h = h

ends_renumbered : (left : ℕ → Option Entry) (x y : Event) → Ends x y → Ends (renumbered_event left x) (renumbered_event left y)
ends_renumbered left (BeginUpdate p e) (EndUpdate q) h = tt
ends_renumbered left (BeginView p) (EndView q s) h = tt
ends_renumbered left (BeginUpdate p e) (BeginUpdate q d) h = absurd h
ends_renumbered left (BeginUpdate p e) (BeginView q) h = absurd h
ends_renumbered left (BeginUpdate p e) (EndView q s) h = absurd h
ends_renumbered left (BeginView p) (BeginUpdate q d) h = absurd h
ends_renumbered left (BeginView p) (BeginView q) h = absurd h
ends_renumbered left (BeginView p) (EndUpdate q) h = absurd h
ends_renumbered left (EndUpdate p) y h = absurd h
ends_renumbered left (EndView p s) y h = absurd h

turns_renumbered : (left : ℕ → Option Entry) (es : List Event) → TakeTurns es → TakeTurns (renumbered left es)
turns_renumbered left [] t = tt
turns_renumbered left (b ∷ []) t = begin_renumbered left b t
turns_renumbered left (b ∷ e ∷ es) t = (ends_renumbered left b e t.0, turns_renumbered left es t.1)

pub events_renumbered : (left : ℕ → Option Entry) (p : ℕ) (es : List Event) → events_of p (renumbered left es) ≡ renumbered left (events_of p es)
events_renumbered left p [] = refl
events_renumbered left p (x ∷ es) =
    ap (λ z. cond (z == p) (renumbered_event left x ∷ events_of p (renumbered left es)) (events_of p (renumbered left es))) (process_same left x)
    ∙ go (process_of x == p) (events_renumbered left p es)
  where
    go : (b : Bool) → events_of p (renumbered left es) ≡ renumbered left (events_of p es) → cond b (renumbered_event left x ∷ events_of p (renumbered left es)) (events_of p (renumbered left es)) ≡ renumbered left (cond b (x ∷ events_of p es) (events_of p es))
    go true r = ap (λ z. renumbered_event left x ∷ z) r
    go false r = r

well_formed : (before after : List Event) → IsOrdered (before ++ after) → IsQuiet before → IsWellFormed (renumbered (left_by before) after)
well_formed before after h quiet p =
    let both : TakeTurns (events_of p before ++ events_of p after) = subst TakeTurns (filter-append (λ e. process_of e == p) before after) (h.well_formed p) in
    let even = even_quiet before quiet p ((history_front Many before after h).well_formed p) in
    subst TakeTurns (sym (events_renumbered (left_by before) p after)) (turns_renumbered (left_by before) (events_of p after) (turns_behind (events_of p before) (events_of p after) both even))

-- the update that an event was

record UpdateEvent (left : ℕ → Option Entry) (x : Event) (p : ℕ) (e : Entry) : Type 0 where
  entry : Entry
  was : x ≡ BeginUpdate p entry
  is : renumbered_entry left entry ≡ e

update_event_of : (left : ℕ → Option Entry) (x : Event) (p : ℕ) (e : Entry) → renumbered_event left x ≡ BeginUpdate p e → UpdateEvent left x p e
update_event_of left (BeginUpdate q d) p e h = let same : q ≡ p = cc in record { entry = d; was = ap (λ z. BeginUpdate z d) same; is = cc }
update_event_of left (BeginView q) p e h = absurd (cc)
update_event_of left (EndUpdate q) p e h = absurd (cc)
update_event_of left (EndView q s) p e h = absurd (cc)

record Was (left : ℕ → Option Entry) (es : List Event) (p : ℕ) (e : Entry) : Type 0 where
  entry : Entry
  there : In (BeginUpdate p entry) es
  component : entry.component ≡ e.component

was : (left : ℕ → Option Entry) (es : List Event) (p : ℕ) (e : Entry) → Contains (renumbered left es) (BeginUpdate p e) → Was left es p e
was left es p e i =
    let o = In-from_map (renumbered_event left) es (BeginUpdate p e) (In-from_Contains _ _ i) in
    let u = update_event_of left o.it p e o.is in
    record { entry = u.entry; there = subst (λ z. In z es) u.was o.there; component = ap (λ (z : Entry). z.component) u.is }

single_writer : (before after : List Event) → IsHistory (before ++ after) → IsSingleWriter (renumbered (left_by before) after)
single_writer before after h p q d e i j same =
    let x = was (left_by before) after p d i in
    let y = was (left_by before) after q e j in
    h.single_writer p q x.entry y.entry
    (Contains-from_In _ _ (In-append_right (BeginUpdate p x.entry) before after x.there))
    (Contains-from_In _ _ (In-append_right (BeginUpdate q y.entry) before after y.there))
    (x.component ∙ same ∙ sym y.component)

-- the number of what was left is how many updates there were

abbrev CountsFrom : ℕ → ℕ → List Event → Type 0
CountsFrom k m es = (before after : List Event) (p : ℕ) (e : Entry) → es ≡ before ++ BeginUpdate p e ∷ after → e.component ≡ k → e.number ≡ suc (m + count_by (begins_update_of k) before)

counts_rest : (k m n : ℕ) (x : Event) (es : List Event) → m + cond (begins_update_of k x) 1 0 ≡ n → CountsFrom k m (x ∷ es) → CountsFrom k n es
counts_rest k m n x es s h before after p e split c = omega (arith, h (x ∷ before) after p e (ap (λ z. x ∷ z) split) c, s, count-cons (begins_update_of k) x before)

last_counts : (k n place : ℕ) (es : List Event) (m : ℕ) (o : Option Entry) → number_in o ≡ m → CountsFrom k m es → number_in (last_written k o (calls_from n place es)) ≡ m + count_by (begins_update_of k) es
last_counts k n place [] m o s h = omega (arith, s)
last_counts k n place (BeginUpdate p e ∷ es) m o s h = go (e.component == k) refl (last_counts k (suc n) (suc place) es)
  where
    cons : count_by (begins_update_of k) (BeginUpdate p e ∷ es) ≡ cond (e.component == k) 1 0 + count_by (begins_update_of k) es
    cons = count-cons (begins_update_of k) (BeginUpdate p e) es

    go : (t : Bool) → (e.component == k) ≡ t → ((m : ℕ) (o : Option Entry) → number_in o ≡ m → CountsFrom k m es → number_in (last_written k o (calls_from (suc n) (suc place) es)) ≡ m + count_by (begins_update_of k) es)
        → number_in (last_written k (cond t (Some e) o) (calls_from (suc n) (suc place) es)) ≡ m + count_by (begins_update_of k) (BeginUpdate p e ∷ es)
    go true t rest =
        let number : e.number ≡ suc m = omega (arith, h [] es p e refl (eqb-true _ _ t)) in
        let one : cond (e.component == k) 1 0 ≡ 1 = ap {B = ℕ} (λ b. cond b 1 0) t in
        let one_more : m + cond (e.component == k) 1 0 ≡ suc m = omega (arith, one) in
        omega (arith, rest (suc m) (Some e) number (counts_rest k m (suc m) (BeginUpdate p e) es one_more h), cons, one)
    go false t rest =
        let none : cond (e.component == k) 1 0 ≡ 0 = ap {B = ℕ} (λ b. cond b 1 0) t in
        omega (arith, rest m o s (counts_rest k m m (BeginUpdate p e) es (omega (arith, none)) h), cons, none)
last_counts k n place (BeginView p ∷ es) m o s h = omega (arith, last_counts k (suc n) (suc place) es m o s (counts_rest k m m (BeginView p) es (omega arith) h), count-cons (begins_update_of k) (BeginView p) es)
last_counts k n place (EndUpdate p ∷ es) m o s h = omega (arith, last_counts k n (suc place) es m o s (counts_rest k m m (EndUpdate p) es (omega arith) h), count-cons (begins_update_of k) (EndUpdate p) es)
last_counts k n place (EndView p d ∷ es) m o s h = omega (arith, last_counts k n (suc place) es m o s (counts_rest k m m (EndView p d) es (omega arith) h), count-cons (begins_update_of k) (EndView p d) es)

pub left_counts : (before : List Event) → IsNumbered before → (k : ℕ) → number_in (left_by before k) ≡ count_by (begins_update_of k) before
unfolding calls_of
left_counts before h k = omega (arith, last_counts k 0 0 before 0 None refl (λ b a p e s c. omega (arith, h b a p e s, ap (λ z. count_by (begins_update_of z) b) c)))

begins_renumbered : (left : ℕ → Option Entry) (k : ℕ) (x : Event) → begins_update_of k (renumbered_event left x) ≡ begins_update_of k x
begins_renumbered left k (BeginUpdate p e) = refl
begins_renumbered left k (BeginView p) = refl
begins_renumbered left k (EndUpdate p) = refl
begins_renumbered left k (EndView p s) = refl

pub count_renumbered : (left : ℕ → Option Entry) (k : ℕ) (es : List Event) → count_by (begins_update_of k) (renumbered left es) ≡ count_by (begins_update_of k) es
count_renumbered left k [] = refl
count_renumbered left k (x ∷ es) = omega (arith, count-cons (begins_update_of k) (renumbered_event left x) (renumbered left es), count-cons (begins_update_of k) x es, ap {B = ℕ} (λ b. cond b 1 0) (begins_renumbered left k x), count_renumbered left k es)

numbered : (before after : List Event) → IsOrdered (before ++ after) → IsNumbered (renumbered (left_by before) after)
numbered before after h b a p e s =
    let left = left_by before in
    let o = split_origin (renumbered_event left) after b a (BeginUpdate p e) s in
    let u = update_event_of left o.it p e o.is in
    let split : before ++ after ≡ (before ++ o.front) ++ BeginUpdate p u.entry ∷ o.back = ap (λ z. before ++ z) (o.split ∙ ap (λ z. o.front ++ z ∷ o.back) u.was) ∙ sym (append_assoc before o.front (BeginUpdate p u.entry ∷ o.back)) in
    let k = u.entry.component in
    let same : k ≡ e.component = ap (λ (z : Entry). z.component) u.is in
    let number : u.entry.number - number_in (left k) ≡ e.number = ap (λ (z : Entry). z.number) u.is in
    omega (
      arith,
      h.numbered (before ++ o.front) o.back p u.entry split,
      count-append k before o.front,
      left_counts before (history_front Many before after h).numbered k,
      number,
      count_renumbered left k o.front,
      ap (count_by (begins_update_of k)) o.is_front,
      ap (λ z. count_by (begins_update_of z) b) same,
    )

pub sides_are_histories : SidesAreHistories
sides_are_histories writers before after h quiet = (history_front writers before after h, later_side writers h)
  where
    ordered : IsOrdered (before ++ after)
    ordered = is_ordered_by writers (before ++ after) h

    later_side : (writers : Writers) → IsHistoryBy writers (before ++ after) → IsHistoryBy writers (renumbered (left_by before) after)
    later_side One h = record {
      well_formed = well_formed before after ordered quiet;
      single_writer = single_writer before after h;
      numbered = numbered before after ordered;
    }
    later_side Many h = record {
      well_formed = well_formed before after ordered quiet;
      numbered = numbered before after ordered;
      in_order = later_in_order before after h.in_order quiet;
    }
