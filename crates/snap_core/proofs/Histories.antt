-- The calls of a history are what `AreCalls` says.
use Rattle.std.proofs.Common.{◌≡◌, ℕ, suc, ◌+◌, ◌-◌, ◌<◌, ◌≤◌, Bool, true, false, cond, List, [], ◌∷◌, ◌++◌, append_assoc, length, refl, sym, ap, ◌∙◌, subst, inl, inr, arith, get_or}
use Rattle.std.specs.Prelude.{◌==◌}
use Rattle.std.specs.List.{Contains, count_by}
use Rattle.std.proofs.lemmas.Bool.{eqb-true, eq-eqb, cases_order}
use Rattle.std.proofs.lemmas.List.{length-append}
use Rattle.std.proofs.lemmas.List.Elements.{All-contains}
use Rattle.snap_core.specs.declared.entry.Entry.{Entry}
use Rattle.snap_core.specs.Events.{Event, BeginUpdate, BeginView, EndUpdate, EndView, process_of, IsBegin, Ends, events_of, begins_update_of, IsNumbered, IsHistory, HasByteComponents, IsByteEvent}
use Rattle.snap_core.specs.Calls.{Call, calls_from, calls_of, precedes}
use Rattle.snap_core.specs.Regular.{IsUpdateOf}
use Rattle.snap_core.proofs.Lists.{In, Contains-from_In, In-append_right, Pairs, count-cons}
use Rattle.snap_core.proofs.Facts.{AreCalls, EarlierUpdate, precedes_from}
use Rattle.snap_core.proofs.Begun.{Compared, alike, first, second, compare_splits, not_end, Next, nothing, found, next, ends_it, begins, begins-append, begin_one, call_at, Begun, CallAt, call_there, numbers_rise, number_at_place, update_event, count-append, count_inside, no_event}
use Rattle.snap_core.proofs.Ends.{begun_of, rises_part, apart_part, unanswered_part, answered_part}

-- where an update begins
record Opened (es : List Event) (c : Call) (e : Entry) : Type 0 where
  before : List Event
  process : ℕ
  after : List Event
  split : es ≡ before ++ BeginUpdate process e ∷ after
  at_number : c.number ≡ begins before
  at_place : c.begun ≡ length before
  is : c ≡ call_at c.number c.begun (BeginUpdate process e) after

opened : (es : List Event) (c : Call) (e : Entry) → IsUpdateOf (calls_of es) c e → Opened es c e
opened es c e u =
    let b = begun_of es c u.there in
    let x : b.event ≡ BeginUpdate (process_of b.event) e = update_event b.event b.after e (sym (ap (λ (z : Call). z.operation) b.is) ∙ u.writes) in
    record {
      before = b.before;
      process = process_of b.event;
      after = b.after;
      split = b.split ∙ ap (λ z. b.before ++ z ∷ b.after) x;
      at_number = omega (arith, b.at_number);
      at_place = omega (arith, b.at_place);
      is = b.is ∙ ap (λ z. call_at c.number c.begun z b.after) x;
    }

number_at : (es : List Event) → IsNumbered es → (c : Call) (e : Entry) (k : ℕ) → (o : Opened es c e) → e.component ≡ k → e.number ≡ suc (count_by (begins_update_of k) o.before)
number_at es h c e k o s = h o.before o.after o.process e o.split ∙ ap (λ z. suc (count_by (begins_update_of z) o.before)) s

-- a component has as many updates as the number of each of them
pub number_few : (es : List Event) → IsNumbered es → (c : Call) (e : Entry) → IsUpdateOf (calls_of es) c e → e.number ≤ count_by (begins_update_of e.component) es
number_few es h c e u =
    let o = opened es c e u in
    let one : cond (e.component == e.component) 1 0 ≡ 1 = ap {B = ℕ} (λ b. cond b 1 0) (eq-eqb _ _ refl) in
    omega (arith, number_at es h c e e.component o refl, ap (count_by (begins_update_of e.component)) o.split ∙ count-append e.component o.before (BeginUpdate o.process e ∷ o.after), count-cons (begins_update_of e.component) (BeginUpdate o.process e) o.after, one)

pub in_history : (es : List Event) (x : Event) (before after : List Event) → es ≡ before ++ x ∷ after → Contains es x
in_history es x before after s = Contains-from_In es x (subst (In x) (sym s) (In-append_right x before (x ∷ after) (inl refl)))

-- the begin of the update with the higher number stands after that of the lower one
record Later (before : List Event) (x : Event) (after later : List Event) (y : Event) (rest : List Event) : Type 0 where
  mid : List Event
  between : later ≡ before ++ x ∷ mid
  beyond : after ≡ mid ++ y ∷ rest

later_begin : (es : List Event) → IsNumbered es → (a b : Call) (d e : Entry) (o : Opened es a d) (q : Opened es b e) → d.component ≡ e.component → d.number < e.number → Later o.before (BeginUpdate o.process d) o.after q.before (BeginUpdate q.process e) q.after
later_begin es h a b d e o q same less = go (compare_splits o.before (BeginUpdate o.process d) o.after q.before (BeginUpdate q.process e) q.after (sym o.split ∙ q.split))
  where
    na : d.number ≡ suc (count_by (begins_update_of e.component) o.before)
    na = number_at es h a d e.component o same

    nb : e.number ≡ suc (count_by (begins_update_of e.component) q.before)
    nb = number_at es h b e e.component q refl

    go : Compared o.before (BeginUpdate o.process d) o.after q.before (BeginUpdate q.process e) q.after → Later o.before (BeginUpdate o.process d) o.after q.before (BeginUpdate q.process e) q.after
    go (alike i j k) = absurd (let c : count_by (begins_update_of e.component) o.before ≡ count_by (begins_update_of e.component) q.before = ap (count_by (begins_update_of e.component)) i in omega (arith, na, nb, c))
    go (second mid s t) = absurd (
        let c : count_by (begins_update_of e.component) o.before ≡ count_by (begins_update_of e.component) (q.before ++ BeginUpdate q.process e ∷ mid) = ap (count_by (begins_update_of e.component)) s in
        omega (arith, na, nb, c, count_inside e.component q.before mid q.process e refl))
    go (first mid s t) = record { mid = mid; between = s; beyond = t }

pub begins_part : (es : List Event) → IsNumbered es → (a b : Call) (d e : Entry) → IsUpdateOf (calls_of es) a d → IsUpdateOf (calls_of es) b e → d.component ≡ e.component → d.number < e.number → a.begun < b.begun
begins_part es h a b d e u w same less =
    let o = opened es a d u in
    let q = opened es b e w in
    let l = later_begin es h a b d e o q same less in
    omega (arith, o.at_place, q.at_place, ap length l.between ∙ length-append o.before (BeginUpdate o.process d ∷ l.mid))

follows_part : (es : List Event) → IsHistory es → (a b : Call) (d e : Entry) → IsUpdateOf (calls_of es) a d → IsUpdateOf (calls_of es) b e → d.component ≡ e.component → d.number < e.number → precedes a b ≡ true
follows_part es h a b d e u w same less = at (next o.process (suc a.begun) o.after)
  where
    o : Opened es a d
    o = opened es a d u

    q : Opened es b e
    q = opened es b e w

    l : Later o.before (BeginUpdate o.process d) o.after q.before (BeginUpdate q.process e) q.after
    l = later_begin es h.numbered a b d e o q same less

    one_process : o.process ≡ q.process
    one_process = h.single_writer o.process q.process d e (in_history es (BeginUpdate o.process d) o.before o.after o.split) (in_history es (BeginUpdate q.process e) q.before q.after q.split) same

    at : Next o.process (suc a.begun) o.after → precedes a b ≡ true
    at (nothing x y z) = absurd (no_event o.process l.mid (BeginUpdate q.process e) q.after (sym one_process) (sym (ap (events_of o.process) l.beyond) ∙ y))
    at (found m x rest s px none place ans) = late (compare_splits m x rest l.mid (BeginUpdate q.process e) q.after (sym s ∙ l.beyond))
      where
        ends : Ends (BeginUpdate o.process d) x
        ends = ends_it es h.well_formed o.before m rest (BeginUpdate o.process d) x (o.split ∙ ap (λ z. o.before ++ BeginUpdate o.process d ∷ z) s) tt px none

        late : Compared m x rest l.mid (BeginUpdate q.process e) q.after → precedes a b ≡ true
        late (alike i j k) = absurd (not_end (BeginUpdate o.process d) x ends (subst IsBegin (sym j) tt))
        late (second m' i j) = absurd (no_event o.process l.mid (BeginUpdate q.process e) m' (sym one_process) (sym (ap (events_of o.process) i) ∙ none))
        late (first m' i j) = precedes_from a b (record {
          place = suc a.begun + length m;
          ends = ap (λ (z : Call). z.ended) o.is ∙ place;
          before =
              let l1 = ap length l.between ∙ length-append o.before (BeginUpdate o.process d ∷ l.mid) in
              let l2 = ap length i ∙ length-append m (x ∷ m') in
              omega (arith, o.at_place, q.at_place, l1, l2);
        })

-- the update of component k with m - 1 of them before it
record Numbered (k m : ℕ) (es : List Event) : Type 0 where
  before : List Event
  process : ℕ
  entry : Entry
  after : List Event
  split : es ≡ before ++ BeginUpdate process entry ∷ after
  component : entry.component ≡ k
  count : suc (count_by (begins_update_of k) before) ≡ m

numbered_later : (k m n : ℕ) (x : Event) (es : List Event) → m ≡ cond (begins_update_of k x) 1 0 + n → Numbered k n es → Numbered k m (x ∷ es)
numbered_later k m n x es h r = record {
  before = x ∷ r.before;
  process = r.process;
  entry = r.entry;
  after = r.after;
  split = ap (λ z. x ∷ z) r.split;
  component = r.component;
  count = omega (arith, count-cons (begins_update_of k) x r.before, r.count);
}

find_numbered : (k m : ℕ) (es : List Event) → 0 < m → m ≤ count_by (begins_update_of k) es → Numbered k m es
find_numbered k m [] l h = absurd (omega arith)
find_numbered k m (BeginUpdate p e ∷ es) l h = go (e.component == k) refl (find_numbered k m es l) (find_numbered k (m - 1) es)
  where
    cons : count_by (begins_update_of k) (BeginUpdate p e ∷ es) ≡ cond (e.component == k) 1 0 + count_by (begins_update_of k) es
    cons = count-cons (begins_update_of k) (BeginUpdate p e) es

    go : (b : Bool) → (e.component == k) ≡ b → (m ≤ count_by (begins_update_of k) es → Numbered k m es) → (0 < m - 1 → m - 1 ≤ count_by (begins_update_of k) es → Numbered k (m - 1) es) → Numbered k m (BeginUpdate p e ∷ es)
    go true t same less = elim (cases_order m 1) [
      | inl one ↦ record { before = []; process = p; entry = e; after = es; split = refl; component = eqb-true _ _ t; count = sym one }
      | inr (inl z) ↦ absurd (omega arith)
      | inr (inr z) ↦
          let pos : 0 < m - 1 = omega arith in
          let c : cond (e.component == k) 1 0 ≡ 1 = ap {B = ℕ} (λ b. cond b 1 0) t in
          let le : m - 1 ≤ count_by (begins_update_of k) es = omega (arith, cons, c) in
          numbered_later k m (m - 1) (BeginUpdate p e) es (omega (arith, c)) (less pos le)
    ]
    go false t same less =
        let c : cond (e.component == k) 1 0 ≡ 0 = ap {B = ℕ} (λ b. cond b 1 0) t in
        numbered_later k m m (BeginUpdate p e) es (omega (arith, c)) (same (omega (arith, cons, c)))
find_numbered k m (BeginView p ∷ es) l h = numbered_later k m m (BeginView p) es (omega arith) (find_numbered k m es l (omega (arith, count-cons (begins_update_of k) (BeginView p) es)))
find_numbered k m (EndUpdate p ∷ es) l h = numbered_later k m m (EndUpdate p) es (omega arith) (find_numbered k m es l (omega (arith, count-cons (begins_update_of k) (EndUpdate p) es)))
find_numbered k m (EndView p s ∷ es) l h = numbered_later k m m (EndView p s) es (omega arith) (find_numbered k m es l (omega (arith, count-cons (begins_update_of k) (EndView p s) es)))

call_of : (es before after : List Event) (x : Event) → es ≡ before ++ x ∷ after → IsBegin x → CallAt (calls_of es) x after
unfolding calls_of
call_of es before after x s i = subst (λ z. CallAt (calls_from 0 0 z) x after) (sym s) (call_there 0 0 before x after i)

pub earlier_part : (es : List Event) → IsNumbered es → (b : Call) (e : Entry) (m : ℕ) → IsUpdateOf (calls_of es) b e → 0 < m → m ≤ e.number → EarlierUpdate (calls_of es) e.component m
earlier_part es h b e m u l le = elim (cases_order m e.number) [
  | inl eq ↦ record { call = b; entry = e; update = u; component = refl; number = sym eq }
  | inr (inl less) ↦ from (find_numbered e.component m o.before l (omega (arith, nb)))
  | inr (inr more) ↦ absurd (omega arith)
]
  where
    o : Opened es b e
    o = opened es b e u

    nb : e.number ≡ suc (count_by (begins_update_of e.component) o.before)
    nb = number_at es h b e e.component o refl

    from : Numbered e.component m o.before → EarlierUpdate (calls_of es) e.component m
    from r =
        let split : es ≡ r.before ++ BeginUpdate r.process r.entry ∷ (r.after ++ BeginUpdate o.process e ∷ o.after) = o.split ∙ ap (λ z. z ++ BeginUpdate o.process e ∷ o.after) r.split ∙ append_assoc r.before (BeginUpdate r.process r.entry ∷ r.after) (BeginUpdate o.process e ∷ o.after) in
        let c = call_of es r.before (r.after ++ BeginUpdate o.process e ∷ o.after) (BeginUpdate r.process r.entry) split tt in
        let n = h r.before (r.after ++ BeginUpdate o.process e ∷ o.after) r.process r.entry split in
        record {
          call = call_at c.number c.place (BeginUpdate r.process r.entry) (r.after ++ BeginUpdate o.process e ∷ o.after);
          entry = r.entry;
          update = record { there = Contains-from_In (calls_of es) _ c.there; writes = refl };
          component = r.component;
          number = n ∙ ap (λ z. suc (count_by (begins_update_of z) r.before)) r.component ∙ r.count;
        }

pub positive_part : (es : List Event) → IsNumbered es → (b : Call) (e : Entry) → IsUpdateOf (calls_of es) b e → 0 < e.number
positive_part es h b e u = let o = opened es b e u in omega (arith, number_at es h b e e.component o refl)

call_same : (n m p q : ℕ) (x y : Event) (xs ys : List Event) → n ≡ m → p ≡ q → x ≡ y → xs ≡ ys → call_at n p x xs ≡ call_at m q y ys
call_same n m p q x y xs ys a b c d =
    ap (λ z. call_at z p x xs) a ∙ ap (λ z. call_at m z x xs) b ∙ ap (λ z. call_at m q z xs) c ∙ ap (λ z. call_at m q y z) d

pub one_part : (es : List Event) → IsNumbered es → (a b : Call) (d e : Entry) → IsUpdateOf (calls_of es) a d → IsUpdateOf (calls_of es) b e → d.component ≡ e.component → d.number ≡ e.number → a ≡ b
one_part es h a b d e u w same eq = go (compare_splits o.before (BeginUpdate o.process d) o.after q.before (BeginUpdate q.process e) q.after (sym o.split ∙ q.split))
  where
    o : Opened es a d
    o = opened es a d u

    q : Opened es b e
    q = opened es b e w

    na : d.number ≡ suc (count_by (begins_update_of e.component) o.before)
    na = number_at es h a d e.component o same

    nb : e.number ≡ suc (count_by (begins_update_of e.component) q.before)
    nb = number_at es h b e e.component q refl

    go : Compared o.before (BeginUpdate o.process d) o.after q.before (BeginUpdate q.process e) q.after → a ≡ b
    go (alike i j k) =
        o.is
        ∙ call_same a.number b.number a.begun b.begun (BeginUpdate o.process d) (BeginUpdate q.process e) o.after q.after
        (o.at_number ∙ ap begins i ∙ sym q.at_number) (o.at_place ∙ ap length i ∙ sym q.at_place) j k
        ∙ sym q.is
    go (first mid s t) = absurd (
        let c : count_by (begins_update_of e.component) q.before ≡ count_by (begins_update_of e.component) (o.before ++ BeginUpdate o.process d ∷ mid) = ap (count_by (begins_update_of e.component)) s in
        omega (arith, na, nb, c, count_inside e.component o.before mid o.process d same))
    go (second mid s t) = absurd (
        let c : count_by (begins_update_of e.component) o.before ≡ count_by (begins_update_of e.component) (q.before ++ BeginUpdate q.process e ∷ mid) = ap (count_by (begins_update_of e.component)) s in
        omega (arith, na, nb, c, count_inside e.component q.before mid q.process e refl))

pub ordered_part : (es : List Event) (a b : Call) → Contains (calls_of es) a → Contains (calls_of es) b → a.begun < b.begun → a.number < b.number
ordered_part es a b i j l = go (compare_splits x.before x.event x.after y.before y.event y.after (sym x.split ∙ y.split))
  where
    x : Begun 0 0 es a
    x = begun_of es a i

    y : Begun 0 0 es b
    y = begun_of es b j

    go : Compared x.before x.event x.after y.before y.event y.after → a.number < b.number
    go (alike s t u) = absurd (omega (arith, x.at_place, y.at_place, ap length s))
    go (first mid s t) = omega (arith, x.at_number, y.at_number, ap begins s ∙ begins-append x.before (x.event ∷ mid), begin_one x.event x.opens)
    go (second mid s t) = absurd (omega (arith, x.at_place, y.at_place, ap length s ∙ length-append y.before (y.event ∷ mid)))

pub numbered_part : (es : List Event) → Pairs (λ a b. a.number < b.number) (calls_of es)
unfolding calls_of
numbered_part es = numbers_rise 0 0 es

pub are_calls : (es : List Event) → IsHistory es → AreCalls (calls_of es)
are_calls es h = record {
  follows = follows_part es h;
  earlier = earlier_part es h.numbered;
  positive = positive_part es h.numbered;
  one = one_part es h.numbered;
  rises = rises_part es;
  ordered = ordered_part es;
  numbered = numbered_part es;
  unanswered = unanswered_part es h.well_formed;
  answered = answered_part es;
  apart = apart_part es h.well_formed;
}

pub byte_components : (es : List Event) → HasByteComponents es → (c : Call) (e : Entry) → IsUpdateOf (calls_of es) c e → e.component < 256
byte_components es b c e u = let o = opened es c e u in All-contains IsByteEvent es (BeginUpdate o.process e) b (in_history es (BeginUpdate o.process e) o.before o.after o.split)

pub numbered_calls : (es : List Event) (j : ℕ) (d : Call) → j < length (calls_of es) → (get_or (calls_of es) j d).number ≡ j
unfolding calls_of
numbered_calls es j d l = let r = number_at_place 0 0 es j d l in omega (arith, r)
