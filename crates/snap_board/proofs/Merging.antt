-- The records of a closed board, in the order of their stamps, are a regular history with no call pending.
use Rattle.std.proofs.Common.{◌≡◌, ℕ, suc, ◌+◌, ◌<◌, ◌≤◌, ◌==◌, Bool, true, false, cond, List, [], ◌∷◌, ◌++◌, length, Some, None, is_some, sym, refl, ap, ◌∙◌, subst, inl, inr, arith, eq-eqb, eqb-true, nat_lt}
use mathlib.Core.Option.{some, some-injective}
use native.Mathlib.Decide.{dec_le, ℕ_discrete}
use lib.ListN.{get_elem?}
use Rattle.std.specs.List.{count_by}
use Rattle.std.proofs.lemmas.Bool.{false≢true}
use Rattle.std.proofs.lemmas.List.Elements.{filter-append}
use Rattle.snap_core.specs.declared.entry.Entry.{Entry}
use Rattle.snap_core.specs.declared.event.Event.{Event}
use Rattle.snap_core.specs.declared.event.Event.TheVariants.{BeginUpdate, BeginView, EndUpdate, EndView}
use Rattle.snap_core.specs.Entries.{entry_of, number_in}
use Rattle.snap_core.specs.Events.{process_of, TakeTurns, events_of, begins_update_of, IsHistory}
use Rattle.snap_core.specs.Calls.{Call, calls_of}
use Rattle.snap_core.specs.Orders.{is_completed}
use Rattle.snap_core.specs.Regular.{IsRegular}
use Rattle.snap_core.proofs.Lists.{count-cons}
use Rattle.snap_core.proofs.Begun.{Next, nothing, found, next, events_of-cons, Begun}
use Rattle.snap_core.proofs.Ends.{begun_of}
use Rattle.snap_account.specs.declared.account.Account.{Account}
use Rattle.snap_account.specs.declared.account.Answered.{Answered}
use Rattle.snap_account.specs.declared.account.Answer.{Answer}
use Rattle.snap_account.specs.declared.account.Answer.TheVariants.{Stored, Viewed, Scanned, Interfered}
use Rattle.snap_account.specs.Calls.{Mem, Write, write, view_record, writes_in, view_records_in, stamps_in}
use Rattle.snap_board.specs.Settled.{Settled}
use Rattle.snap_board.specs.Desks.{listed}
use Rattle.snap_board.specs.inside.Placed.{At, IsSpan, IsRegularByPlaces}
use Rattle.snap_board.specs.History.{Stamped, events_in, AllCompleted}
use Rattle.snap_account.proofs.Lists.{mem_at, mem_left, mem_right}
use Rattle.snap_board.proofs.Placed.{regular_by_places}
use Rattle.snap_board.proofs.Listing.{shown_at, shown_some, shown_low, entry_at, number_at, listed_entry, mem_contains}
use Rattle.snap_board.proofs.Accounts.{hand_low, hand_one, hand_there}
use Rattle.snap_board.proofs.Stamps.{Stamp, stamped_at, place_lt, mem_place, event_at, at_event, unique, pick, pick_mem, mem_pick, stamped_pick, pick_history}
use Rattle.snap_board.proofs.DeskEvents.{entry, op_events, desk_events, event_stamp, desk_stamped, Quiet, entry_in_event, view_of, update_of, write_event, own_update, desk_numbered, no_open_end}

-- the events of all accounts, in the order of their stamps
pub record InOrder (hand : List Account) (es : List Stamp) : Type 0 where
  pub stamped : Stamped es
  pub all : (a : Account) → Mem a hand → (x : Stamp) → Mem x (desk_events a.desk a.calls) → Mem x es
  pub only : (x : Stamp) → Mem x es → (a : Account) × Mem a hand × Mem x (desk_events a.desk a.calls)

-- an entry that is listed
entry_at_some : (k : ℕ) (p : ℕ × ℕ) (e : Entry) → entry_at k p ≡ Some e → (0 < p.0) × (entry k p.0 p.1 ≡ e)
entry_at_some k p e h = go (nat_lt 0 p.0) refl h
  where
    go : (b : Bool) → nat_lt 0 p.0 ≡ b → cond b (Some (entry k p.0 p.1)) None ≡ Some e → (0 < p.0) × (entry k p.0 p.1 ≡ e)
    go true t q = (Rattle.std.proofs.lemmas.Bool.ltb-true 0 p.0 t, cc)
    go false t q = absurd (cc)

pub mem_event : (es : List Stamp) (x : Event) → Mem x (events_in es) → (s : ℕ) × Mem (s, x) es
mem_event [] x m = absurd m
mem_event (y ∷ es) x (inl e) = (y.0, inl (λ i. (y.0, e i)))
mem_event (y ∷ es) x (inr m) = let r = mem_event es x m in (r.0, inr r.1)

completed_at : (c : Call) (place : ℕ) → c.ended ≡ Some place → is_completed c ≡ true
unfolding is_completed
completed_at c place e = ap is_some e

module _ (n : ℕ) (hand : List Account) (es : List Stamp) (h : Settled n hand) (m : InOrder hand es) where
  owner : (x : Stamp) → Mem x es → (a : Account) × Mem a hand × Mem x (desk_events a.desk a.calls) × (process_of x.1 ≡ a.desk)
  owner x mx = let o = m.only x mx in (o.0, o.1, o.2, (event_stamp o.0.desk o.0.calls x o.2).1)

  -- the begin of a call is that of its record
  same_begin : (a : Account) → Mem a hand → (p i j i2 s t b : ℕ) (e f e2 : Event) → get_elem? es i ≡ some (s, e) → get_elem? es j ≡ some (t, f) → get_elem? es i2 ≡ some (b, e2)
      → process_of e ≡ p → process_of e2 ≡ p → p ≡ a.desk → b < t → IsSpan (events_in es) p i j → Quiet b t a.calls → i2 ≡ i
  same_begin a ma p i j i2 s t b e f e2 ei ej e2i pe pe2 pa lt call quiet =
      let before = place_lt es m.stamped i2 j (b, e2) (t, f) e2i ej lt in
      let o = owner (s, e) (mem_at es i (s, e) ei) in
      let is : o.0 ≡ a = hand_one n hand h.desks o.0 a o.1 ma (sym o.3 ∙ pe ∙ pa) in
      let there : Mem s (stamps_in a.calls) = subst (λ (c : Account). Mem s (stamps_in c.calls)) is (event_stamp o.0.desk o.0.calls (s, e) o.2).0 in
      let late = stamped_at es m.stamped i j (s, e) (t, f) ei ej call.order in
      let up : i < i2 → ⊥ = λ l. call.quiet i2 e2 l before (at_event es i2 (b, e2) e2i) pe2 in
      let down : i2 < i → ⊥ = λ l. quiet s there (stamped_at es m.stamped i2 i (b, e2) (s, e) e2i ei l) late in
      at (ℕ_discrete i2 i) up down
    where
      at : Dec (i2 ≡ i) → (i < i2 → ⊥) → (i2 < i → ⊥) → i2 ≡ i
      at (yes q) up down = q
      at (no ne) up down = less (dec_le i2 i)
        where
          less : Dec (i2 ≤ i) → i2 ≡ i
          less (yes l) = absurd (down (omega arith))
          less (no nl) = absurd (up (omega arith))

  -- a completed view of the history is a record
  pub record ViewThere (i j p : ℕ) (shown : List Entry) : Type 0 where
    pub account : Account
    pub there : Mem account hand
    pub begun : ℕ
    pub ended : ℕ
    pub read : List (ℕ × ℕ)
    pub look_there : Mem (view_record begun ended true read) (view_records_in account.calls)
    pub lists : listed 0 read ≡ shown
    pub at_begin : get_elem? es i ≡ some (begun, BeginView p)
    pub at_end : get_elem? es j ≡ some (ended, EndView p shown)

  pub the_view : (i j p : ℕ) (shown : List Entry) → At (events_in es) i (BeginView p) → At (events_in es) j (EndView p shown) → IsSpan (events_in es) p i j → ViewThere i j p shown
  the_view i j p shown at_i at_j call =
      let ei = event_at es i (BeginView p) at_i in
      let ej = event_at es j (EndView p shown) at_j in
      let o = owner (ej.0, EndView p shown) (mem_at es j (ej.0, EndView p shown) ej.1) in
      let v = view_of o.0.desk o.0.calls (h.rising o.0 o.1) ej.0 p shown o.2 in
      let place = mem_place es (v.begun, BeginView o.0.desk) (m.all o.0 o.1 (v.begun, BeginView o.0.desk) v.begins) in
      let same = same_begin o.0 o.1 p i j place.0 ei.0 ej.0 v.begun (BeginView p) (EndView p shown) (BeginView o.0.desk) ei.1 ej.1 place.1 refl (sym o.3) o.3 v.order call v.quiet in
      let one : (ei.0, BeginView p) ≡ (v.begun, BeginView o.0.desk) = some-injective _ _ (sym ei.1 ∙ ap (λ k. get_elem? es k) (sym same) ∙ place.1) in
      let s : ei.0 ≡ v.begun = ap (λ (z : Stamp). z.0) one in
      record { account = o.0; there = o.1; begun = v.begun; ended = ej.0; read = v.read; look_there = v.there; lists = v.lists; at_begin = ei.1 ∙ (λ q. some (s q, BeginView p)); at_end = ej.1 }

  -- an update of the history that ended is a record
  pub record UpdateThere (i j q : ℕ) (e : Entry) : Type 0 where
    pub account : Account
    pub there : Mem account hand
    pub begun : ℕ
    pub ended : ℕ
    pub write_there : Mem (write e.number e.value begun ended true) (writes_in account.calls)
    pub component : account.desk ≡ e.component
    pub at_begin : get_elem? es i ≡ some (begun, BeginUpdate q e)
    pub at_end : get_elem? es j ≡ some (ended, EndUpdate q)

  pub the_update : (i j p : ℕ) (e : Entry) → At (events_in es) i (BeginUpdate p e) → At (events_in es) j (EndUpdate p) → IsSpan (events_in es) p i j → UpdateThere i j p e
  the_update i j p e at_i at_j call =
      let ei = event_at es i (BeginUpdate p e) at_i in
      let ej = event_at es j (EndUpdate p) at_j in
      let o = owner (ej.0, EndUpdate p) (mem_at es j (ej.0, EndUpdate p) ej.1) in
      let u = update_of o.0.desk o.0.calls (h.rising o.0 o.1) ej.0 p o.2 in
      let e2 : Event = BeginUpdate o.0.desk (entry o.0.desk u.number u.value) in
      let place = mem_place es (u.begun, e2) (m.all o.0 o.1 (u.begun, e2) u.begins) in
      let same = same_begin o.0 o.1 p i j place.0 ei.0 ej.0 u.begun (BeginUpdate p e) (EndUpdate p) e2 ei.1 ej.1 place.1 refl (sym o.3) o.3 u.order call u.quiet in
      let one : (ei.0, BeginUpdate p e) ≡ (u.begun, e2) = some-injective _ _ (sym ei.1 ∙ ap (λ z. get_elem? es z) (sym same) ∙ place.1) in
      let is : entry o.0.desk u.number u.value ≡ e = sym (ap (λ (z : Stamp). entry_in_event z.1) one) in
      record {
        account = o.0;
        there = o.1;
        begun = u.begun;
        ended = ej.0;
        write_there = subst (λ (w : Write). Mem w (writes_in o.0.calls)) (λ q. write (is q).number (is q).value u.begun ej.0 true) u.there;
        component = ap (λ (z : Entry). z.component) is;
        at_begin = ei.1 ∙ (λ z. some ((ap (λ (x : Stamp). x.0) one) z, BeginUpdate p e));
        at_end = ej.1;
      }

  by_places : IsRegularByPlaces (events_in es)
  by_places = record {
    fresh = λ i j p shown at_i at_j call f t q e at_f at_t span less early.
        let r = the_view i j p shown at_i at_j call in
        let u = the_update f t q e at_f at_t span in
        let low = hand_low n hand h.desks u.account u.there in
        let all = h.whole r.account r.there (view_record r.begun r.ended true r.read) r.look_there in
        let is = shown_some r.read u.account.desk (omega arith) in
        let sh = h.regular r.account r.there (view_record r.begun r.ended true r.read) r.look_there u.account u.there (shown_at r.read u.account.desk) is in
        let number : number_in (entry_of e.component shown) ≡ (shown_at r.read e.component).0 = ap (λ es. number_in (entry_of e.component es)) (sym r.lists) ∙ ap number_in (listed_entry e.component r.read) ∙ number_at e.component (shown_at r.read e.component) in
        let num : (shown_at r.read u.account.desk).0 < e.number = subst (λ (z : ℕ). (shown_at r.read z).0 < e.number) (sym u.component) (omega arith) in
        let late = sh.fresh (write e.number e.value u.begun u.ended true) u.write_there num in
        let lt = stamped_at es m.stamped t i (u.ended, EndUpdate q) (r.begun, BeginView p) u.at_end r.at_begin early in omega arith;
    real = λ i j p shown at_i at_j call k e is_shown.
        let r = the_view i j p shown at_i at_j call in
        let x = entry_at_some k (shown_at r.read k) e (sym (listed_entry k r.read) ∙ ap (entry_of k) r.lists ∙ is_shown) in
        let low = shown_low r.read k x.0 in
        let all = h.whole r.account r.there (view_record r.begun r.ended true r.read) r.look_there in
        let c = hand_there n hand h.desks k (omega arith) in
        let is : get_elem? r.read c.0.desk ≡ some (shown_at r.read k) = ap (λ z. get_elem? r.read z) c.2 ∙ shown_some r.read k low in
        let sh = h.regular r.account r.there (view_record r.begun r.ended true r.read) r.look_there c.0 c.1 (shown_at r.read k) is in
        let w = sh.real x.0 in
        let ev : Event = BeginUpdate c.0.desk (entry c.0.desk w.0.number w.0.value) in
        let place = mem_place es (w.0.begun, ev) (m.all c.0 c.1 (w.0.begun, ev) (write_event c.0.desk c.0.calls w.0 w.1)) in
        let same : ev ≡ BeginUpdate c.0.desk e = (λ z. BeginUpdate c.0.desk (entry (c.2 z) (w.2 z) (w.3 z))) ∙ ap (BeginUpdate c.0.desk) x.1 in
        (place.0, c.0.desk, at_event es place.0 (w.0.begun, ev) place.1 ∙ ap some same, place_lt es m.stamped place.0 j (w.0.begun, ev) (r.ended, EndView p shown) place.1 r.at_end w.4);
  }

  -- the events of process a.desk are those of its records
  one_process : (a : Account) → Mem a hand → pick a.desk es ≡ desk_events a.desk a.calls
  one_process a ma = unique (pick a.desk es) (desk_events a.desk a.calls) (stamped_pick a.desk es m.stamped) (desk_stamped a.desk a.calls (h.rising a ma))
      (λ x mx. let q = pick_mem a.desk es x mx in let o = owner x q.0 in
      subst (λ (c : Account). Mem x (desk_events c.desk c.calls)) (hand_one n hand h.desks o.0 a o.1 ma (sym o.3 ∙ q.1)) o.2)
      (λ x mx. mem_pick a.desk es x (m.all a ma x mx) (event_stamp a.desk a.calls x mx).1)

  pub of_process : (a : Account) → Mem a hand → events_of a.desk (events_in es) ≡ events_in (desk_events a.desk a.calls)
  of_process a ma = sym (pick_history a.desk es) ∙ ap events_in (one_process a ma)

  no_process : (p : ℕ) → n ≤ p → pick p es ≡ []
  no_process p high = unique (pick p es) [] (stamped_pick p es m.stamped) tt
      (λ x mx. let q = pick_mem p es x mx in let o = owner x q.0 in let low = hand_low n hand h.desks o.0 o.1 in let s = sym o.3 ∙ q.1 in absurd (omega arith))
      (λ x mx. absurd mx)

  pub of_no_process : (p : ℕ) → n ≤ p → events_of p (events_in es) ≡ []
  of_no_process p high = sym (pick_history p es) ∙ ap events_in (no_process p high)

  well_formed : (p : ℕ) → TakeTurns (events_of p (events_in es))
  well_formed p = at (dec_le n p)
    where
      turn : (d b e : ℕ) (o : Answer) (l : List Stamp) → TakeTurns (events_in l) → TakeTurns (events_in (op_events d b e o ++ l))
      turn d b e (Stored i v) l rest = (tt, rest)
      turn d b e (Viewed xs) l rest = (tt, rest)
      turn d b e (Scanned t xs) l rest = (tt, rest)
      turn d b e (Interfered i xs ys) l rest = rest

      turns : (d : ℕ) (rs : List Answered) → TakeTurns (events_in (desk_events d rs))
      turns d [] = tt
      turns d (q ∷ rs) = turn d q.begun q.ended q.op (desk_events d rs) (turns d rs)

      at : Dec (n ≤ p) → TakeTurns (events_of p (events_in es))
      at (yes high) = subst TakeTurns (sym (of_no_process p high)) tt
      at (no nh) =
          let a = hand_there n hand h.desks p (omega arith) in
          subst TakeTurns (sym (of_process a.0 a.1) ∙ ap (λ z. events_of z (events_in es)) a.2) (turns a.0.desk a.0.calls)

  own : (p : ℕ) (e : Entry) → Mem (BeginUpdate p e) (events_in es) → p ≡ e.component
  own p e x =
      let s = mem_event es (BeginUpdate p e) x in
      let o = owner (s.0, BeginUpdate p e) s.1 in
      own_update o.0.desk o.0.calls s.0 p e o.2

  update_by : (k : ℕ) (y : Event) → Mem y (events_in es) → begins_update_of k y ≡ true → process_of y ≡ k
  update_by k (BeginUpdate q c) my t = own q c my ∙ eqb-true _ _ t
  update_by k (BeginView q) my t = absurd (false≢true t)
  update_by k (EndUpdate q) my t = absurd (false≢true t)
  update_by k (EndView q s) my t = absurd (false≢true t)

  -- the updates of a component are its process's
  count_same : (k : ℕ) (l : List Event) → ((y : Event) → Mem y l → Mem y (events_in es)) → count_by (begins_update_of k) l ≡ count_by (begins_update_of k) (events_of k l)
  count_same k [] sub = refl
  count_same k (y ∷ l) sub = go (process_of y == k) refl (begins_update_of k y) refl (count_same k l (λ z mz. sub z (inr mz)))
    where
      go : (b : Bool) → (process_of y == k) ≡ b → (u : Bool) → begins_update_of k y ≡ u → count_by (begins_update_of k) l ≡ count_by (begins_update_of k) (events_of k l)
          → count_by (begins_update_of k) (y ∷ l) ≡ count_by (begins_update_of k) (cond b (y ∷ events_of k l) (events_of k l))
      go true t u v rest = count-cons (begins_update_of k) y l ∙ ap (λ z. cond (begins_update_of k y) 1 0 + z) rest ∙ sym (count-cons (begins_update_of k) y (events_of k l))
      go false t true v rest = absurd (false≢true (sym t ∙ eq-eqb _ _ (update_by k y (sub y (inl refl)) v)))
      go false t false v rest = let a = count-cons (begins_update_of k) y l in let z : ◌≡◌ {A = ℕ} (cond {A = ℕ} (begins_update_of k y) 1 0) 0 = ap (λ b. cond {A = ℕ} b 1 0) v in omega arith

  -- the updates of a component that stand before an update
  numbered : (before after : List Event) (p : ℕ) (e : Entry) → events_in es ≡ before ++ BeginUpdate p e ∷ after → e.number ≡ suc (count_by (begins_update_of e.component) before)
  numbered before after p e split =
      let x : Event = BeginUpdate p e in
      let here : Mem x (events_in es) = subst (λ (l : List Event). Mem x l) (sym split) (mem_right before (x ∷ after) x (inl refl)) in
      let s = mem_event es x here in
      let o = owner (s.0, x) s.1 in
      let d : ℕ = o.0.desk in
      let comp : d ≡ e.component = sym o.3 ∙ own p e here in
      let inner : events_in (desk_events d o.0.calls) ≡ events_of d before ++ x ∷ events_of d after =
      sym (of_process o.0 o.1) ∙ ap (events_of d) split ∙ filter-append (λ z. process_of z == d) before (x ∷ after) ∙ ap (λ z. events_of d before ++ z) (events_of-cons d x after o.3) in
      let num = desk_numbered 1 d o.0.calls (events_of d before) (events_of d after) p e (h.numbered o.0 o.1) inner in
      let same = count_same d before (λ y my. subst (λ (l : List Event). Mem y l) (sym split) (mem_left before (x ∷ after) y my)) in
      let all : e.number ≡ suc (count_by (begins_update_of d) before) = omega arith in
      subst (λ (k : ℕ). e.number ≡ suc (count_by (begins_update_of k) before)) comp all

  pub history : IsHistory (events_in es)
  history = record {
    well_formed = well_formed;
    single_writer = λ p q d e i j same. own p d (mem_contains _ _ i) ∙ same ∙ sym (own q e (mem_contains _ _ j));
    numbered = numbered;
  }

  pub regular : IsRegular (calls_of (events_in es))
  regular = regular_by_places (events_in es) history by_places

  pub completed : AllCompleted (calls_of (events_in es))
  completed c there = ended (begun_of (events_in es) c there)
    where
      ended : Begun 0 0 (events_in es) c → is_completed c ≡ true
      ended b = at (next (process_of b.event) (suc c.begun) b.after)
        where
          p : ℕ
          p = process_of b.event

          at : Next p (suc c.begun) b.after → is_completed c ≡ true
          at (found mid x rest s q none is a) = completed_at c (suc c.begun + length mid) (ap (λ (z : Call). z.ended) b.is ∙ is)
          at (nothing is none a) =
              let here : Mem b.event (events_in es) = subst (λ (l : List Event). Mem b.event l) (sym b.split) (mem_right b.before (b.event ∷ b.after) b.event (inl refl)) in
              let s = mem_event es b.event here in
              let o = owner (s.0, b.event) s.1 in
              let inner : events_in (desk_events o.0.desk o.0.calls) ≡ events_of o.0.desk b.before ++ b.event ∷ [] =
              sym (of_process o.0 o.1) ∙ ap (events_of o.0.desk) b.split ∙ filter-append (λ z. process_of z == o.0.desk) b.before (b.event ∷ b.after)
              ∙ ap (λ z. events_of o.0.desk b.before ++ z) (events_of-cons o.0.desk b.event b.after o.3 ∙ ap (λ z. b.event ∷ z) (ap (λ z. events_of z b.after) (sym o.3) ∙ none)) in
              absurd (no_open_end o.0.desk o.0.calls (events_of o.0.desk b.before) b.event inner b.opens)
