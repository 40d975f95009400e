-- The stores and scans of a closed board have a legal order.
use Rattle.std.proofs.Common.{◌≡◌, ◌≢◌, ℕ, ◌+◌, ◌<◌, ◌≤◌, ◌⊎◌, ◌==◌, Bool, true, false, cond, if◌then◌else◌, List, [], ◌∷◌, ◌++◌, map, get_or, Option, Some, None, sym, refl, ap, ◌∙◌, subst, inl, inr, ⊎_elim, arith, eq-eqb, eqb-true}
use Rattle.std.specs.List.{Contains}
use Rattle.std.proofs.lemmas.Bool.{false≢true, false_from_ne_true}
use native.Mathlib.Decide.{ℕ_discrete}
use mathlib.Core.Option.{some}
use lib.ListN.{get_elem?}
use Rattle.snap_core.specs.declared.entry.Entry.{Entry}
use Rattle.snap_core.specs.declared.event.Event.{Event}
use Rattle.snap_core.specs.declared.event.Event.TheVariants.{BeginUpdate, BeginView, EndUpdate, EndView}
use Rattle.snap_core.specs.Entries.{entry_of}
use Rattle.snap_core.specs.Events.{Ends, process_of, IsHistory}
use Rattle.snap_core.specs.Calls.{Call, Operation, Updates, Views, calls_of, precedes, is_view, is_answer, shown, entries_of}
use Rattle.snap_core.specs.Orders.{IsLegalOrder, IsAtomic, is_completed, is_update, written_by, last_written}
use Rattle.snap_core.proofs.Lists.{In, In-from_Contains, Contains-from_In, In-get_or, Pairs, AllPairs-from_Pairs, Pairs-weaker}
use Rattle.snap_core.proofs.Facts.{AreCalls, Precedes, precedes_to}
use Rattle.snap_core.proofs.Begun.{operation_at}
use Rattle.snap_core.proofs.Histories.{are_calls}
use Rattle.snap_account.specs.declared.account.Account.{Account}
use Rattle.snap_account.specs.Calls.{Mem, ViewRecord, Write, Mark, view_record, write, view_records_in, writes_in, marks_in}
use Rattle.snap_account.specs.Rule.{clock}
use Rattle.snap_board.specs.Settled.{Settled, ScansSettled}
use Rattle.snap_board.specs.Desks.{listed}
use Rattle.snap_board.specs.inside.Placed.{At, IsSpan}
use Rattle.snap_board.specs.History.{events_in, in_order, stamped_events, all_records}
use Rattle.snap_board.specs.Scans.{without_collects, scan_history}
use Rattle.snap_board.proofs.Keeping.{look_mark, settled_kept, scans_kept}
use Rattle.snap_board.proofs.Ordering.{merged, in_order_of}
use Rattle.snap_account.proofs.Lists.{numbered_positive}
use Rattle.snap_account.proofs.Marking.{numbered_one}
use Rattle.snap_board.proofs.Listing.{shown_at, shown_some, shown_low, entry_at, listed_entry}
use Rattle.snap_board.proofs.Accounts.{hand_one, hand_there}
use Rattle.snap_board.proofs.Stamps.{Stamp, stamped_at, mem_place, at_event}
use Rattle.snap_board.proofs.Placed.{Spans, spans, update_at}
use Rattle.snap_board.proofs.DeskEvents.{entry, write_event}
use Rattle.snap_board.proofs.Merging.{InOrder, the_view, the_update, history, completed}
use Rattle.snap_board.proofs.ByKey as keys
use Rattle.snap_core.proofs.Members.{In-map, In-from_map, Pairs-map, Pairs-from_map}
use Rattle.snap_board.proofs.ScanOrder.{Key, Less, scan_key, store_key, scan_at, store_at, scans_of, stores_of, scan_there, store_there, scan_scan, store_scan, scan_store, store_store, by_number, shown_before, before_shown, mark_whole, given}

-- each view of the accounts is a scan
abbrev pub AllScans : List Account → Type 0
AllScans hand = (a : Account) → Mem a hand → (v : ViewRecord) → Mem v (view_records_in a.calls) → (m : Mark) × Mem m (marks_in a.calls) × (m.begun ≡ v.begun) × (m.ended ≡ v.ended) × (m.before ≡ v.shown)

completed_some : (c : Call) → is_completed c ≡ true → (place : ℕ) × (c.ended ≡ Some place)
unfolding is_completed
completed_some c t = go c.ended refl t
  where
    go : (o : Option ℕ) → c.ended ≡ o → Rattle.std.proofs.Common.is_some o ≡ true → (place : ℕ) × (c.ended ≡ Some place)
    go None e t = absurd (false≢true t)
    go (Some p) e t = (p, e)

module _ (n : ℕ) (hand : List Account) (es : List Stamp) (h : Settled n hand) (g : ScansSettled hand) (plain : AllScans hand) (m : InOrder hand es) where
  abbrev calls : List Call
  calls = calls_of (events_in es)

  is_history : IsHistory (events_in es)
  is_history = history n hand es h m

  are : AreCalls calls
  are = are_calls (events_in es) is_history

  -- a call that is a store, and one that is a scan
  record IsStore (c : Call) : Type 0 where
    account : Account
    there : Mem account hand
    store : Write
    store_in : Mem store (writes_in account.calls)
    op : c.operation ≡ Updates (entry account.desk store.number store.value)
    place : ℕ
    ended : c.ended ≡ Some place
    begin : Event
    end : Event
    at_begin : get_elem? es c.begun ≡ some (store.begun, begin)
    at_end : get_elem? es place ≡ some (store.ended, end)

  record IsScan (c : Call) : Type 0 where
    account : Account
    there : Mem account hand
    scan : Mark
    scan_in : Mem scan (marks_in account.calls)
    op : c.operation ≡ Views (Some (listed 0 scan.before))
    place : ℕ
    ended : c.ended ≡ Some place
    begin : Event
    end : Event
    at_begin : get_elem? es c.begun ≡ some (scan.begun, begin)
    at_end : get_elem? es place ≡ some (scan.ended, end)

  known : (c : Call) → Contains calls c → IsStore c ⊎ IsScan c
  known c i =
      let p = completed_some c (completed n hand es h m c i) in
      let s = spans (events_in es) is_history c p.0 i p.1 in
      go p.0 p.1 s s.begin s.end refl refl s.pair
    where
      go : (place : ℕ) → c.ended ≡ Some place → (s : Spans (events_in es) c place) → (b x : Event) → s.begin ≡ b → s.end ≡ x → Ends b x → IsStore c ⊎ IsScan c
      go place e s (BeginUpdate p d) (EndUpdate q) i j t =
          let same : q ≡ p = sym (ap process_of j) ∙ s.process ∙ ap process_of i in
          let u = the_update n hand es h m c.begun place p d (subst (At (events_in es) c.begun) i s.begins) (subst (At (events_in es) place) (j ∙ ap EndUpdate same) s.ends) (subst (λ z. IsSpan (events_in es) z c.begun place) (ap process_of i) s.span) in
          inl (record {
            account = u.account;
            there = u.there;
            store = write d.number d.value u.begun u.ended true;
            store_in = u.write_there;
            op = s.operation ∙ ap (λ z. operation_at z (s.end ∷ [])) i ∙ ap (λ k. Updates (entry k d.number d.value)) (sym u.component);
            place = place;
            ended = e;
            begin = BeginUpdate p d;
            end = EndUpdate p;
            at_begin = u.at_begin;
            at_end = u.at_end;
          })
      go place e s (BeginView p) (EndView q xs) i j t =
          let same : q ≡ p = sym (ap process_of j) ∙ s.process ∙ ap process_of i in
          let end_is : s.end ≡ EndView p xs = j ∙ ap (λ z. EndView z xs) same in
          let v = the_view n hand es h m c.begun place p xs (subst (At (events_in es) c.begun) i s.begins) (subst (At (events_in es) place) end_is s.ends) (subst (λ z. IsSpan (events_in es) z c.begun place) (ap process_of i) s.span) in
          let k = plain v.account v.there (view_record v.begun v.ended true v.read) v.look_there in
          inr (record {
            account = v.account;
            there = v.there;
            scan = k.0;
            scan_in = k.1;
            op =
                s.operation ∙ ap (λ z. operation_at z (s.end ∷ [])) i ∙ ap (λ z. operation_at (BeginView p) (z ∷ [])) end_is ∙ ap (λ b. Views (cond b (Some xs) None)) (eq-eqb p p refl)
                ∙ ap (λ (l : List Entry). Views (Some l)) (sym v.lists) ∙ ap (λ l. Views (Some (listed 0 l))) (sym k.4);
            place = place;
            ended = e;
            begin = BeginView p;
            end = EndView p xs;
            at_begin = v.at_begin ∙ (λ z. some (sym k.2 z, BeginView p));
            at_end = v.at_end ∙ (λ z. some (sym k.3 z, EndView p xs));
          })
      go place e s (BeginUpdate p d) (BeginUpdate q f) i j t = absurd t
      go place e s (BeginUpdate p d) (BeginView q) i j t = absurd t
      go place e s (BeginUpdate p d) (EndView q xs) i j t = absurd t
      go place e s (BeginView p) (BeginUpdate q d) i j t = absurd t
      go place e s (BeginView p) (BeginView q) i j t = absurd t
      go place e s (BeginView p) (EndUpdate q) i j t = absurd t
      go place e s (EndUpdate p) x i j t = absurd t
      go place e s (EndView p xs) x i j t = absurd t

  -- the place of a call in the order
  abbrev key_of : (c : Call) → IsStore c ⊎ IsScan c → Key
  key_of c (inl s) = store_key (clock hand) (scans_of hand) (store_at s.account.desk s.store)
  key_of c (inr s) = scan_key (scan_at s.scan)

  record Item : Type 0 where
    call : Call
    there : In call calls
    kind : IsStore call ⊎ IsScan call

  abbrev key : Item → Key
  key x = key_of x.call x.kind

  -- precedence
  stamps_of_places : (i j s t : ℕ) (e f : Event) → get_elem? es i ≡ some (s, e) → get_elem? es j ≡ some (t, f) → i < j → s < t
  stamps_of_places i j s t e f at_i at_j lt = stamped_at es m.stamped i j (s, e) (t, f) at_i at_j lt

  same_place : (c : Call) (p q : ℕ) → c.ended ≡ Some p → c.ended ≡ Some q → p ≡ q
  same_place c p q a b = let e : Some p ≡ Some q = sym a ∙ b in cc

  before_less : (x y : Item) → precedes x.call y.call ≡ true → Less (key x) (key y)
  before_less x y t = go x.kind y.kind (precedes_to x.call y.call t)
    where
      go : (k : IsStore x.call ⊎ IsScan x.call) (l : IsStore y.call ⊎ IsScan y.call) → Precedes x.call y.call → Less (key_of x.call k) (key_of y.call l)
      go (inl a) (inl b) p = store_store (clock hand) (scans_of hand) (stores_of hand) (given n hand h g) (store_at a.account.desk a.store) (store_at b.account.desk b.store) (store_there hand a.account a.store a.there a.store_in) (store_there hand b.account b.store b.there b.store_in)
          (stamps_of_places a.place y.call.begun a.store.ended b.store.begun a.end b.begin a.at_end b.at_begin (let e = same_place x.call p.place a.place p.ends a.ended in let l = p.before in omega arith))
      go (inl a) (inr b) p = store_scan (clock hand) (scans_of hand) (stores_of hand) (given n hand h g) (store_at a.account.desk a.store) (scan_at b.scan) (store_there hand a.account a.store a.there a.store_in) (scan_there hand b.account b.scan b.there b.scan_in)
          (stamps_of_places a.place y.call.begun a.store.ended b.scan.begun a.end b.begin a.at_end b.at_begin (let e = same_place x.call p.place a.place p.ends a.ended in let l = p.before in omega arith))
      go (inr a) (inl b) p = scan_store (clock hand) (scans_of hand) (stores_of hand) (given n hand h g) (scan_at a.scan) (store_at b.account.desk b.store) (scan_there hand a.account a.scan a.there a.scan_in) (store_there hand b.account b.store b.there b.store_in)
          (stamps_of_places a.place y.call.begun a.scan.ended b.store.begun a.end b.begin a.at_end b.at_begin (let e = same_place x.call p.place a.place p.ends a.ended in let l = p.before in omega arith))
      go (inr a) (inr b) p = scan_scan (clock hand) (scans_of hand) (stores_of hand) (given n hand h g) (scan_at a.scan) (scan_at b.scan) (scan_there hand a.account a.scan a.there a.scan_in) (scan_there hand b.account b.scan b.there b.scan_in)
          (stamps_of_places a.place y.call.begun a.scan.ended b.scan.begun a.end b.begin a.at_end b.at_begin (let e = same_place x.call p.place a.place p.ends a.ended in let l = p.before in omega arith))

  -- the calls in order of their keys
  itemed : (cs : List Call) → ((c : Call) → In c cs → In c calls) → List Item
  itemed [] sub = []
  itemed (c ∷ cs) sub = record { call = c; there = sub c (inl refl); kind = known c (Contains-from_In calls c (sub c (inl refl))) } ∷ itemed cs (λ d i. sub d (inr i))

  itemed_calls : (cs : List Call) (sub : (c : Call) → In c cs → In c calls) → map (λ (x : Item). x.call) (itemed cs sub) ≡ cs
  unfolding itemed
  itemed_calls [] sub = refl
  itemed_calls (c ∷ cs) sub = ap (λ l. c ∷ l) (itemed_calls cs (λ d i. sub d (inr i)))

  abbrev sort : List Item → List Item
  sort xs = keys.sort Item key xs

  abbrev NotAfter : Item → Item → Type 0
  NotAfter x y = keys.NotAfter Item key x y

  items : List Item
  items = itemed calls (λ c i. i)

  items_calls : map (λ (x : Item). x.call) items ≡ calls
  unfolding items
  items_calls = itemed_calls calls (λ c i. i)

  order : List Call
  order = map (λ (x : Item). x.call) (sort items)

  item_of : (c : Call) → In c calls → (x : Item) × In x (sort items) × (x.call ≡ c)
  item_of c i = let r = In-from_map (λ (z : Item). z.call) items c (subst (λ (l : List Call). In c l) (sym items_calls) i) in (r.it, keys.in_sort Item key items r.it r.there, r.is)

  -- where a list of calls is cut
  record Cut (xs : List Item) (before after : List Call) (r : Call) : Type 0 where
    front : List Item
    item : Item
    back : List Item
    split : xs ≡ front ++ item ∷ back
    front_is : map (λ (x : Item). x.call) front ≡ before
    item_is : item.call ≡ r

  cut : (xs : List Item) (before after : List Call) (r : Call) → map (λ (x : Item). x.call) xs ≡ before ++ r ∷ after → Cut xs before after r
  cut [] [] after r e = absurd (cc)
  cut [] (c ∷ before) after r e = absurd (cc)
  cut (x ∷ xs) [] after r e = record { front = []; item = x; back = xs; split = refl; front_is = refl; item_is = (let q : x.call ≡ r = cc in q) }
  cut (x ∷ xs) (c ∷ before) after r e =
      let first : x.call ≡ c = cc in
      let rest : map (λ (z : Item). z.call) xs ≡ before ++ r ∷ after = cc in
      let k = cut xs before after r rest in
      record { front = x ∷ k.front; item = k.item; back = k.back; split = ap (λ l. x ∷ l) k.split; front_is = (λ i. first i ∷ k.front_is i); item_is = k.item_is }

  abbrev entry_by : (c : Call) → IsStore c → Entry
  entry_by c u = entry u.account.desk u.store.number u.store.value

  -- a list that leaves the last entry of component k as it was
  stays : (k : ℕ) (acc : Option Entry) (xs : List Item) → ((x : Item) → In x xs → (u : IsStore x.call) → x.kind ≡ inl u → u.account.desk ≡ k → Some (entry_by x.call u) ≡ acc) → last_written k acc (map (λ (z : Item). z.call) xs) ≡ acc
  stays k acc [] same = refl
  stays k acc (x ∷ xs) same =
      ap (λ a. last_written k a (map (λ (z : Item). z.call) xs)) (one x.kind refl) ∙ stays k acc xs (λ y i u e d. same y (inr i) u e d)
    where
      one : (q : IsStore x.call ⊎ IsScan x.call) → x.kind ≡ q → written_by x.call.operation k acc ≡ acc
      one (inr s) e = ap (λ (o : Operation). written_by o k acc) s.op
      one (inl u) e = ap (λ (o : Operation). written_by o k acc) u.op ∙ at (u.account.desk == k) refl
        where
          at : (b : Bool) → (u.account.desk == k) ≡ b → (if b then Some (entry_by x.call u) else acc) ≡ acc
          at true t = same x (inl refl) u e (eqb-true u.account.desk k t)
          at false t = refl

  store_less : (x y : Item) (u : IsStore x.call) (v : IsStore y.call) → x.kind ≡ inl u → y.kind ≡ inl v → u.account.desk ≡ v.account.desk → u.store.number < v.store.number → Less (key x) (key y)
  store_less x y u v e f same lt = subst (λ (z : (IsStore x.call ⊎ IsScan x.call) × (IsStore y.call ⊎ IsScan y.call)). Less (key_of x.call z.0) (key_of y.call z.1)) (λ i. (sym e i, sym f i))
      (by_number (clock hand) (scans_of hand) (stores_of hand) (given n hand h g) (store_at u.account.desk u.store) (store_at v.account.desk v.store) (store_there hand u.account u.store u.there u.store_in) (store_there hand v.account v.store v.there v.store_in) same lt)

  -- two stores of one component and number are one
  one_entry : (c d : Call) (u : IsStore c) (v : IsStore d) → u.account.desk ≡ v.account.desk → u.store.number ≡ v.store.number → entry_by c u ≡ entry_by d v
  one_entry c d u v same num =
      let is = hand_one n hand h.desks u.account v.account u.there v.there same in
      let value = numbered_one 1 (writes_in v.account.calls) u.store v.store (h.numbered v.account v.there) (subst (λ (z : Account). Mem u.store (writes_in z.calls)) is u.store_in) v.store_in num in
      λ i. entry (same i) (num i) (value i)

  -- a list with a store of the largest number of its component
  last_is : (k : ℕ) (acc : Option Entry) (xs : List Item) (j : Item) (u : IsStore j.call) → j.kind ≡ inl u → u.account.desk ≡ k → In j xs → Pairs NotAfter xs
      → ((x : Item) → In x xs → (v : IsStore x.call) → x.kind ≡ inl v → v.account.desk ≡ k → v.store.number ≤ u.store.number) → last_written k acc (map (λ (z : Item). z.call) xs) ≡ Some (entry_by j.call u)
  last_is k acc [] j u e d i p most = absurd i
  last_is k acc (x ∷ xs) j u e d i p most = ⊎_elim
      (λ (is : x ≡ j). ap (λ a. last_written k a (map (λ (z : Item). z.call) xs)) (ap (λ (z : Item). written_by z.call.operation k acc) is ∙ first) ∙ stays k (Some (entry_by j.call u)) xs (λ y iy v f dv.
      let le = most y (inr iy) v f dv in
      let not_less : v.store.number < u.store.number → ⊥ = λ lt. p.0 y iy (subst (λ (z : Item). Less (key y) (key z)) (sym is) (store_less y j v u f e (dv ∙ sym d) lt)) in
      ap Some (one_entry y.call j.call v u (dv ∙ sym d) (equal v.store.number u.store.number le not_less))))
      (λ q. last_is k (written_by x.call.operation k acc) xs j u e d q p.1 (λ y iy v f dv. most y (inr iy) v f dv))
      i
    where
      equal : (a c : ℕ) → a ≤ c → (a < c → ⊥) → a ≡ c
      equal a c le not_less = omega arith

      first : written_by j.call.operation k acc ≡ Some (entry_by j.call u)
      first = ap (λ (o : Operation). written_by o k acc) u.op ∙ ap (λ b. if b then Some (entry_by j.call u) else acc) (eq-eqb u.account.desk k d)

  -- against a scan: what stands before it is shown, and what is shown stands before it
  shown_low_at : (x y : Item) (u : IsStore x.call) (s : IsScan y.call) → x.kind ≡ inl u → y.kind ≡ inr s → NotAfter x y → u.store.number ≤ (shown_at s.scan.before u.account.desk).0
  shown_low_at x y u s e f not_after =
      before_shown (clock hand) (scans_of hand) (stores_of hand) (given n hand h g) (store_at u.account.desk u.store) (scan_at s.scan) (store_there hand u.account u.store u.there u.store_in) (scan_there hand s.account s.scan s.there s.scan_in)
      (λ l. not_after (subst (λ (z : (IsStore x.call ⊎ IsScan x.call) × (IsStore y.call ⊎ IsScan y.call)). Less (key_of y.call z.1) (key_of x.call z.0)) (λ i. (sym e i, sym f i)) l))

  shown_first : (x y : Item) (u : IsStore x.call) (s : IsScan y.call) → x.kind ≡ inl u → y.kind ≡ inr s → u.store.number ≤ (shown_at s.scan.before u.account.desk).0 → Less (key x) (key y)
  shown_first x y u s e f le = subst (λ (z : (IsStore x.call ⊎ IsScan x.call) × (IsStore y.call ⊎ IsScan y.call)). Less (key_of x.call z.0) (key_of y.call z.1)) (λ i. (sym e i, sym f i))
      (shown_before (clock hand) (scans_of hand) (stores_of hand) (given n hand h g) (store_at u.account.desk u.store) (scan_at s.scan) (store_there hand u.account u.store u.there u.store_in) (scan_there hand s.account s.scan s.there s.scan_in) le)

  -- the store that a scan shows is one of the calls
  record Found (k : ℕ) (p : ℕ × ℕ) : Type 0 where
    item : Item
    there : In item (sort items)
    store : IsStore item.call
    kind : item.kind ≡ inl store
    is : entry_by item.call store ≡ entry k p.0 p.1

  find_store : (c : Account) → Mem c hand → (w : Write) → Mem w (writes_in c.calls) → Found c.desk (w.number, w.value)
  unfolding calls_of
  find_store c mc w mw =
      let ev : Event = BeginUpdate c.desk (entry c.desk w.number w.value) in
      let place = mem_place es (w.begun, ev) (m.all c mc (w.begun, ev) (write_event c.desk c.calls w mw)) in
      let u = update_at 0 0 (events_in es) place.0 c.desk (entry c.desk w.number w.value) (at_event es place.0 (w.begun, ev) place.1) in
      let i = item_of u.call u.there in
      go i.0 i.1 (ap (λ (z : Call). z.operation) i.2 ∙ u.writes) i.0.kind refl
    where
      go : (x : Item) → In x (sort items) → x.call.operation ≡ Updates (entry c.desk w.number w.value) → (q : IsStore x.call ⊎ IsScan x.call) → x.kind ≡ q → Found c.desk (w.number, w.value)
      go x ix op (inl s) e = record { item = x; there = ix; store = s; kind = e; is = (let same : Updates (entry_by x.call s) ≡ Updates (entry c.desk w.number w.value) = sym s.op ∙ op in cc) }
      go x ix op (inr s) e = absurd (let same : Views (Some (listed 0 s.scan.before)) ≡ Updates (entry c.desk w.number w.value) = sym s.op ∙ op in cc)

  entry_some : (k : ℕ) (p : ℕ × ℕ) → 0 < p.0 → entry_at k p ≡ Some (entry k p.0 p.1)
  entry_some k p pos = ap (λ b. cond b (Some (entry k p.0 p.1)) None) (Rattle.std.proofs.lemmas.Bool.lt-ltb 0 p.0 pos)

  entry_none : (k : ℕ) (p : ℕ × ℕ) → p.0 ≡ 0 → entry_at k p ≡ None
  entry_none k p none = ap (λ b. cond b (Some (entry k p.0 p.1)) None) (Rattle.std.proofs.lemmas.Bool.le-ltb 0 p.0 (omega arith))

  shows_last : (k : ℕ) (front back : List Item) (x : Item) (s : IsScan x.call) → x.kind ≡ inr s → sort items ≡ front ++ x ∷ back → entry_at k (shown_at s.scan.before k) ≡ last_written k None (map (λ (z : Item). z.call) front)
  shows_last k front back x s e split = at (ℕ_discrete (shown_at s.scan.before k).0 0)
    where
      p : ℕ × ℕ
      p = shown_at s.scan.before k

      pairs : Pairs NotAfter (front ++ x ∷ back)
      pairs = subst (Pairs NotAfter) split (keys.sorted Item key items)

      low : (y : Item) → In y front → (v : IsStore y.call) → y.kind ≡ inl v → v.account.desk ≡ k → v.store.number ≤ (shown_at s.scan.before k).0
      low y i v f d = subst (λ (z : ℕ). v.store.number ≤ (shown_at s.scan.before z).0) d (shown_low_at y x v s f e (Rattle.snap_core.proofs.Lists.Pairs-across NotAfter front (x ∷ back) pairs y x i (inl refl)))

      positive : (y : Item) (v : IsStore y.call) → 0 < v.store.number
      positive y v = numbered_positive 1 (writes_in v.account.calls) (omega arith) (h.numbered v.account v.there) v.store v.store_in

      found_in : Found k p → entry_at k p ≡ last_written k None (map (λ (z : Item). z.call) front)
      found_in q =
          let desk = ap (λ (z : Entry). z.component) q.is in
          let number = ap (λ (z : Entry). z.number) q.is in
          let less = shown_first q.item x q.store s q.kind e (subst (λ (z : ℕ). q.store.store.number ≤ (shown_at s.scan.before z).0) (sym desk) (omega arith)) in
          let pos = positive q.item q.store in
          let before : In q.item front = ⊎_elim
          (λ i. i)
          (λ i. ⊎_elim
          (λ (same : x ≡ q.item). absurd (clash x q.item s q.store e q.kind same))
          (λ r. absurd ((Rattle.snap_core.proofs.Lists.Pairs-right NotAfter front (x ∷ back) pairs).0 q.item r less))
          i)
          (Rattle.snap_core.proofs.Lists.In-append_cases q.item front (x ∷ back) (subst (λ (l : List Item). In q.item l) split q.there)) in
          entry_some k p (omega arith) ∙ ap Some (sym q.is)
          ∙ sym (last_is k None front q.item q.store q.kind desk before (Rattle.snap_core.proofs.Lists.Pairs-left NotAfter front (x ∷ back) pairs) (λ y i v f d. let l = low y i v f d in omega arith))
        where
          clash : (y z : Item) (a : IsScan y.call) (b : IsStore z.call) → y.kind ≡ inr a → z.kind ≡ inl b → y ≡ z → ⊥
          clash y z a b i j same = let op : Views (Some (listed 0 a.scan.before)) ≡ Updates (entry_by z.call b) = sym a.op ∙ ap (λ (w : Item). w.call.operation) same ∙ b.op in cc

      at : Dec ((shown_at s.scan.before k).0 ≡ 0) → entry_at k p ≡ last_written k None (map (λ (z : Item). z.call) front)
      at (yes none) = entry_none k p none ∙ sym (stays k None front (λ y i v f d. absurd (let l = low y i v f d in let pos = positive y v in omega arith)))
      at (no some_there) =
          let len = shown_low s.scan.before k (omega arith) in
          let whole = mark_whole n hand h g s.account s.there s.scan s.scan_in in
          let c = hand_there n hand h.desks k (omega arith) in
          let shows = h.regular s.account s.there (view_record s.scan.begun s.scan.ended true s.scan.before) (Rattle.snap_board.proofs.ScanOrder.mark_look s.account.calls s.scan s.scan_in) c.0 c.1 (shown_at s.scan.before k) (ap (λ z. get_elem? s.scan.before z) c.2 ∙ shown_some s.scan.before k len) in
          let w = shows.real (omega arith) in
          found_in (subst (λ (z : ℕ × (ℕ × ℕ)). Found z.0 z.1) (λ i. (c.2 i, (w.2 i, w.3 i))) (find_store c.0 c.1 w.0 w.1))

  latest_part : (before after : List Call) (r : Call) → order ≡ before ++ r ∷ after → is_view r ≡ true → (k : ℕ) → shown r k ≡ last_written k None before
  unfolding is_view shown order
  latest_part before after r e view k = let q = cut (sort items) before after r e in go q q.item.kind refl
    where
      go : (q : Cut (sort items) before after r) → (t : IsStore q.item.call ⊎ IsScan q.item.call) → q.item.kind ≡ t → entry_of k (entries_of r.operation) ≡ last_written k None before
      go q (inl u) f = absurd (let op : r.operation ≡ Updates (entry_by q.item.call u) = ap (λ (z : Call). z.operation) (sym q.item_is) ∙ u.op in false≢true (sym (ap is_answer op) ∙ view))
      go q (inr s) f =
          ap (λ (o : Operation). entry_of k (entries_of o)) (ap (λ (z : Call). z.operation) (sym q.item_is) ∙ s.op) ∙ listed_entry k s.scan.before
          ∙ shows_last k q.front q.back q.item s f q.split ∙ ap (last_written k None) q.front_is

  legal : IsLegalOrder calls order
  unfolding order
  legal = record {
    only = λ k d lt. (let i = In-from_map (λ (z : Item). z.call) (sort items) (get_or order k d) (In-get_or order k d lt) in subst (λ (c : Call). Contains calls c × ((is_completed c ≡ true) ⊎ (is_update c ≡ true))) i.is
        (Contains-from_In calls i.it.call i.it.there, inl (completed n hand es h m i.it.call (Contains-from_In calls i.it.call i.it.there))));
    distinct = AllPairs-from_Pairs (λ a b. a ≢ b) order (Pairs-map (λ a b. a ≢ b) (λ (z : Item). z.call) (sort items) (keys.pairs_sort Item key (λ x y. x.call ≢ y.call) (λ x y other same. other (sym same)) items (Pairs-from_map (λ a b. a ≢ b) (λ (z : Item). z.call) items (subst (Pairs (λ a b. a ≢ b)) (sym items_calls)
        (Pairs-weaker (λ a b. a.number < b.number) (λ a b. a ≢ b) calls (λ a b _ _ lt same. let e = ap (λ (z : Call). z.number) same in absurd (omega arith)) are.numbered)))));
    completed = λ c i _. (let x = item_of c (In-from_Contains calls c i) in Contains-from_In order c (subst (λ (z : Call). In z order) x.2 (In-map (λ (z : Item). z.call) (sort items) x.0 x.1)));
    precedence = AllPairs-from_Pairs (λ a b. precedes b a ≡ false) order (Pairs-map (λ a b. precedes b a ≡ false) (λ (z : Item). z.call) (sort items)
        (Pairs-weaker NotAfter (λ x y. precedes y.call x.call ≡ false) (sort items) (λ x y _ _ not_after. false_from_ne_true (precedes y.call x.call) (λ t. not_after (before_less y x t))) (keys.sorted Item key items)));
    latest = latest_part;
  }

  pub atomic : IsAtomic calls
  atomic = (order, legal)

-- a hand's stores and scans, collects left out
pub all_scans : (hand : List Account) → AllScans (map without_collects hand)
all_scans [] a ma v q = absurd ma
all_scans (x ∷ hand) a ma v q = ⊎_elim
    (λ e. subst (λ (z : Account). (m : Mark) × Mem m (marks_in z.calls) × (m.begun ≡ v.begun) × (m.ended ≡ v.ended) × (m.before ≡ v.shown)) e (look_mark x.calls v (subst (λ (z : Account). Mem v (view_records_in z.calls)) (sym e) q)))
    (λ r. all_scans hand a r v q)
    ma

pub close_atomic : (n : ℕ) (hand : List Account) → Settled n hand → ScansSettled hand → IsAtomic (calls_of (scan_history hand))
close_atomic n hand h g =
    let only = map without_collects hand in
    let s = settled_kept n hand h in
    atomic n only (in_order (stamped_events (all_records only))) s (scans_kept hand g) (all_scans hand) (in_order_of only (in_order (stamped_events (all_records only))) (merged n only s))
