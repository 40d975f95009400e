-- The events of one desk, with their stamps.
use Rattle.std.proofs.Common.{◌≡◌, ℕ, suc, ◌+◌, ◌<◌, ◌⊎◌, true, List, [], ◌∷◌, ◌++◌, sym, refl, ap, ◌∙◌, subst, inl, inr, ⊎_elim, arith, cond, eq-eqb}
use Rattle.snap_core.specs.declared.entry.Entry.{Entry}
use Rattle.snap_core.specs.declared.event.Event.{Event}
use Rattle.snap_core.specs.declared.event.Event.TheVariants.{BeginUpdate, BeginView, EndUpdate, EndView}
use Rattle.std.specs.List.{count_by}
use Rattle.snap_core.specs.Events.{process_of, IsBegin, begins_update_of}
use Rattle.snap_core.proofs.Lists.{count-cons}
use Rattle.snap_account.specs.declared.account.Answered.{Answered}
use Rattle.snap_account.specs.declared.account.Answer.{Answer}
use Rattle.snap_account.specs.declared.account.Answer.TheVariants.{Stored, Viewed, Scanned, Interfered}
use Rattle.snap_account.specs.Calls.{Mem, Write, write, view_record, op_writes, op_view_records, writes_in, view_records_in, stamps_in}
use Rattle.snap_account.specs.Rule.{Rising, Numbered}
use Rattle.snap_board.specs.Desks.{listed, op_records, records_at}
use Rattle.snap_board.specs.History.{Stamped, events_in, stamped_events}
use Rattle.snap_account.proofs.Lists.{mem_split, mem_right}
use Rattle.snap_board.proofs.Stamps.{Stamp}

abbrev pub entry : ℕ → ℕ → ℕ → Entry
entry k n v = record { component = k; number = n; value = v }

abbrev pub op_events : ℕ → ℕ → ℕ → Answer → List Stamp
op_events d b e (Stored n v) = (b, BeginUpdate d (entry d n v)) ∷ (e, EndUpdate d) ∷ []
op_events d b e (Viewed xs) = (b, BeginView d) ∷ (e, EndView d (listed 0 xs)) ∷ []
op_events d b e (Scanned t xs) = (b, BeginView d) ∷ (e, EndView d (listed 0 xs)) ∷ []
op_events d b e (Interfered n xs ys) = []

-- the events of desk d's records, with their stamps
abbrev pub desk_events : ℕ → List Answered → List Stamp
desk_events d [] = []
desk_events d (r ∷ rs) = op_events d r.begun r.ended r.op ++ desk_events d rs

pub events_at : (d : ℕ) (rs : List Answered) → stamped_events (records_at d rs) ≡ desk_events d rs
events_at d [] = refl
events_at d (r ∷ rs) = one r.op (events_at d rs)
  where
    one : (o : Answer) → stamped_events (records_at d rs) ≡ desk_events d rs → stamped_events (op_records d r.begun r.ended o ++ records_at d rs) ≡ op_events d r.begun r.ended o ++ desk_events d rs
    one (Stored n v) rest = ap (λ l. (r.begun, BeginUpdate d (entry d n v)) ∷ (r.ended, EndUpdate d) ∷ l) rest
    one (Viewed xs) rest = ap (λ l. (r.begun, BeginView d) ∷ (r.ended, EndView d (listed 0 xs)) ∷ l) rest
    one (Scanned t xs) rest = ap (λ l. (r.begun, BeginView d) ∷ (r.ended, EndView d (listed 0 xs)) ∷ l) rest
    one (Interfered n xs ys) rest = rest

pub rising_head : (x : ℕ) (xs : List ℕ) → Rising (x ∷ xs) → (y : ℕ) → Mem y xs → x < y
rising_head x [] r y m = absurd m
rising_head x (z ∷ xs) r y m = ⊎_elim (λ e. let l = r.0 in omega arith) (λ q. let a = rising_head z xs r.1 y q in let l = r.0 in omega arith) m

pub rising_tail : (x : ℕ) (xs : List ℕ) → Rising (x ∷ xs) → Rising xs
rising_tail x [] r = tt
rising_tail x (z ∷ xs) r = r.1

two_stamps : (d b e : ℕ) (f g : Event) → process_of f ≡ d → process_of g ≡ d → (x : Stamp) → Mem x ((b, f) ∷ (e, g) ∷ []) → ((b ≡ x.0) ⊎ (e ≡ x.0)) × (process_of x.1 ≡ d)
two_stamps d b e f g of_f of_g x (inl q) = (inl (ap (λ (z : Stamp). z.0) q), ap (λ (z : Stamp). process_of z.1) (sym q) ∙ of_f)
two_stamps d b e f g of_f of_g x (inr (inl q)) = (inr (ap (λ (z : Stamp). z.0) q), ap (λ (z : Stamp). process_of z.1) (sym q) ∙ of_g)
two_stamps d b e f g of_f of_g x (inr (inr q)) = absurd q

op_stamp : (d b e : ℕ) (o : Answer) (x : Stamp) → Mem x (op_events d b e o) → ((b ≡ x.0) ⊎ (e ≡ x.0)) × (process_of x.1 ≡ d)
op_stamp d b e (Stored n v) x m = two_stamps d b e (BeginUpdate d (entry d n v)) (EndUpdate d) refl refl x m
op_stamp d b e (Viewed xs) x m = two_stamps d b e (BeginView d) (EndView d (listed 0 xs)) refl refl x m
op_stamp d b e (Scanned t xs) x m = two_stamps d b e (BeginView d) (EndView d (listed 0 xs)) refl refl x m
op_stamp d b e (Interfered n xs ys) x m = absurd m

pub event_stamp : (d : ℕ) (rs : List Answered) (x : Stamp) → Mem x (desk_events d rs) → Mem x.0 (stamps_in rs) × (process_of x.1 ≡ d)
event_stamp d [] x m = absurd m
event_stamp d (r ∷ rs) x m = ⊎_elim
    (λ a. let s = op_stamp d r.begun r.ended r.op x a in (⊎_elim (λ q. inl q) (λ q. inr (inl q)) s.0, s.1))
    (λ a. let s = event_stamp d rs x a in (inr (inr s.0), s.1))
    (mem_split (op_events d r.begun r.ended r.op) (desk_events d rs) x m)

pub desk_stamped : (d : ℕ) (rs : List Answered) → Rising (stamps_in rs) → Stamped (desk_events d rs)
desk_stamped d [] r = tt
desk_stamped d (q ∷ rs) r =
    let tail = rising_tail q.begun (q.ended ∷ stamps_in rs) r in
    let first = rising_head q.begun (q.ended ∷ stamps_in rs) r q.ended (inl refl) in
    let later : (x : Stamp) → Mem x (desk_events d rs) → q.ended < x.0 = λ x m. rising_head q.ended (stamps_in rs) tail x.0 (event_stamp d rs x m).0 in
    front q.op first later (desk_stamped d rs (rising_tail q.ended (stamps_in rs) tail))
  where
    two : (f g : Event) → q.begun < q.ended → ((x : Stamp) → Mem x (desk_events d rs) → q.ended < x.0) → Stamped (desk_events d rs) → Stamped ((q.begun, f) ∷ (q.ended, g) ∷ desk_events d rs)
    two f g first later rest = ((λ y m. ⊎_elim (λ e. let s = ap (λ (z : Stamp). z.0) e in omega arith) (λ z. let l = later y z in omega arith) m), (later, rest))

    front : (o : Answer) → q.begun < q.ended → ((x : Stamp) → Mem x (desk_events d rs) → q.ended < x.0) → Stamped (desk_events d rs) → Stamped (op_events d q.begun q.ended o ++ desk_events d rs)
    front (Stored n v) first later rest = two (BeginUpdate d (entry d n v)) (EndUpdate d) first later rest
    front (Viewed xs) first later rest = two (BeginView d) (EndView d (listed 0 xs)) first later rest
    front (Scanned t xs) first later rest = two (BeginView d) (EndView d (listed 0 xs)) first later rest
    front (Interfered n xs ys) first later rest = rest

-- no stamp of these records stands between b and t
abbrev pub Quiet : ℕ → ℕ → List Answered → Type 0
Quiet b t rs = (x : ℕ) → Mem x (stamps_in rs) → b < x → x < t → ⊥

quiet_first : (q : Answered) (rs : List Answered) → Rising (stamps_in (q ∷ rs)) → Quiet q.begun q.ended (q ∷ rs)
quiet_first q rs r x m lo hi = ⊎_elim (λ e. omega arith)
    (λ m'. ⊎_elim (λ e. omega arith) (λ m''. let l = rising_head q.ended (stamps_in rs) (rising_tail q.begun (q.ended ∷ stamps_in rs) r) x m'' in omega arith) m') m

quiet_later : (q : Answered) (rs : List Answered) (b t : ℕ) → Rising (stamps_in (q ∷ rs)) → Mem b (stamps_in rs) → Quiet b t rs → Quiet b t (q ∷ rs)
quiet_later q rs b t r mb quiet x m lo hi =
    let first = rising_head q.begun (q.ended ∷ stamps_in rs) r b (inr mb) in
    let second = rising_head q.ended (stamps_in rs) (rising_tail q.begun (q.ended ∷ stamps_in rs) r) b mb in
    ⊎_elim (λ e. omega arith) (λ m'. ⊎_elim (λ e. omega arith) (λ m''. quiet x m'' lo hi) m') m

abbrev pub entries_in_event : Event → List Entry
entries_in_event (BeginUpdate p e) = []
entries_in_event (BeginView p) = []
entries_in_event (EndUpdate p) = []
entries_in_event (EndView p es) = es

abbrev pub entry_in_event : Event → Entry
entry_in_event (BeginUpdate p e) = e
entry_in_event (BeginView p) = entry 0 0 0
entry_in_event (EndUpdate p) = entry 0 0 0
entry_in_event (EndView p es) = entry 0 0 0

abbrev kind_of : Event → ℕ
kind_of (BeginUpdate p e) = 0
kind_of (BeginView p) = 1
kind_of (EndUpdate p) = 2
kind_of (EndView p es) = 3

kind_same : (x y : Stamp) → x ≡ y → kind_of x.1 ≡ kind_of y.1
kind_same x y e = ap (λ (z : Stamp). kind_of z.1) e

-- the call, answered so
abbrev answered_as : Answered → Answer → Answered
answered_as q o = record { begun = q.begun; middles = q.middles; ended = q.ended; op = o }

-- the view that ends at an event of desk d
pub record ViewEnded (d t : ℕ) (es : List Entry) (rs : List Answered) : Type 0 where
  pub begun : ℕ
  pub read : List (ℕ × ℕ)
  pub there : Mem (view_record begun t true read) (view_records_in rs)
  pub lists : listed 0 read ≡ es
  pub begins : Mem (begun, BeginView d) (desk_events d rs)
  pub order : begun < t
  pub quiet : Quiet begun t rs

pub view_of : (d : ℕ) (rs : List Answered) → Rising (stamps_in rs) → (t p : ℕ) (es : List Entry) → Mem (t, EndView p es) (desk_events d rs) → ViewEnded d t es rs
view_of d [] r t p es m = absurd m
view_of d (q ∷ rs) r t p es m = ⊎_elim
    (λ a. mine q.op a)
    (λ a. let tail = rising_tail q.ended (stamps_in rs) (rising_tail q.begun (q.ended ∷ stamps_in rs) r) in older (view_of d rs tail t p es a))
    (mem_split (op_events d q.begun q.ended q.op) (desk_events d rs) (t, EndView p es) m)
  where
    older : ViewEnded d t es rs → ViewEnded d t es (q ∷ rs)
    older o = record {
      begun = o.begun;
      read = o.read;
      there = mem_right (op_view_records q.begun q.ended q.op) (view_records_in rs) (view_record o.begun t true o.read) o.there;
      lists = o.lists;
      begins = mem_right (op_events d q.begun q.ended q.op) (desk_events d rs) (o.begun, BeginView d) o.begins;
      order = o.order;
      quiet = quiet_later q rs o.begun t r (event_stamp d rs (o.begun, BeginView d) o.begins).0 o.quiet;
    }

    -- the view is this call, which reads
    reads : (o : Answer) (ys : List (ℕ × ℕ)) → Mem (view_record q.begun t true ys) (view_records_in (answered_as q o ∷ rs)) → Mem (q.begun, BeginView d) (desk_events d (answered_as q o ∷ rs))
        → ◌≡◌ {A = Stamp} (q.ended, EndView d (listed 0 ys)) (t, EndView p es) → ViewEnded d t es (answered_as q o ∷ rs)
    reads o ys there begins e =
        record {
          begun = q.begun;
          read = ys;
          there = there;
          lists = ap (λ (y : Stamp). entries_in_event y.1) e;
          begins = begins;
          order = (let l = rising_head q.begun (q.ended ∷ stamps_in rs) r q.ended (inl refl) in let at = ap (λ (y : Stamp). y.0) e in omega arith);
          quiet = subst (λ (u : ℕ). Quiet q.begun u (answered_as q o ∷ rs)) (ap (λ (y : Stamp). y.0) e) (quiet_first (answered_as q o) rs r);
        }

    mine : (o : Answer) → Mem (t, EndView p es) (op_events d q.begun q.ended o) → ViewEnded d t es (answered_as q o ∷ rs)
    mine (Stored n v) (inl e) = let k : ◌≡◌ {A = ℕ} 0 3 = kind_same (q.begun, BeginUpdate d (entry d n v)) (t, EndView p es) e in absurd (omega arith)
    mine (Stored n v) (inr (inl e)) = let k : ◌≡◌ {A = ℕ} 2 3 = kind_same (q.ended, EndUpdate d) (t, EndView p es) e in absurd (omega arith)
    mine (Stored n v) (inr (inr z)) = absurd z
    mine (Viewed ys) (inl e) = let k : ◌≡◌ {A = ℕ} 1 3 = kind_same (q.begun, BeginView d) (t, EndView p es) e in absurd (omega arith)
    mine (Viewed ys) (inr (inl e)) = reads (Viewed ys) ys (inl (λ i. view_record q.begun ((e i).0) true ys)) (inl refl) e
    mine (Viewed ys) (inr (inr z)) = absurd z
    mine (Scanned mid ys) (inl e) = let k : ◌≡◌ {A = ℕ} 1 3 = kind_same (q.begun, BeginView d) (t, EndView p es) e in absurd (omega arith)
    mine (Scanned mid ys) (inr (inl e)) = reads (Scanned mid ys) ys (inl (λ i. view_record q.begun ((e i).0) true ys)) (inl refl) e
    mine (Scanned mid ys) (inr (inr z)) = absurd z
    mine (Interfered n ys zs) a = absurd a

-- the store that ends at an event of desk d
pub record StoreEnded (d t : ℕ) (rs : List Answered) : Type 0 where
  pub begun : ℕ
  pub number : ℕ
  pub value : ℕ
  pub there : Mem (write number value begun t true) (writes_in rs)
  pub begins : Mem (begun, BeginUpdate d (entry d number value)) (desk_events d rs)
  pub order : begun < t
  pub quiet : Quiet begun t rs

pub update_of : (d : ℕ) (rs : List Answered) → Rising (stamps_in rs) → (t p : ℕ) → Mem (t, EndUpdate p) (desk_events d rs) → StoreEnded d t rs
update_of d [] r t p m = absurd m
update_of d (q ∷ rs) r t p m = ⊎_elim
    (λ a. mine q.op a)
    (λ a. let tail = rising_tail q.ended (stamps_in rs) (rising_tail q.begun (q.ended ∷ stamps_in rs) r) in older (update_of d rs tail t p a))
    (mem_split (op_events d q.begun q.ended q.op) (desk_events d rs) (t, EndUpdate p) m)
  where
    older : StoreEnded d t rs → StoreEnded d t (q ∷ rs)
    older o = record {
      begun = o.begun;
      number = o.number;
      value = o.value;
      there = mem_right (op_writes q.begun q.ended q.op) (writes_in rs) (write o.number o.value o.begun t true) o.there;
      begins = mem_right (op_events d q.begun q.ended q.op) (desk_events d rs) (o.begun, BeginUpdate d (entry d o.number o.value)) o.begins;
      order = o.order;
      quiet = quiet_later q rs o.begun t r (event_stamp d rs (o.begun, BeginUpdate d (entry d o.number o.value)) o.begins).0 o.quiet;
    }

    mine : (o : Answer) → Mem (t, EndUpdate p) (op_events d q.begun q.ended o) → StoreEnded d t (answered_as q o ∷ rs)
    mine (Viewed ys) (inl e) = let k : ◌≡◌ {A = ℕ} 1 2 = kind_same (q.begun, BeginView d) (t, EndUpdate p) e in absurd (omega arith)
    mine (Viewed ys) (inr (inl e)) = let k : ◌≡◌ {A = ℕ} 3 2 = kind_same (q.ended, EndView d (listed 0 ys)) (t, EndUpdate p) e in absurd (omega arith)
    mine (Viewed ys) (inr (inr z)) = absurd z
    mine (Scanned mid ys) (inl e) = let k : ◌≡◌ {A = ℕ} 1 2 = kind_same (q.begun, BeginView d) (t, EndUpdate p) e in absurd (omega arith)
    mine (Scanned mid ys) (inr (inl e)) = let k : ◌≡◌ {A = ℕ} 3 2 = kind_same (q.ended, EndView d (listed 0 ys)) (t, EndUpdate p) e in absurd (omega arith)
    mine (Scanned mid ys) (inr (inr z)) = absurd z
    mine (Interfered n ys zs) a = absurd a
    mine (Stored n v) (inl e) = let k : ◌≡◌ {A = ℕ} 0 2 = kind_same (q.begun, BeginUpdate d (entry d n v)) (t, EndUpdate p) e in absurd (omega arith)
    mine (Stored n v) (inr (inl e)) =
        let at : q.ended ≡ t = ap (λ (y : Stamp). y.0) e in
        record {
          begun = q.begun;
          number = n;
          value = v;
          there = inl (λ i. write n v q.begun (at i) true);
          begins = inl refl;
          order = (let l = rising_head q.begun (q.ended ∷ stamps_in rs) r q.ended (inl refl) in omega arith);
          quiet = subst (λ (u : ℕ). Quiet q.begun u (answered_as q (Stored n v) ∷ rs)) at (quiet_first (answered_as q (Stored n v)) rs r);
        }
    mine (Stored n v) (inr (inr z)) = absurd z

pub write_event : (d : ℕ) (rs : List Answered) (w : Write) → Mem w (writes_in rs) → Mem (w.begun, BeginUpdate d (entry d w.number w.value)) (desk_events d rs)
write_event d [] w m = absurd m
write_event d (q ∷ rs) w m = ⊎_elim (λ a. mine q.op a) (λ a. mem_right (op_events d q.begun q.ended q.op) (desk_events d rs) (w.begun, BeginUpdate d (entry d w.number w.value)) (write_event d rs w a))
    (mem_split (op_writes q.begun q.ended q.op) (writes_in rs) w m)
  where
    mine : (o : Answer) → Mem w (op_writes q.begun q.ended o) → Mem (w.begun, BeginUpdate d (entry d w.number w.value)) (op_events d q.begun q.ended o ++ desk_events d rs)
    mine (Stored n v) (inl e) = inl (λ i. ((e i).begun, BeginUpdate d (entry d (e i).number (e i).value)))
    mine (Stored n v) (inr z) = absurd z
    mine (Viewed ys) a = absurd a
    mine (Scanned mid ys) a = absurd a
    mine (Interfered n ys zs) a = absurd a

-- an update of desk d's is of component d
pub own_update : (d : ℕ) (rs : List Answered) (s p : ℕ) (e : Entry) → Mem (s, BeginUpdate p e) (desk_events d rs) → p ≡ e.component
own_update d [] s p e m = absurd m
own_update d (q ∷ rs) s p e m = ⊎_elim (λ a. mine q.op a) (λ a. own_update d rs s p e a) (mem_split (op_events d q.begun q.ended q.op) (desk_events d rs) (s, BeginUpdate p e) m)
  where
    mine : (o : Answer) → Mem (s, BeginUpdate p e) (op_events d q.begun q.ended o) → p ≡ e.component
    mine (Stored n v) (inl h) = sym (ap (λ (z : Stamp). process_of z.1) h) ∙ ap (λ (z : Stamp). (entry_in_event z.1).component) h
    mine (Stored n v) (inr (inl h)) = let k : ◌≡◌ {A = ℕ} 2 0 = kind_same (q.ended, EndUpdate d) (s, BeginUpdate p e) h in absurd (omega arith)
    mine (Stored n v) (inr (inr z)) = absurd z
    mine (Viewed ys) (inl h) = let k : ◌≡◌ {A = ℕ} 1 0 = kind_same (q.begun, BeginView d) (s, BeginUpdate p e) h in absurd (omega arith)
    mine (Viewed ys) (inr (inl h)) = let k : ◌≡◌ {A = ℕ} 3 0 = kind_same (q.ended, EndView d (listed 0 ys)) (s, BeginUpdate p e) h in absurd (omega arith)
    mine (Viewed ys) (inr (inr z)) = absurd z
    mine (Scanned mid ys) (inl h) = let k : ◌≡◌ {A = ℕ} 1 0 = kind_same (q.begun, BeginView d) (s, BeginUpdate p e) h in absurd (omega arith)
    mine (Scanned mid ys) (inr (inl h)) = let k : ◌≡◌ {A = ℕ} 3 0 = kind_same (q.ended, EndView d (listed 0 ys)) (s, BeginUpdate p e) h in absurd (omega arith)
    mine (Scanned mid ys) (inr (inr z)) = absurd z
    mine (Interfered n ys zs) a = absurd a

event_same : (x y : Event) → x ≡ y → kind_of x ≡ kind_of y
event_same x y e = ap kind_of e

-- the updates of a desk are numbered in the order of their begins
pub desk_numbered : (f d : ℕ) (rs : List Answered) (xs ys : List Event) (p : ℕ) (e : Entry) → Numbered f (writes_in rs) → events_in (desk_events d rs) ≡ xs ++ BeginUpdate p e ∷ ys → e.number ≡ f + count_by (begins_update_of d) xs
desk_numbered f d [] [] ys p e num is = absurd (cc)
desk_numbered f d [] (x ∷ xs) ys p e num is = absurd (cc)
desk_numbered f d (q ∷ rs) xs ys p e num is = go q.op num xs is (λ g zs n eq. desk_numbered g d rs zs ys p e n eq)
  where
    -- a call that reads begins no update
    reads : (xs : List (ℕ × ℕ)) → Numbered f (writes_in rs) → (us : List Event) → BeginView d ∷ EndView d (listed 0 xs) ∷ events_in (desk_events d rs) ≡ us ++ BeginUpdate p e ∷ ys
        → ((g : ℕ) (zs : List Event) → Numbered g (writes_in rs) → events_in (desk_events d rs) ≡ zs ++ BeginUpdate p e ∷ ys → e.number ≡ g + count_by (begins_update_of d) zs) → e.number ≡ f + count_by (begins_update_of d) us
    reads xs num [] eq rest = let same : BeginView d ≡ BeginUpdate p e = cc in let k : ◌≡◌ {A = ℕ} 1 0 = event_same (BeginView d) (BeginUpdate p e) same in absurd (omega arith)
    reads xs num (u ∷ []) eq rest = let same : EndView d (listed 0 xs) ≡ BeginUpdate p e = cc in let k : ◌≡◌ {A = ℕ} 3 0 = event_same (EndView d (listed 0 xs)) (BeginUpdate p e) same in absurd (omega arith)
    reads xs num (u ∷ w ∷ us) eq rest =
        let first : BeginView d ≡ u = cc in
        let second : EndView d (listed 0 xs) ≡ w = cc in
        let tail : events_in (desk_events d rs) ≡ us ++ BeginUpdate p e ∷ ys = cc in
        let r = rest f us num tail in
        let steps =
        count-cons (begins_update_of d) (BeginView d) (EndView d (listed 0 xs) ∷ us) ∙ (λ i. 0 + count-cons (begins_update_of d) (EndView d (listed 0 xs)) us i) in
        let counts : count_by (begins_update_of d) (BeginView d ∷ EndView d (listed 0 xs) ∷ us) ≡ count_by (begins_update_of d) us = omega (arith, steps) in
        let same : count_by (begins_update_of d) (u ∷ w ∷ us) ≡ count_by (begins_update_of d) us = (λ i. count_by (begins_update_of d) (sym first i ∷ sym second i ∷ us)) ∙ counts in omega arith

    go : (o : Answer) → Numbered f (op_writes q.begun q.ended o ++ writes_in rs) → (us : List Event) → events_in (op_events d q.begun q.ended o ++ desk_events d rs) ≡ us ++ BeginUpdate p e ∷ ys
        → ((g : ℕ) (zs : List Event) → Numbered g (writes_in rs) → events_in (desk_events d rs) ≡ zs ++ BeginUpdate p e ∷ ys → e.number ≡ g + count_by (begins_update_of d) zs) → e.number ≡ f + count_by (begins_update_of d) us
    go (Stored n v) num [] eq rest =
        let same : BeginUpdate d (entry d n v) ≡ BeginUpdate p e = cc in
        let number : n ≡ e.number = ap (λ (z : Event). (entry_in_event z).number) same in omega (arith, num.0)
    go (Stored n v) num (u ∷ []) eq rest = let same : EndUpdate d ≡ BeginUpdate p e = cc in let k : ◌≡◌ {A = ℕ} 2 0 = event_same (EndUpdate d) (BeginUpdate p e) same in absurd (omega arith)
    go (Stored n v) num (u ∷ w ∷ us) eq rest =
        let first : BeginUpdate d (entry d n v) ≡ u = cc in
        let second : EndUpdate d ≡ w = cc in
        let tail : events_in (desk_events d rs) ≡ us ++ BeginUpdate p e ∷ ys = cc in
        let r = rest (suc f) us num.1 tail in
        let steps =
        count-cons (begins_update_of d) (BeginUpdate d (entry d n v)) (EndUpdate d ∷ us) ∙ (λ i. cond (eq-eqb d d refl i) 1 0 + count-cons (begins_update_of d) (EndUpdate d) us i) in
        let counts : count_by (begins_update_of d) (BeginUpdate d (entry d n v) ∷ EndUpdate d ∷ us) ≡ suc (count_by (begins_update_of d) us) = omega (arith, steps) in
        let same : count_by (begins_update_of d) (u ∷ w ∷ us) ≡ suc (count_by (begins_update_of d) us) = (λ i. count_by (begins_update_of d) (sym first i ∷ sym second i ∷ us)) ∙ counts in omega arith
    go (Viewed xs) num us eq rest = reads xs num us eq rest
    go (Scanned mid xs) num us eq rest = reads xs num us eq rest
    go (Interfered n xs zs) num us eq rest = rest f us num eq

-- the last event of a desk is an end
pub no_open_end : (d : ℕ) (rs : List Answered) (xs : List Event) (b : Event) → events_in (desk_events d rs) ≡ xs ++ b ∷ [] → IsBegin b → ⊥
no_open_end d [] [] b is begin = absurd (cc)
no_open_end d [] (x ∷ xs) b is begin = absurd (cc)
no_open_end d (q ∷ rs) xs b is begin = go q.op xs is (λ ys e. no_open_end d rs ys b e begin)
  where
    two : (f g : Event) → (IsBegin g → ⊥) → (us : List Event) → f ∷ g ∷ events_in (desk_events d rs) ≡ us ++ b ∷ [] → ((ys : List Event) → events_in (desk_events d rs) ≡ ys ++ b ∷ [] → ⊥) → ⊥
    two f g ends [] e rest = absurd (cc)
    two f g ends (x ∷ []) e rest = let same : g ≡ b = cc in ends (subst IsBegin (sym same) begin)
    two f g ends (x ∷ y ∷ us) e rest = rest us (cc)

    go : (o : Answer) (us : List Event) → events_in (op_events d q.begun q.ended o ++ desk_events d rs) ≡ us ++ b ∷ [] → ((ys : List Event) → events_in (desk_events d rs) ≡ ys ++ b ∷ [] → ⊥) → ⊥
    go (Stored n v) us e rest = two (BeginUpdate d (entry d n v)) (EndUpdate d) (λ z. z) us e rest
    go (Viewed zs) us e rest = two (BeginView d) (EndView d (listed 0 zs)) (λ z. z) us e rest
    go (Scanned t zs) us e rest = two (BeginView d) (EndView d (listed 0 zs)) (λ z. z) us e rest
    go (Interfered n ys zs) us e rest = rest us e
