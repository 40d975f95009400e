-- The order of stores and scans: each scan at its last middle tick, each store just before the first scan that shows it or a later one, and between two scans by begins.
use Rattle.std.proofs.Common.{◌≡◌, ◌≢◌, ℕ, suc, ◌==◌, ◌+◌, ◌*◌, ◌<◌, ◌≤◌, ◌⊎◌, Bool, true, false, cond, min, nat_lt, List, [], ◌∷◌, ◌++◌, length, map, sym, refl, ap, ◌∙◌, subst, inl, inr, ⊎_elim, arith}
use Rattle.std.proofs.lemmas.Bool.{ltb-true, ltb-false}
use native.Mathlib.Decide.{dec_le, ℕ_discrete}
use mathlib.Core.Option.{some}
use lib.ListN.{get_elem?}
use Rattle.snap_core.specs.Sums.{total, times, one_if}
use Rattle.snap_core.proofs.Sums.{total-append}
use Rattle.snap_account.specs.declared.account.Account.{Account}
use Rattle.snap_account.specs.declared.account.Answered.{Answered}
use Rattle.snap_account.specs.declared.account.Answer.{Answer}
use Rattle.snap_account.specs.declared.account.Answer.TheVariants.{Stored, Viewed, Scanned, Interfered}
use Rattle.snap_account.specs.Calls.{Mem, Write, Mark, view_record, write, mark, op_view_records, op_writes, op_marks, view_records_in, writes_in, marks_in, stamps_in, all_stamps_in}
use Rattle.snap_account.specs.Rule.{Rising, Numbered, clock}
use Rattle.snap_board.specs.Settled.{Settled, ScansSettled}
use Rattle.snap_account.proofs.Lists.{mem_split, mem_left, mem_right, mem_one, one_here}
use Rattle.snap_account.proofs.Accounts.{mem_middle}
use Rattle.snap_account.proofs.Marking.{numbered_low}
use Rattle.snap_board.proofs.DeskEvents.{rising_head, rising_tail}
use Rattle.snap_board.proofs.Accounts.{hand_low, hand_one}
use Rattle.snap_board.proofs.Listing.{shown_at, shown_some, shown_high}

pub record ScanAt : Type 0 where
  pub begun : ℕ
  pub middle : ℕ
  pub ended : ℕ
  -- the number shown for each component
  pub shows : ℕ → ℕ

pub record StoreAt : Type 0 where
  pub comp : ℕ
  pub number : ℕ
  pub begun : ℕ
  pub ended : ℕ

pub record Given (top : ℕ) (scans : List ScanAt) (stores : List StoreAt) : Type 0 where
  pub inside : (s : ScanAt) → Mem s scans → (s.begun < s.middle) × (s.middle < s.ended) × (s.middle < top)
  -- of two scans the later shows nothing older
  pub order : (r s : ScanAt) → Mem r scans → Mem s scans → r.middle ≤ s.middle → (k : ℕ) → r.shows k ≤ s.shows k
  -- a scan shows what had ended before its middle tick, and what it shows had begun
  pub ended : (s : ScanAt) (u : StoreAt) → Mem s scans → Mem u stores → u.ended < s.middle → u.number ≤ s.shows u.comp
  pub began : (s : ScanAt) (u : StoreAt) → Mem s scans → Mem u stores → u.number ≤ s.shows u.comp → u.begun < s.middle
  -- the stores of a component come one after the other
  pub lasts : (u : StoreAt) → Mem u stores → u.begun < u.ended
  pub turns : (u v : StoreAt) → Mem u stores → Mem v stores → u.comp ≡ v.comp → u.number < v.number → u.ended < v.begun

-- the least middle tick of a scan that shows the update or a later one, top where there is none
abbrev pub first_shown : ℕ → List ScanAt → StoreAt → ℕ
first_shown top [] u = top
first_shown top (s ∷ ss) u = cond (nat_lt (s.shows u.comp) u.number) (first_shown top ss u) (min s.middle (first_shown top ss u))

cond_le : (b : Bool) (x y n : ℕ) → (b ≡ true → x ≤ n) → (b ≡ false → y ≤ n) → cond b x y ≤ n
cond_le true x y n t f = t refl
cond_le false x y n t f = f refl

pub first_le : (top : ℕ) (ss : List ScanAt) (u : StoreAt) (s : ScanAt) → Mem s ss → u.number ≤ s.shows u.comp → first_shown top ss u ≤ s.middle
first_le top [] u s m le = absurd m
first_le top (r ∷ ss) u s m le = cond_le (nat_lt (r.shows u.comp) u.number) (first_shown top ss u) (min r.middle (first_shown top ss u)) s.middle
    (λ t. ⊎_elim
    (λ (e : r ≡ s). let l = ltb-true (r.shows u.comp) u.number t in let x = ap (λ (z : ScanAt). z.shows u.comp) e in absurd (omega arith))
    (λ q. first_le top ss u s q le)
    m)
    (λ f. ⊎_elim
    (λ (e : r ≡ s). let x = ap (λ (z : ScanAt). z.middle) e in omega arith)
    (λ q. let l = first_le top ss u s q le in omega arith)
    m)

pub first_is : (top : ℕ) (ss : List ScanAt) (u : StoreAt) → (first_shown top ss u ≡ top) ⊎ ((s : ScanAt) × Mem s ss × (u.number ≤ s.shows u.comp) × (first_shown top ss u ≡ s.middle))
first_is top [] u = inl refl
first_is top (r ∷ ss) u = at (nat_lt (r.shows u.comp) u.number) refl (first_is top ss u)
  where
    old : ((first_shown top ss u ≡ top) ⊎ ((s : ScanAt) × Mem s ss × (u.number ≤ s.shows u.comp) × (first_shown top ss u ≡ s.middle))) → (x : ℕ) → x ≡ first_shown top ss u
        → (x ≡ top) ⊎ ((s : ScanAt) × Mem s (r ∷ ss) × (u.number ≤ s.shows u.comp) × (x ≡ s.middle))
    old o x e = ⊎_elim (λ q. inl (e ∙ q)) (λ (q : (s : ScanAt) × Mem s ss × (u.number ≤ s.shows u.comp) × (first_shown top ss u ≡ s.middle)). inr (q.0, inr q.1, q.2, e ∙ q.3)) o

    least : Dec (r.middle ≤ first_shown top ss u) → (r.shows u.comp < u.number → ⊥) → ((first_shown top ss u ≡ top) ⊎ ((s : ScanAt) × Mem s ss × (u.number ≤ s.shows u.comp) × (first_shown top ss u ≡ s.middle)))
        → (min r.middle (first_shown top ss u) ≡ top) ⊎ ((s : ScanAt) × Mem s (r ∷ ss) × (u.number ≤ s.shows u.comp) × (min r.middle (first_shown top ss u) ≡ s.middle))
    least (yes l) nf o = inr (r, inl refl, omega arith, omega arith)
    least (no nl) nf o = old o (min r.middle (first_shown top ss u)) (omega arith)

    at : (b : Bool) → nat_lt (r.shows u.comp) u.number ≡ b → ((first_shown top ss u ≡ top) ⊎ ((s : ScanAt) × Mem s ss × (u.number ≤ s.shows u.comp) × (first_shown top ss u ≡ s.middle)))
        → (cond b (first_shown top ss u) (min r.middle (first_shown top ss u)) ≡ top) ⊎ ((s : ScanAt) × Mem s (r ∷ ss) × (u.number ≤ s.shows u.comp) × (cond b (first_shown top ss u) (min r.middle (first_shown top ss u)) ≡ s.middle))
    at true is o = old o (first_shown top ss u) refl
    at false is o = least (dec_le r.middle (first_shown top ss u)) (λ l. let le = ltb-false (r.shows u.comp) u.number is in omega arith) o

le_cases : (a b : ℕ) → a ≤ b → (a < b) ⊎ (a ≡ b)
le_cases a b le = at (ℕ_discrete a b)
  where
    at : Dec (a ≡ b) → (a < b) ⊎ (a ≡ b)
    at (yes e) = inr e
    at (no ne) = inl (omega arith)

-- the place of a call in the order: two numbers, compared one after the other
abbrev pub Key : Type 0
Key = ℕ × ℕ

abbrev pub Less : Key → Key → Type 0
Less a b = (a.0 < b.0) ⊎ ((a.0 ≡ b.0) × (a.1 < b.1))

abbrev pub scan_key : ScanAt → Key
scan_key s = (2 * s.middle + 1, 0)

abbrev pub store_key : ℕ → List ScanAt → StoreAt → Key
store_key top ss u = (2 * first_shown top ss u, u.begun)

module _ (top : ℕ) (scans : List ScanAt) (stores : List StoreAt) (g : Given top scans stores) where
  abbrev T : StoreAt → ℕ
  T u = first_shown top scans u

  -- a store that began at x or later is shown by no scan whose middle tick is at or below x
  above : (u : StoreAt) → Mem u stores → (x : ℕ) → x < top → x ≤ u.begun → x < T u
  above u mu x room le = ⊎_elim
      (λ e. omega arith)
      (λ (s : (s : ScanAt) × Mem s scans × (u.number ≤ s.shows u.comp) × (T u ≡ s.middle)). let b = g.began s.0 u s.1 mu s.2 in let e = s.3 in omega arith)
      (first_is top scans u)

  -- precedence is kept, in all four cases
  pub scan_scan : (r s : ScanAt) → Mem r scans → Mem s scans → r.ended < s.begun → Less (scan_key r) (scan_key s)
  scan_scan r s mr ms lt = let a = g.inside r mr in let b = g.inside s ms in let x = a.1 in let y = b.0 in inl (omega arith)

  pub store_scan : (u : StoreAt) (s : ScanAt) → Mem u stores → Mem s scans → u.ended < s.begun → Less (store_key top scans u) (scan_key s)
  store_scan u s mu ms lt =
      let i = (g.inside s ms).0 in
      let shown = g.ended s u ms mu (omega arith) in
      let le = first_le top scans u s ms shown in inl (omega arith)

  pub scan_store : (s : ScanAt) (u : StoreAt) → Mem s scans → Mem u stores → s.ended < u.begun → Less (scan_key s) (store_key top scans u)
  scan_store s u ms mu lt = let i = g.inside s ms in let x = i.1 in let y = i.2 in let l = above u mu s.middle y (omega arith) in inl (omega arith)

  pub store_store : (u v : StoreAt) → Mem u stores → Mem v stores → u.ended < v.begun → Less (store_key top scans u) (store_key top scans v)
  store_store u v mu mv lt =
      let begins = g.lasts u mu in
      let tie : T u ≤ T v → Less (store_key top scans u) (store_key top scans v) = λ le. ⊎_elim (λ l. inl (omega arith)) (λ e. inr (omega arith, omega arith)) (le_cases (T u) (T v) le) in
      tie (⊎_elim
      (λ e. let l = at_most u in omega arith)
      (λ (s : (s : ScanAt) × Mem s scans × (v.number ≤ s.shows v.comp) × (T v ≡ s.middle)).
      let b = g.began s.0 v s.1 mv s.2 in
      let shown = g.ended s.0 u s.1 mu (omega arith) in
      let l = first_le top scans u s.0 s.1 shown in let e = s.3 in omega arith)
      (first_is top scans v))
    where
      at_most : (w : StoreAt) → first_shown top scans w ≤ top
      at_most w = ⊎_elim (λ e. omega arith) (λ (s : (s : ScanAt) × Mem s scans × (w.number ≤ s.shows w.comp) × (first_shown top scans w ≡ s.middle)). let i = (g.inside s.0 s.1).2 in let e = s.3 in omega arith) (first_is top scans w)

  -- the stores of a component stand by number
  pub by_number : (u v : StoreAt) → Mem u stores → Mem v stores → u.comp ≡ v.comp → u.number < v.number → Less (store_key top scans u) (store_key top scans v)
  by_number u v mu mv same lt = store_store u v mu mv (g.turns u v mu mv same lt)

  -- before a scan stand just the stores up to the number that it shows
  pub shown_before : (u : StoreAt) (s : ScanAt) → Mem u stores → Mem s scans → u.number ≤ s.shows u.comp → Less (store_key top scans u) (scan_key s)
  shown_before u s mu ms le = let l = first_le top scans u s ms le in inl (omega arith)

  pub before_shown : (u : StoreAt) (s : ScanAt) → Mem u stores → Mem s scans → (Less (scan_key s) (store_key top scans u) → ⊥) → u.number ≤ s.shows u.comp
  before_shown u s mu ms not = low (dec_le (T u) s.middle)
    where
      low : Dec (first_shown top scans u ≤ s.middle) → u.number ≤ s.shows u.comp
      low (no nle) = absurd (not (inl (omega arith)))
      low (yes le) = ⊎_elim
          (λ e. let i = (g.inside s ms).2 in absurd (omega arith))
          (λ (r : (r : ScanAt) × Mem r scans × (u.number ≤ r.shows u.comp) × (first_shown top scans u ≡ r.middle)). let e = r.3 in let o = g.order r.0 s r.1 ms (omega arith) u.comp in let n = r.2 in omega arith)
          (first_is top scans u)

-- the scans and stores of a hand
abbrev pub scan_at : Mark → ScanAt
scan_at m = record { begun = m.begun; middle = m.middle; ended = m.ended; shows = λ k. (shown_at m.before k).0 }

abbrev pub store_at : ℕ → Write → StoreAt
store_at d w = record { comp = d; number = w.number; begun = w.begun; ended = w.ended }

abbrev pub scans_of : List Account → List ScanAt
scans_of [] = []
scans_of (a ∷ hand) = map scan_at (marks_in a.calls) ++ scans_of hand

abbrev pub stores_of : List Account → List StoreAt
stores_of [] = []
stores_of (a ∷ hand) = map (store_at a.desk) (writes_in a.calls) ++ stores_of hand

module _ {A B : Type 0} where
  mem_map : (f : A → B) (l : List A) (a : A) → Mem a l → Mem (f a) (map f l)
  mem_map f [] a m = m
  mem_map f (x ∷ l) a m = ⊎_elim (λ e. inl (ap f e)) (λ q. inr (mem_map f l a q)) m

  map_mem : (f : A → B) (l : List A) (y : B) → Mem y (map f l) → (a : A) × Mem a l × (f a ≡ y)
  map_mem f [] y m = absurd m
  map_mem f (x ∷ l) y m = ⊎_elim (λ e. (x, inl refl, e)) (λ q. let r = map_mem f l y q in (r.0, inr r.1, r.2)) m

pub scan_there : (hand : List Account) (a : Account) (m : Mark) → Mem a hand → Mem m (marks_in a.calls) → Mem (scan_at m) (scans_of hand)
scan_there [] a m ma q = absurd ma
scan_there (x ∷ hand) a m ma q = ⊎_elim
    (λ e. mem_left (map scan_at (marks_in x.calls)) (scans_of hand) (scan_at m) (mem_map scan_at (marks_in x.calls) m (subst (λ (z : Account). Mem m (marks_in z.calls)) (sym e) q)))
    (λ r. mem_right (map scan_at (marks_in x.calls)) (scans_of hand) (scan_at m) (scan_there hand a m r q))
    ma

pub store_there : (hand : List Account) (a : Account) (w : Write) → Mem a hand → Mem w (writes_in a.calls) → Mem (store_at a.desk w) (stores_of hand)
store_there [] a w ma q = absurd ma
store_there (x ∷ hand) a w ma q = ⊎_elim
    (λ (e : x ≡ a). subst (λ (z : Account). Mem (store_at z.desk w) (stores_of (x ∷ hand))) e (mem_left (map (store_at x.desk) (writes_in x.calls)) (stores_of hand) (store_at x.desk w) (mem_map (store_at x.desk) (writes_in x.calls) w (subst (λ (z : Account). Mem w (writes_in z.calls)) (sym e) q))))
    (λ r. mem_right (map (store_at x.desk) (writes_in x.calls)) (stores_of hand) (store_at a.desk w) (store_there hand a w r q))
    ma

there_scan : (hand : List Account) (s : ScanAt) → Mem s (scans_of hand) → (a : Account) × Mem a hand × ((m : Mark) × Mem m (marks_in a.calls) × (scan_at m ≡ s))
there_scan [] s q = absurd q
there_scan (x ∷ hand) s q = ⊎_elim (λ y. (x, inl refl, map_mem scan_at (marks_in x.calls) s y)) (λ y. let r = there_scan hand s y in (r.0, inr r.1, r.2)) (mem_split (map scan_at (marks_in x.calls)) (scans_of hand) s q)

there_store : (hand : List Account) (u : StoreAt) → Mem u (stores_of hand) → (a : Account) × Mem a hand × ((w : Write) × Mem w (writes_in a.calls) × (store_at a.desk w ≡ u))
there_store [] u q = absurd q
there_store (x ∷ hand) u q = ⊎_elim (λ y. (x, inl refl, map_mem (store_at x.desk) (writes_in x.calls) u y)) (λ y. let r = there_store hand u y in (r.0, inr r.1, r.2)) (mem_split (map (store_at x.desk) (writes_in x.calls)) (stores_of hand) u q)

-- a scan is a view
pub mark_look : (rs : List Answered) (m : Mark) → Mem m (marks_in rs) → Mem (view_record m.begun m.ended true m.before) (view_records_in rs)
mark_look [] m q = absurd q
mark_look (r ∷ rs) m q = ⊎_elim (λ x. mem_left (op_view_records r.begun r.ended r.op) (view_records_in rs) (view_record m.begun m.ended true m.before) (one r.op x)) (λ x. mem_right (op_view_records r.begun r.ended r.op) (view_records_in rs) (view_record m.begun m.ended true m.before) (mark_look rs m x)) (mem_split (op_marks r.begun r.ended r.op) (marks_in rs) m q)
  where
    one : (o : Answer) → Mem m (op_marks r.begun r.ended o) → Mem (view_record m.begun m.ended true m.before) (op_view_records r.begun r.ended o)
    one (Stored n v) x = absurd x
    one (Viewed xs) x = absurd x
    one (Scanned t xs) x = let e = mem_one m (mark r.begun t r.ended true xs xs) x in inl (λ i. view_record (e i).begun (e i).ended true (e i).before)
    one (Interfered n xs ys) x = absurd x

-- the stamps of a store
pub write_stamps : (rs : List Answered) (w : Write) → Mem w (writes_in rs) → Mem w.begun (stamps_in rs) × Mem w.ended (stamps_in rs)
write_stamps [] w m = absurd m
write_stamps (r ∷ rs) w m = ⊎_elim (λ x. one r.op x) (λ x. let s = write_stamps rs w x in (inr (inr s.0), inr (inr s.1))) (mem_split (op_writes r.begun r.ended r.op) (writes_in rs) w m)
  where
    one : (o : Answer) → Mem w (op_writes r.begun r.ended o) → Mem w.begun (stamps_in (r ∷ rs)) × Mem w.ended (stamps_in (r ∷ rs))
    one (Stored n v) x = let e = mem_one w (write n v r.begun r.ended true) x in (inl (ap (λ (z : Write). z.begun) e), inr (inl (ap (λ (z : Write). z.ended) e)))
    one (Viewed xs) x = absurd x
    one (Scanned t xs) x = absurd x
    one (Interfered n xs ys) x = absurd x

pub write_lasts : (rs : List Answered) (w : Write) → Rising (stamps_in rs) → Mem w (writes_in rs) → w.begun < w.ended
write_lasts [] w r m = absurd m
write_lasts (q ∷ rs) w r m = ⊎_elim
    (λ x. one q.op x)
    (λ x. write_lasts rs w (rising_tail q.ended (stamps_in rs) (rising_tail q.begun (q.ended ∷ stamps_in rs) r)) x)
    (mem_split (op_writes q.begun q.ended q.op) (writes_in rs) w m)
  where
    one : (o : Answer) → Mem w (op_writes q.begun q.ended o) → w.begun < w.ended
    one (Stored n v) x = let e = mem_one w (write n v q.begun q.ended true) x in let a = ap (λ (z : Write). z.begun) e in let b = ap (λ (z : Write). z.ended) e in let l = rising_head q.begun (q.ended ∷ stamps_in rs) r q.ended (inl refl) in omega arith
    one (Viewed xs) x = absurd x
    one (Scanned t xs) x = absurd x
    one (Interfered n xs ys) x = absurd x

pub write_turns : (f : ℕ) (rs : List Answered) (u v : Write) → Rising (stamps_in rs) → Numbered f (writes_in rs) → Mem u (writes_in rs) → Mem v (writes_in rs) → u.number < v.number → u.ended < v.begun
write_turns f [] u v r num mu mv lt = absurd mu
write_turns f (q ∷ rs) u v r num mu mv lt = one q.op num mu mv (λ g n a c. write_turns g rs u v tail n a c lt)
  where
    tail : Rising (stamps_in rs)
    tail = rising_tail q.ended (stamps_in rs) (rising_tail q.begun (q.ended ∷ stamps_in rs) r)

    one : (o : Answer) → Numbered f (op_writes q.begun q.ended o ++ writes_in rs) → Mem u (op_writes q.begun q.ended o ++ writes_in rs) → Mem v (op_writes q.begun q.ended o ++ writes_in rs)
        → ((g : ℕ) → Numbered g (writes_in rs) → Mem u (writes_in rs) → Mem v (writes_in rs) → u.ended < v.begun) → u.ended < v.begun
    one (Stored n w) num mu mv rest = ⊎_elim
        (λ (e : write n w q.begun q.ended true ≡ u). ⊎_elim
        (λ (e' : write n w q.begun q.ended true ≡ v). let a = ap (λ (z : Write). z.number) e in let b = ap (λ (z : Write). z.number) e' in absurd (omega arith))
        (λ y. let a = ap (λ (z : Write). z.ended) e in let l = rising_head q.ended (stamps_in rs) (rising_tail q.begun (q.ended ∷ stamps_in rs) r) v.begun (write_stamps rs v y).0 in omega arith)
        mv)
        (λ x. ⊎_elim
        (λ (e' : write n w q.begun q.ended true ≡ v). let b = ap (λ (z : Write). z.number) e' in let k = num.0 in let l = numbered_low (suc f) (writes_in rs) u num.1 x in absurd (omega arith))
        (λ y. rest (suc f) num.1 x y)
        mv)
        mu
    one (Viewed xs) num mu mv rest = rest f num mu mv
    one (Scanned t xs) num mu mv rest = rest f num mu mv
    one (Interfered n xs ys) num mu mv rest = rest f num mu mv

-- a middle tick is one scan's
marks_one : (x : ℕ) (ms : List Mark) → times x (map (λ (m : Mark). m.middle) ms) ≤ 1 → (r s : Mark) → Mem r ms → Mem s ms → r.middle ≡ x → s.middle ≡ x → r ≡ s
marks_one x [] few r s mr ns er es = absurd mr
marks_one x (m ∷ ms) few r s mr ns er es = ⊎_elim
    (λ e. ⊎_elim (λ e'. sym e ∙ e') (λ q. absurd (two r s e er q es)) ns)
    (λ p. ⊎_elim (λ e'. absurd (two s r e' es p er)) (λ q. marks_one x ms (let f = few in omega arith) r s p q er es) ns)
    mr
  where
    some_there : (l : List Mark) (z : Mark) → Mem z l → z.middle ≡ x → 1 ≤ times x (map (λ (m : Mark). m.middle) l)
    some_there [] z q e = absurd q
    some_there (y ∷ l) z q e = ⊎_elim
        (λ w. let one : one_if (y.middle == x) ≡ 1 = ap (λ (t : ℕ). one_if (t == x)) (ap (λ (t : Mark). t.middle) w ∙ e) ∙ one_here x in omega arith)
        (λ w. let t = some_there l z w e in omega arith)
        q

    two : (z w : Mark) → m ≡ z → z.middle ≡ x → Mem w ms → w.middle ≡ x → ⊥
    two z w e ez q ew = let one : one_if (m.middle == x) ≡ 1 = ap (λ (t : ℕ). one_if (t == x)) (ap (λ (t : Mark). t.middle) e ∙ ez) ∙ one_here x in let t = some_there ms w q ew in let f = few in omega arith

total_mem : (f : Account → ℕ) (l : List Account) (a : Account) → Mem a l → f a ≤ total f l
total_mem f [] a m = absurd m
total_mem f (x ∷ l) a m = ⊎_elim (λ e. let q = ap f e in omega arith) (λ q. let r = total_mem f l a q in omega arith) m

total_pair : (f : Account → ℕ) (l : List Account) (a c : Account) → Mem a l → Mem c l → a.desk ≢ c.desk → f a + f c ≤ total f l
total_pair f [] a c ma mc ne = absurd ma
total_pair f (x ∷ l) a c ma mc ne = ⊎_elim
    (λ e. ⊎_elim (λ e'. absurd (ne (ap (λ (z : Account). z.desk) (sym e ∙ e')))) (λ q. let i = ap f e in let r = total_mem f l c q in omega arith) mc)
    (λ p. ⊎_elim (λ e'. let i = ap f e' in let r = total_mem f l a p in omega arith) (λ q. let r = total_pair f l a c p q ne in omega arith) mc)
    ma

middle_times : (m : Mark) (ms : List Mark) → Mem m ms → 1 ≤ times m.middle (map (λ (z : Mark). z.middle) ms)
middle_times m [] q = absurd q
middle_times m (x ∷ ms) q = ⊎_elim
    (λ e. let one : one_if (x.middle == m.middle) ≡ 1 = ap (λ (z : Mark). one_if (z.middle == m.middle)) e ∙ one_here m.middle in omega arith)
    (λ r. let t = middle_times m ms r in omega arith)
    q

module _ (n : ℕ) (hand : List Account) (h : Settled n hand) (g : ScansSettled hand) where
  few : (x : ℕ) (a : Account) → times x (map (λ (m : Mark). m.middle) (marks_in a.calls)) ≤ times x (all_stamps_in a.calls)
  few x a = let t = total-append (λ y. one_if (y == x)) (stamps_in a.calls) (map (λ (m : Mark). m.middle) (marks_in a.calls)) in omega arith

  -- two scans with one middle tick are one
  one_mark : (a c : Account) → Mem a hand → Mem c hand → (r s : Mark) → Mem r (marks_in a.calls) → Mem s (marks_in c.calls) → r.middle ≡ s.middle → r ≡ s
  one_mark a c ma mc r s mr ns same = at (ℕ_discrete a.desk c.desk)
    where
      f : Account → ℕ
      f z = times r.middle (all_stamps_in z.calls)

      at : Dec (a.desk ≡ c.desk) → r ≡ s
      at (yes e) =
          let is = hand_one n hand h.desks a c ma mc e in
          let t = total_mem (λ (z : Account). times r.middle (all_stamps_in z.calls)) hand a ma in let u = h.apart r.middle in let w = few r.middle a in
          marks_one r.middle (marks_in a.calls) (omega arith) r s mr (subst (λ (z : Account). Mem s (marks_in z.calls)) (sym is) ns) refl (sym same)
      at (no ne) =
          let t = total_pair (λ (z : Account). times r.middle (all_stamps_in z.calls)) hand a c ma mc ne in let u = h.apart r.middle in
          let w = few r.middle a in let v = few r.middle c in
          let x = middle_times r (marks_in a.calls) mr in
          let y : 1 ≤ times r.middle (map (λ (z : Mark). z.middle) (marks_in c.calls)) = subst (λ (z : ℕ). 1 ≤ times z (map (λ (z : Mark). z.middle) (marks_in c.calls))) (sym same) (middle_times s (marks_in c.calls) ns) in absurd (omega arith)

  pub mark_whole : (a : Account) → Mem a hand → (m : Mark) → Mem m (marks_in a.calls) → length m.before ≡ n
  mark_whole a ma m q = h.whole a ma (view_record m.begun m.ended true m.before) (mark_look a.calls m q)

  pub mark_low : (a : Account) → Mem a hand → (m : Mark) → Mem m (marks_in a.calls) → m.middle < clock hand
  mark_low a ma m q = h.below a ma m.middle (mem_right (stamps_in a.calls) (map (λ (z : Mark). z.middle) (marks_in a.calls)) m.middle (mem_middle (marks_in a.calls) m q))

  shows_less : (a c : Account) → Mem a hand → Mem c hand → (r s : Mark) → Mem r (marks_in a.calls) → Mem s (marks_in c.calls) → r.middle ≤ s.middle → (k : ℕ) → (shown_at r.before k).0 ≤ (shown_at s.before k).0
  shows_less a c ma mc r s mr ns le k = ⊎_elim (λ lt. less lt (dec_le (suc k) n)) (λ e. let is = ap (λ (z : Mark). (shown_at z.before k).0) (one_mark a c ma mc r s mr ns e) in omega arith) (le_cases r.middle s.middle le)
    where
      less : r.middle < s.middle → Dec (suc k ≤ n) → (shown_at r.before k).0 ≤ (shown_at s.before k).0
      less lt (yes low) =
          let wr = mark_whole a ma r mr in let ws = mark_whole c mc s ns in
          g.in_turn a c ma mc r s mr ns lt k (shown_at r.before k) (shown_at s.before k) (shown_some r.before k (omega arith)) (shown_some s.before k (omega arith))
      less lt (no high) = let wr = mark_whole a ma r mr in let z = ap (λ (p : ℕ × ℕ). p.0) (shown_high r.before k (omega arith)) in omega arith

  mark_ended : (a c : Account) → Mem a hand → Mem c hand → (m : Mark) → Mem m (marks_in a.calls) → (w : Write) → Mem w (writes_in c.calls) → w.ended < m.middle → w.number ≤ (shown_at m.before c.desk).0
  mark_ended a c ma mc m q w mw lt =
      let wm = mark_whole a ma m q in let low = hand_low n hand h.desks c mc in
      (g.shows a ma m q c mc (shown_at m.before c.desk) (shown_some m.before c.desk (omega arith))).fresh w mw lt

  mark_began : (a c : Account) → Mem a hand → Mem c hand → (m : Mark) → Mem m (marks_in a.calls) → (w : Write) → Mem w (writes_in c.calls) → w.number ≤ (shown_at m.before c.desk).0 → w.begun < m.middle
  mark_began a c ma mc m q w mw le = ⊎_elim
      (λ lt.
      let r = see.real (omega arith) in
      let b = shows.began r.0 r.1 r.2 in
      let u = r.2 in
      let t = write_turns 1 c.calls w r.0 (h.rising c mc) (h.numbered c mc) mw r.1 (omega arith) in
      let l = write_lasts c.calls w (h.rising c mc) mw in omega arith)
      (λ e. shows.began w mw e)
      (le_cases w.number (shown_at m.before c.desk).0 le)
    where
      at_there : get_elem? m.before c.desk ≡ some (shown_at m.before c.desk)
      at_there = let wm = mark_whole a ma m q in let low = hand_low n hand h.desks c mc in shown_some m.before c.desk (omega arith)

      see : Rattle.snap_board.specs.Settled.Shows (view_record m.begun m.ended true m.before) (shown_at m.before c.desk) c
      see = h.regular a ma (view_record m.begun m.ended true m.before) (mark_look a.calls m q) c mc (shown_at m.before c.desk) at_there

      shows : Rattle.snap_board.specs.Settled.ShowsAt m (shown_at m.before c.desk) c
      shows = g.shows a ma m q c mc (shown_at m.before c.desk) at_there

  pub given : Given (clock hand) (scans_of hand) (stores_of hand)
  given = record {
    inside = λ s q. let r = there_scan hand s q in let m = r.2.0 in let i = g.inside r.0 r.1 m r.2.1 in let l = mark_low r.0 r.1 m r.2.1 in
        subst (λ (z : ScanAt). (z.begun < z.middle) × (z.middle < z.ended) × (z.middle < clock hand)) r.2.2 (i.0, i.1, l);
    order = λ x y mx my le k. let r = there_scan hand x mx in let s = there_scan hand y my in
        let a = ap (λ (z : ScanAt). z.middle) r.2.2 in let c = ap (λ (z : ScanAt). z.middle) s.2.2 in
        let l = shows_less r.0 s.0 r.1 s.1 r.2.0 s.2.0 r.2.1 s.2.1 (omega arith) k in
        let d = ap (λ (z : ScanAt). z.shows k) r.2.2 in let e = ap (λ (z : ScanAt). z.shows k) s.2.2 in omega arith;
    ended = λ s u ms mu lt. let r = there_scan hand s ms in let w = there_store hand u mu in
        subst (λ (z : ScanAt × StoreAt). z.1.ended < z.0.middle → z.1.number ≤ z.0.shows z.1.comp) (λ i. (r.2.2 i, w.2.2 i)) (mark_ended r.0 w.0 r.1 w.1 r.2.0 r.2.1 w.2.0 w.2.1) lt;
    began = λ s u ms mu le. let r = there_scan hand s ms in let w = there_store hand u mu in
        subst (λ (z : ScanAt × StoreAt). z.1.number ≤ z.0.shows z.1.comp → z.1.begun < z.0.middle) (λ i. (r.2.2 i, w.2.2 i)) (mark_began r.0 w.0 r.1 w.1 r.2.0 r.2.1 w.2.0 w.2.1) le;
    lasts = λ u mu. let w = there_store hand u mu in subst (λ (z : StoreAt). z.begun < z.ended) w.2.2 (write_lasts w.0.calls w.2.0 (h.rising w.0 w.1) w.2.1);
    turns = λ u v mu mv same lt. let x = there_store hand u mu in let y = there_store hand v mv in
        let comp : x.0.desk ≡ y.0.desk = ap (λ (z : StoreAt). z.comp) x.2.2 ∙ same ∙ sym (ap (λ (z : StoreAt). z.comp) y.2.2) in
        let is = hand_one n hand h.desks x.0 y.0 x.1 y.1 comp in
        let a = ap (λ (z : StoreAt). z.number) x.2.2 in let c = ap (λ (z : StoreAt). z.number) y.2.2 in
        let t = write_turns 1 y.0.calls x.2.0 y.2.0 (h.rising y.0 y.1) (h.numbered y.0 y.1) (subst (λ (z : Account). Mem x.2.0 (writes_in z.calls)) is x.2.1) y.2.1 (omega arith) in
        let d = ap (λ (z : StoreAt). z.ended) x.2.2 in let e = ap (λ (z : StoreAt). z.begun) y.2.2 in omega arith;
  }
