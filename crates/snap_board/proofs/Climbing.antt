-- Scans without a record have no more tries than other desks have stores.
use Rattle.std.proofs.Common.{nat_lt, le-ltb, ◌≡◌, ◌≢◌, ℕ, zero, suc, ◌+◌, ◌<◌, ◌≤◌, ◌⊎◌, ◌==◌, Bool, true, false, cond, List, [], ◌∷◌, ◌++◌, length, map, take, drop, sym, refl, ap, ◌∙◌, subst, inl, inr, ⊎_elim, arith, take_all, eq-eqb, ne_eqb}
use mathlib.Core.Option.{some-injective}
use native.Mathlib.Decide.{dec_le, ℕ_discrete}
use lib.ListN.{get_elem?}
use Rattle.snap_core.specs.Sums.{total}
use Rattle.snap_account.specs.declared.account.Account.{Account}
use Rattle.snap_account.specs.declared.account.Answered.{Answered}
use Rattle.snap_account.specs.declared.account.Answer.{Answer}
use Rattle.snap_account.specs.declared.account.Answer.TheVariants.{Stored, Viewed, Scanned, Interfered}
use Rattle.snap_account.specs.Calls.{Mem, ViewRecord, Write, view_record, write, op_view_records, op_writes, view_records_in, writes_in, stamps_in}
use Rattle.snap_account.specs.Rule.{Rising, Numbered}
use Rattle.snap_account.specs.Marks.{sum, HasClimbed}
use Rattle.snap_board.specs.Desks.{op_lost, lost_in}
use Rattle.snap_board.specs.Settled.{falling, Settled, ScansSettled, beside, stores_beside, op_tries, WereInterfered}
use Rattle.snap_account.proofs.Lists.{mem_split, mem_left, mem_right, mem_one, numbered_mem}
use Rattle.snap_board.proofs.DeskEvents.{rising_head, rising_tail}
use Rattle.snap_board.proofs.Accounts.{hand_low}
use Rattle.snap_board.proofs.Listing.{shown_at, shown_some, shown_low}
use Rattle.snap_board.proofs.ScanOrder.{write_stamps, write_turns, write_lasts}
use Rattle.snap_account.proofs.Marking.{numbered_low}

take_more_sum : (xs : List (ℕ × ℕ)) (m : ℕ) → m < length xs → sum (take (suc m) xs) ≡ (shown_at xs m).0 + sum (take m xs)
take_more_sum [] m lt = absurd (omega arith)
take_more_sum (x ∷ xs) zero lt = omega arith
take_more_sum (x ∷ xs) (suc m) lt = let r = take_more_sum xs m (omega arith) in omega arith

hand_sum : (xs : List (ℕ × ℕ)) (m : ℕ) (hand : List Account) → map (λ (a : Account). a.desk) hand ≡ falling m → m ≤ length xs → total (λ (c : Account). (shown_at xs c.desk).0) hand ≡ sum (take m xs)
hand_sum xs zero [] e le = refl
hand_sum xs (suc m) [] e le = absurd (cc)
hand_sum xs zero (x ∷ hand) e le = absurd (cc)
hand_sum xs (suc m) (x ∷ hand) e le =
    let first : x.desk ≡ m = some-injective _ _ (ap (λ (l : List ℕ). get_elem? l 0) e) in
    let rest : map (λ (a : Account). a.desk) hand ≡ falling m = ap (λ (l : List ℕ). drop 1 l) e in
    let r = hand_sum xs m hand rest (omega arith) in
    let t = take_more_sum xs m (omega arith) in
    let s = ap (λ (k : ℕ). (shown_at xs k).0) first in omega arith

-- without the desk d
abbrev but : ℕ → (ℕ → ℕ) → ℕ → ℕ
but d f k = cond (k == d) 0 (f k)

but_other : (d : ℕ) (f : ℕ → ℕ) (k : ℕ) → k ≢ d → but d f k ≡ f k
but_other d f k ne = ap (λ b. cond b 0 (f k)) (ne_eqb k d ne)

but_same : (d : ℕ) (f : ℕ → ℕ) (k : ℕ) → k ≡ d → but d f k ≡ 0
but_same d f k e = ap (λ b. cond b 0 (f k)) (eq-eqb k d e)

but_high : (d : ℕ) (f : ℕ → ℕ) (m : ℕ) (hand : List Account) → map (λ (a : Account). a.desk) hand ≡ falling m → m ≤ d → total (λ (c : Account). but d f c.desk) hand ≡ total (λ (c : Account). f c.desk) hand
but_high d f zero [] e le = refl
but_high d f (suc m) [] e le = absurd (cc)
but_high d f zero (x ∷ hand) e le = absurd (cc)
but_high d f (suc m) (x ∷ hand) e le =
    let first : x.desk ≡ m = some-injective _ _ (ap (λ (l : List ℕ). get_elem? l 0) e) in
    let r = but_high d f m hand (ap (λ (l : List ℕ). drop 1 l) e) (omega arith) in
    let o = but_other d f x.desk (λ z. omega arith) in omega arith

but_sum : (d : ℕ) (f : ℕ → ℕ) (m : ℕ) (hand : List Account) → map (λ (a : Account). a.desk) hand ≡ falling m → d < m → total (λ (c : Account). f c.desk) hand ≡ total (λ (c : Account). but d f c.desk) hand + f d
but_sum d f zero hand e lt = absurd (omega arith)
but_sum d f (suc m) [] e lt = absurd (cc)
but_sum d f (suc m) (x ∷ hand) e lt = at (ℕ_discrete m d) (λ l. but_sum d f m hand rest l)
  where
    first : x.desk ≡ m
    first = some-injective _ _ (ap (λ (l : List ℕ). get_elem? l 0) e)

    rest : map (λ (a : Account). a.desk) hand ≡ falling m
    rest = ap (λ (l : List ℕ). drop 1 l) e

    at : Dec (m ≡ d) → (d < m → total (λ (c : Account). f c.desk) hand ≡ total (λ (c : Account). but d f c.desk) hand + f d) → total (λ (c : Account). f c.desk) (x ∷ hand) ≡ total (λ (c : Account). but d f c.desk) (x ∷ hand) + f d
    at (yes q) r = let h = but_high d f m hand rest (omega arith) in let o = but_same d f x.desk (first ∙ q) in let s = ap f (first ∙ q) in omega arith
    at (no ne) r = let h = r (omega arith) in let o = but_other d f x.desk (λ z. ne (sym first ∙ z)) in omega arith

total_le : (f g : Account → ℕ) (l : List Account) → ((c : Account) → Mem c l → f c ≤ g c) → total f l ≤ total g l
total_le f g [] le = omega arith
total_le f g (x ∷ l) le = let a = le x (inl refl) in let r = total_le f g l (λ c m. le c (inr m)) in omega arith

numbered_begun : (k : ℕ) (ws : List Write) (w u : Write) → Numbered k ws → Mem w ws → Mem u ws → w.number ≡ u.number → w.begun ≡ u.begun
numbered_begun k [] w u r mw mu same = absurd mw
numbered_begun k (x ∷ ws) w u r mw mu same = ⊎_elim
    (λ e. ⊎_elim
    (λ f. ap (λ (z : Write). z.begun) (sym e ∙ f))
    (λ q. let is = ap (λ (z : Write). z.number) e in let m = r.0 in let l = numbered_low (suc k) ws u r.1 q in absurd (omega arith))
    mu)
    (λ p. ⊎_elim
    (λ f. let is = ap (λ (z : Write). z.number) f in let m = r.0 in let l = numbered_low (suc k) ws w r.1 p in absurd (omega arith))
    (λ q. numbered_begun (suc k) ws w u r.1 p q same)
    mu)
    mw

-- a store of a desk does not overlap another call of it
write_apart : (rs : List Answered) (r : Answered) (w : Write) (n : ℕ) (fs ls : List (ℕ × ℕ)) → Rising (stamps_in rs) → Mem r rs → r.op ≡ Interfered n fs ls → Mem w (writes_in rs) → (w.ended < r.begun) ⊎ (r.ended < w.begun)
write_apart [] r w n fs ls up mr op mw = absurd mr
write_apart (q ∷ rs) r w n fs ls up mr op mw =
    let tail = rising_tail q.begun (q.ended ∷ stamps_in rs) up in
    let more = rising_tail q.ended (stamps_in rs) tail in ⊎_elim
    (λ (e : q ≡ r). ⊎_elim
    (λ x. absurd (no_write q.op (ap (λ (z : Answered). z.op) e ∙ op) x))
    (λ x. inr (let l = rising_head q.ended (stamps_in rs) tail w.begun (write_stamps rs w x).0 in let s = ap (λ (z : Answered). z.ended) e in omega arith))
    (mem_split (op_writes q.begun q.ended q.op) (writes_in rs) w mw))
    (λ p. ⊎_elim
    (λ x. inl (let a = stored_end q.op x in let l = rising_head q.ended (stamps_in rs) tail r.begun (begin_there rs p) in omega arith))
    (λ x. write_apart rs r w n fs ls more p op x)
    (mem_split (op_writes q.begun q.ended q.op) (writes_in rs) w mw))
    mr
  where
    no_write : (o : Answer) → o ≡ Interfered n fs ls → Mem w (op_writes q.begun q.ended o) → ⊥
    no_write o e x = subst (λ (z : Answer). Mem w (op_writes q.begun q.ended z)) e x

    stored_end : (o : Answer) → Mem w (op_writes q.begun q.ended o) → q.ended ≡ w.ended
    stored_end (Stored m v) x = ap (λ (z : Write). z.ended) (mem_one w (write m v q.begun q.ended true) x)
    stored_end (Viewed xs) x = absurd x
    stored_end (Scanned t xs) x = absurd x
    stored_end (Interfered m xs ys) x = absurd x

    begin_there : (l : List Answered) → Mem r l → Mem r.begun (stamps_in l)
    begin_there [] x = absurd x
    begin_there (y ∷ l) x = ⊎_elim (λ e. inl (ap (λ (z : Answered). z.begun) e)) (λ z. inr (inr (begin_there l z))) x

look_in : (rs : List Answered) (v : ViewRecord) → Mem v (view_records_in rs) → Mem v.begun (stamps_in rs)
look_in [] v m = absurd m
look_in (r ∷ rs) v m = ⊎_elim (λ x. inl (one r.op x)) (λ x. inr (inr (look_in rs v x))) (mem_split (op_view_records r.begun r.ended r.op) (view_records_in rs) v m)
  where
    one : (o : Answer) → Mem v (op_view_records r.begun r.ended o) → r.begun ≡ v.begun
    one (Stored n x) q = absurd q
    one (Viewed xs) q = ap (λ (z : ViewRecord). z.begun) (mem_one v (view_record r.begun r.ended true xs) q)
    one (Scanned t xs) q = ap (λ (z : ViewRecord). z.begun) (mem_one v (view_record r.begun r.ended true xs) q)
    one (Interfered n xs ys) q = ⊎_elim (λ e. ap (λ (z : ViewRecord). z.begun) e) (λ e. ap (λ (z : ViewRecord). z.begun) (mem_one v (view_record r.begun r.ended true ys) e)) q

-- the stores numbered after f up to l are counted
count_between : (p : Write → ℕ) (k : ℕ) (ws : List Write) (f l : ℕ) → Numbered k ws → k ≤ suc f → l < k + length ws → ((w : Write) → Mem w ws → f < w.number → w.number ≤ l → 1 ≤ p w) → l ≤ f + total p ws
count_between p k [] f l num low high each = omega arith
count_between p k (x ∷ ws) f l num low high each = at (dec_le l f) (dec_le k f) (λ g low' each'. count_between p (suc k) ws g l num.1 low' (omega arith) each')
  where
    at : Dec (l ≤ f) → Dec (k ≤ f) → ((g : ℕ) → suc k ≤ suc g → ((w : Write) → Mem w ws → g < w.number → w.number ≤ l → 1 ≤ p w) → l ≤ g + total p ws) → l ≤ f + (p x + total p ws)
    at (yes le) d rest = omega arith
    at (no nle) (yes le) rest = let r = rest f (omega arith) (λ w m a b. each w (inr m) a b) in omega arith
    at (no nle) (no nle') rest =
        let is = num.0 in
        let one = each x (inl refl) (omega arith) (omega arith) in
        let r = rest (suc f) (omega arith) (λ w m a b. each w (inr m) (omega arith) b) in omega arith

total_le_sum : (f g k : Account → ℕ) (l : List Account) → ((c : Account) → Mem c l → f c ≤ g c + k c) → total f l ≤ total g l + total k l
total_le_sum f g k [] le = omega arith
total_le_sum f g k (x ∷ l) le = let a = le x (inl refl) in let r = total_le_sum f g k l (λ c m. le c (inr m)) in omega arith

is_beside : (r : Answered) (w : Write) → r.begun ≤ w.ended → w.begun < r.ended → 1 ≤ beside r w
is_beside r w a b = let e : beside r w ≡ 1 = (λ i. cond (le-ltb w.ended r.begun a i) 0 (cond (nat_lt r.ended w.begun) 0 1)) ∙ (λ i. cond (le-ltb r.ended w.begun (omega arith) i) 0 1) in omega arith

module _ (n : ℕ) (hand : List Account) (h : Settled n hand) (g : ScansSettled hand) (a : Account) (ma : Mem a hand) where
  -- the numbers of a collect, the own component left out
  abbrev W : List (ℕ × ℕ) → ℕ
  W xs = total (λ (c : Account). but a.desk (λ k. (shown_at xs k).0) c.desk) hand

  -- the stores of the other desks
  abbrev pub N : ℕ
  N = total (λ (c : Account). cond (c.desk == a.desk) 0 (length (writes_in c.calls))) hand

  whole_sum : (xs : List (ℕ × ℕ)) → length xs ≡ n → sum xs ≡ W xs + (shown_at xs a.desk).0
  whole_sum xs size =
      let low = hand_low n hand h.desks a ma in
      let b = but_sum a.desk (λ k. (shown_at xs k).0) n hand h.desks low in
      let s = hand_sum xs n hand h.desks (omega arith) in
      let t = ap sum (take_all n xs (omega arith)) in omega arith

  -- what a collect shows was stored
  stored : (v : ViewRecord) → Mem v (view_records_in a.calls) → (c : Account) → Mem c hand → (shown_at v.shown c.desk).0 ≤ length (writes_in c.calls)
  stored v mv c mc = at (dec_le 1 (shown_at v.shown c.desk).0)
    where
      at : Dec (1 ≤ (shown_at v.shown c.desk).0) → (shown_at v.shown c.desk).0 ≤ length (writes_in c.calls)
      at (no nle) = omega arith
      at (yes pos) =
          let len = shown_low v.shown c.desk (omega arith) in
          let s = (h.regular a ma v mv c mc (shown_at v.shown c.desk) (shown_some v.shown c.desk len)).real (omega arith) in
          let l = numbered_mem 1 (writes_in c.calls) s.0 (h.numbered c mc) s.1 in let e = s.2 in omega arith

  below_stores : (v : ViewRecord) → Mem v (view_records_in a.calls) → W v.shown ≤ N
  below_stores v mv = total_le (λ (c : Account). but a.desk (λ k. (shown_at v.shown k).0) c.desk) (λ (c : Account). cond (c.desk == a.desk) 0 (length (writes_in c.calls))) hand (λ c mc. by (c.desk == a.desk) c (stored v mv c mc))
    where
      by : (t : Bool) (c : Account) → (shown_at v.shown c.desk).0 ≤ length (writes_in c.calls) → cond t 0 (shown_at v.shown c.desk).0 ≤ cond t 0 (length (writes_in c.calls))
      by true c le = omega arith
      by false c le = le

  less : (xs ys : List (ℕ × ℕ)) → ((c : Account) → Mem c hand → (shown_at xs c.desk).0 ≤ (shown_at ys c.desk).0) → W xs ≤ W ys
  less xs ys le = total_le (λ (c : Account). but a.desk (λ k. (shown_at xs k).0) c.desk) (λ (c : Account). but a.desk (λ k. (shown_at ys k).0) c.desk) hand (λ c mc. by (c.desk == a.desk) c (le c mc))
    where
      by : (t : Bool) (c : Account) → (shown_at xs c.desk).0 ≤ (shown_at ys c.desk).0 → cond t 0 (shown_at xs c.desk).0 ≤ cond t 0 (shown_at ys c.desk).0
      by true c le = omega arith
      by false c le = le

  -- an unrecorded scan
  one_scan : (r : Answered) (m : ℕ) (fs ls : List (ℕ × ℕ)) → Mem r a.calls → r.op ≡ Interfered m fs ls → Mem (view_record r.begun r.ended true fs) (view_records_in a.calls) → Mem (view_record r.begun r.ended true ls) (view_records_in a.calls) → W fs + m ≤ W ls
  one_scan r m fs ls mr op mf ml =
      let sf = whole_sum fs (h.whole a ma (view_record r.begun r.ended true fs) mf) in
      let sl = whole_sum ls (h.whole a ma (view_record r.begun r.ended true ls) ml) in
      let c = subst HasClimbed op (g.climbed a ma r mr) in
      let o = own (dec_le (suc (shown_at fs a.desk).0) (shown_at ls a.desk).0) in omega arith
    where
      own : Dec (suc (shown_at fs a.desk).0 ≤ (shown_at ls a.desk).0) → (shown_at ls a.desk).0 ≤ (shown_at fs a.desk).0
      own (no nle) = omega arith
      own (yes lt) =
          let low = hand_low n hand h.desks a ma in
          let wf = h.whole a ma (view_record r.begun r.ended true fs) mf in let wl = h.whole a ma (view_record r.begun r.ended true ls) ml in
          let s = (h.regular a ma (view_record r.begun r.ended true ls) ml a ma (shown_at ls a.desk) (shown_some ls a.desk (omega arith))).real (omega arith) in
          let num = s.2 in let beg = s.4 in
          let f = (h.regular a ma (view_record r.begun r.ended true fs) mf a ma (shown_at fs a.desk) (shown_some fs a.desk (omega arith))).fresh s.0 s.1 (omega arith) in
          ⊎_elim (λ x. absurd (omega arith)) (λ x. absurd (omega arith)) (write_apart a.calls r s.0 m fs ls (h.rising a ma) mr op s.1)

  -- and what stood beside it
  one_beside : (r : Answered) (m : ℕ) (fs ls : List (ℕ × ℕ)) → Mem r a.calls → r.op ≡ Interfered m fs ls → Mem (view_record r.begun r.ended true fs) (view_records_in a.calls) → Mem (view_record r.begun r.ended true ls) (view_records_in a.calls) → m ≤ stores_beside hand a r
  one_beside r m fs ls mr op mf ml =
      let climb = one_scan r m fs ls mr op mf ml in
      let t = total_le_sum (λ (c : Account). but a.desk (λ k. (shown_at ls k).0) c.desk) (λ (c : Account). but a.desk (λ k. (shown_at fs k).0) c.desk) (λ (c : Account). cond (c.desk == a.desk) 0 (total (beside r) (writes_in c.calls))) hand
      (λ c mc. by (c.desk == a.desk) c (each c mc)) in omega arith
    where
      by : (t : Bool) (c : Account) → (shown_at ls c.desk).0 ≤ (shown_at fs c.desk).0 + total (beside r) (writes_in c.calls) → cond t 0 (shown_at ls c.desk).0 ≤ cond t 0 (shown_at fs c.desk).0 + cond t 0 (total (beside r) (writes_in c.calls))
      by true c le = omega arith
      by false c le = le

      each : (c : Account) → Mem c hand → (shown_at ls c.desk).0 ≤ (shown_at fs c.desk).0 + total (beside r) (writes_in c.calls)
      each c mc =
          let most = stored (view_record r.begun r.ended true ls) ml c mc in
          count_between (beside r) 1 (writes_in c.calls) (shown_at fs c.desk).0 (shown_at ls c.desk).0 (h.numbered c mc) (omega arith) (omega arith) counted
        where
          low : c.desk < n
          low = hand_low n hand h.desks c mc

          counted : (w : Write) → Mem w (writes_in c.calls) → (shown_at fs c.desk).0 < w.number → w.number ≤ (shown_at ls c.desk).0 → 1 ≤ beside r w
          counted w mw above up_to =
              let wf = h.whole a ma (view_record r.begun r.ended true fs) mf in let wl = h.whole a ma (view_record r.begun r.ended true ls) ml in let lo = low in
              let late = (h.regular a ma (view_record r.begun r.ended true fs) mf c mc (shown_at fs c.desk) (shown_some fs c.desk (omega arith))).fresh w mw above in
              let s = (h.regular a ma (view_record r.begun r.ended true ls) ml c mc (shown_at ls c.desk) (shown_some ls c.desk (omega arith))).real (omega arith) in
              is_beside r w late (begins s (dec_le s.0.number w.number))
            where
              begins : (s : (v : Write) × Mem v (writes_in c.calls) × (v.number ≡ (shown_at ls c.desk).0) × (v.value ≡ (shown_at ls c.desk).1) × (v.begun < r.ended)) → Dec (s.0.number ≤ w.number) → w.begun < r.ended
              begins s (no less) =
                  let t = write_turns 1 c.calls w s.0 (h.rising c mc) (h.numbered c mc) mw s.1 (omega arith) in
                  let l = write_lasts c.calls w (h.rising c mc) mw in let b = s.4 in omega arith
              begins s (yes le) =
                  let e : w.number ≡ s.0.number = (let k = s.2 in omega arith) in
                  let same = numbered_begun 1 (writes_in c.calls) w s.0 (h.numbered c mc) mw s.1 e in let b = s.4 in omega arith

  from_on : (rs : List Answered) → ((r : Answered) → Mem r rs → Mem r a.calls) → ((v : ViewRecord) → Mem v (view_records_in rs) → Mem v (view_records_in a.calls)) → Rising (stamps_in rs) → (xs : List (ℕ × ℕ)) → W xs ≤ N
      → ((v : ViewRecord) → Mem v (view_records_in rs) → (c : Account) → Mem c hand → (shown_at xs c.desk).0 ≤ (shown_at v.shown c.desk).0) → total (λ x. x) (lost_in rs) + W xs ≤ N
  from_on [] sub looks up xs most le = omega arith
  from_on (r ∷ rs) sub looks up xs most le =
      let tail = rising_tail r.begun (r.ended ∷ stamps_in rs) up in
      one r.op refl (λ q m. sub q (inr m)) (λ v m. looks v (mem_right (op_view_records r.begun r.ended r.op) (view_records_in rs) v m)) tail
      (λ ys big below. from_on rs (λ q m. sub q (inr m)) (λ v m. looks v (mem_right (op_view_records r.begun r.ended r.op) (view_records_in rs) v m)) (rising_tail r.ended (stamps_in rs) tail) ys big below)
    where
      one : (o : Answer) → r.op ≡ o → ((q : Answered) → Mem q rs → Mem q a.calls) → ((v : ViewRecord) → Mem v (view_records_in rs) → Mem v (view_records_in a.calls)) → Rising (r.ended ∷ stamps_in rs)
          → ((ys : List (ℕ × ℕ)) → W ys ≤ N → ((v : ViewRecord) → Mem v (view_records_in rs) → (c : Account) → Mem c hand → (shown_at ys c.desk).0 ≤ (shown_at v.shown c.desk).0) → total (λ x. x) (lost_in rs) + W ys ≤ N)
          → total (λ x. x) (op_lost o ++ lost_in rs) + W xs ≤ N
      one (Stored k v) e s l t rest = rest xs most (λ v m. le v (mem_right (op_view_records r.begun r.ended r.op) (view_records_in rs) v m))
      one (Viewed ys) e s l t rest = rest xs most (λ v m. le v (mem_right (op_view_records r.begun r.ended r.op) (view_records_in rs) v m))
      one (Scanned k ys) e s l t rest = rest xs most (λ v m. le v (mem_right (op_view_records r.begun r.ended r.op) (view_records_in rs) v m))
      one (Interfered k fs ls) e s l t rest =
          let first : Mem (view_record r.begun r.ended true fs) (op_view_records r.begun r.ended r.op) = subst (λ (z : Answer). Mem (view_record r.begun r.ended true fs) (op_view_records r.begun r.ended z)) (sym e) (inl refl) in
          let last : Mem (view_record r.begun r.ended true ls) (op_view_records r.begun r.ended r.op) = subst (λ (z : Answer). Mem (view_record r.begun r.ended true ls) (op_view_records r.begun r.ended z)) (sym e) (inr (inl refl)) in
          let first' = mem_left (op_view_records r.begun r.ended r.op) (view_records_in rs) (view_record r.begun r.ended true fs) first in
          let last' = mem_left (op_view_records r.begun r.ended r.op) (view_records_in rs) (view_record r.begun r.ended true ls) last in
          let f = less xs fs (λ c mc. le (view_record r.begun r.ended true fs) first' c mc) in
          let step = one_scan r k fs ls (sub r (inl refl)) e (looks (view_record r.begun r.ended true fs) first') (looks (view_record r.begun r.ended true ls) last') in
          let b = below_stores (view_record r.begun r.ended true ls) (looks (view_record r.begun r.ended true ls) last') in
          let r = rest ls b (λ v m c mc. later v c mc (looks (view_record r.begun r.ended true ls) last') (l v m) (rising_head r.ended (stamps_in rs) t v.begun (look_in rs v m))) in omega arith
        where
          later : (v : ViewRecord) (c : Account) → Mem c hand → Mem (view_record r.begun r.ended true ls) (view_records_in a.calls) → Mem v (view_records_in a.calls) → r.ended < v.begun → (shown_at ls c.desk).0 ≤ (shown_at v.shown c.desk).0
          later v c mc ml mv lt =
              let low = hand_low n hand h.desks c mc in
              let wl = h.whole a ma (view_record r.begun r.ended true ls) ml in let wv = h.whole a ma v mv in
              h.monotone a a ma ma (view_record r.begun r.ended true ls) v ml mv lt c.desk (shown_at ls c.desk) (shown_at v.shown c.desk) (shown_some ls c.desk (omega arith)) (shown_some v.shown c.desk (omega arith))

  pub few_tries : total (λ x. x) (lost_in a.calls) ≤ N
  few_tries =
      let z = no_desks hand in
      let r = from_on a.calls (λ q m. m) (λ v m. m) (h.rising a ma) [] (omega arith) (λ v m c mc. omega arith) in omega arith
    where
      no_desks : (l : List Account) → total (λ (c : Account). but a.desk (λ k. (shown_at [] k).0) c.desk) l ≡ 0
      no_desks [] = refl
      no_desks (x ∷ l) = let r = no_desks l in let o = by (x.desk == a.desk) in omega arith
        where
          by : (t : Bool) → cond {A = ℕ} t 0 0 ≡ 0
          by true = refl
          by false = refl

-- each scan without a record had stores of other desks beside it
pub were_interfered : (n : ℕ) (hand : List Account) → Settled n hand → ScansSettled hand → WereInterfered hand
were_interfered n hand h g a ma r mr = one r.op refl
  where
    there : (v : ViewRecord) → Mem v (op_view_records r.begun r.ended r.op) → Mem v (view_records_in a.calls)
    there v m = within a.calls mr
      where
        within : (rs : List Answered) → Mem r rs → Mem v (view_records_in rs)
        within [] x = absurd x
        within (y ∷ rs) x = ⊎_elim
            (λ e. mem_left (op_view_records y.begun y.ended y.op) (view_records_in rs) v (subst (λ (z : Answered). Mem v (op_view_records z.begun z.ended z.op)) (sym e) m))
            (λ q. mem_right (op_view_records y.begun y.ended y.op) (view_records_in rs) v (within rs q))
            x

    one : (o : Answer) → r.op ≡ o → op_tries o ≤ stores_beside hand a r
    one (Stored k v) e = omega arith
    one (Viewed xs) e = omega arith
    one (Scanned t xs) e = omega arith
    one (Interfered k fs ls) e =
        one_beside n hand h g a ma r k fs ls mr e
        (there (view_record r.begun r.ended true fs) (subst (λ (z : Answer). Mem (view_record r.begun r.ended true fs) (op_view_records r.begun r.ended z)) (sym e) (inl refl)))
        (there (view_record r.begun r.ended true ls) (subst (λ (z : Answer). Mem (view_record r.begun r.ended true ls) (op_view_records r.begun r.ended z)) (sym e) (inr (inl refl))))
