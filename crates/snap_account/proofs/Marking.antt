-- Each kind of step keeps what holds of scans.
use Rattle.std.proofs.Common.{◌≡◌, ℕ, suc, ◌+◌, ◌<◌, ◌≤◌, ◌≢◌, ◌⊎◌, true, false, true≢false, List, [], ◌∷◌, ◌++◌, length, set, sym, refl, ap, ◌∙◌, subst, inl, inr, ⊎_elim, arith, append-nil, length-append}
use mathlib.Core.Option.{some, some-injective, some-ne-none}
use native.Mathlib.Decide.{ℕ_discrete}
use lib.ListN.{get_elem?}
use Rattle.atomic_table.proofs.Lists.{at_set}
use Rattle.snap_account.specs.declared.account.Account.{Account}
use Rattle.snap_account.specs.declared.account.Answered.{Answered}
use Rattle.snap_account.specs.declared.account.Answer.TheVariants.{Stored, Viewed, Scanned, Interfered}
use Rattle.snap_account.specs.declared.account.Doing.TheVariants.{Idle, Begun, Written, Viewing, Scanning}
use Rattle.snap_account.specs.declared.account.Scan.{Scan}
use Rattle.snap_account.specs.Calls.{Mem, Write, ViewRecord, Mark, write, view_record, mark, writes_in, view_records_in, marks_in, open_marks, open_view_records, writes_of, view_records_of, marks_of, latest, in_word}
use Rattle.snap_account.specs.Rule.{Core, Numbered, clock}
use Rattle.snap_account.specs.Marks.{Spans, InTurn, Inside, HasClimbed, Climbs, Marked, sum}
use Rattle.snap_account.proofs.Lists.{mem_split, mem_left, mem_right, mem_one, at_push, at_below}
use Rattle.snap_account.proofs.Accounts.{acct, rec, rec_scan, writes_in-append, marks_in-append, latest-push, look_in_all, write_in_all, middle_in_all, number_le}
use Rattle.snap_account.proofs.Steps.{scan}

off : false ≡ true → ⊥
off e = true≢false (sym e)

-- two stores of one number are one
pub numbered_low : (n : ℕ) (ws : List Write) (w : Write) → Numbered n ws → Mem w ws → n ≤ w.number
numbered_low n [] w r m = absurd m
numbered_low n (x ∷ ws) w r m = ⊎_elim (λ e. let is = ap (λ (z : Write). z.number) e in let k = r.0 in omega arith) (λ q. let k = numbered_low (suc n) ws w r.1 q in omega arith) m

pub numbered_one : (n : ℕ) (ws : List Write) (w u : Write) → Numbered n ws → Mem w ws → Mem u ws → w.number ≡ u.number → w.value ≡ u.value
numbered_one n [] w u r mw mu same = absurd mw
numbered_one n (x ∷ ws) w u r mw mu same = ⊎_elim
    (λ e. ⊎_elim
    (λ f. ap (λ (z : Write). z.value) (sym e ∙ f))
    (λ q. let is = ap (λ (z : Write). z.number) e in let k = r.0 in let l = numbered_low (suc n) ws u r.1 q in absurd (omega arith))
    mu)
    (λ p. ⊎_elim
    (λ f. let is = ap (λ (z : Write). z.number) f in let k = r.0 in let l = numbered_low (suc n) ws w r.1 p in absurd (omega arith))
    (λ q. numbered_one (suc n) ws w u r.1 p q same)
    mu)
    mw

-- a collect that is no older than another and not equal has a larger sum
sum_least : (ps qs : List (ℕ × ℕ)) → length ps ≡ length qs → ((k : ℕ) (p q : ℕ × ℕ) → get_elem? ps k ≡ some p → get_elem? qs k ≡ some q → p.0 ≤ q.0) → sum ps ≤ sum qs
sum_least [] qs size le = omega arith
sum_least (p ∷ ps) [] size le = absurd (omega arith)
sum_least (p ∷ ps) (q ∷ qs) size le = let a = le 0 p q refl refl in let r = sum_least ps qs (omega arith) (λ k x y e f. le (suc k) x y e f) in omega arith

sum_more : (ps qs : List (ℕ × ℕ)) → length ps ≡ length qs → ((k : ℕ) (p q : ℕ × ℕ) → get_elem? ps k ≡ some p → get_elem? qs k ≡ some q → (p.0 ≤ q.0) × (p.0 ≡ q.0 → p ≡ q)) → ps ≢ qs → sum ps < sum qs
sum_more [] [] size each ne = absurd (ne refl)
sum_more [] (q ∷ qs) size each ne = absurd (omega arith)
sum_more (p ∷ ps) [] size each ne = absurd (omega arith)
sum_more (p ∷ ps) (q ∷ qs) size each ne = at (ℕ_discrete p.0 q.0) (each 0 p q refl refl) (λ rest. sum_more ps qs (omega arith) (λ k x y e f. each (suc k) x y e f) rest) (sum_least ps qs (omega arith) (λ k x y e f. (each (suc k) x y e f).0))
  where
    at : Dec (p.0 ≡ q.0) → (p.0 ≤ q.0) × (p.0 ≡ q.0 → p ≡ q) → (ps ≢ qs → sum ps < sum qs) → sum ps ≤ sum qs → sum (p ∷ ps) < sum (q ∷ qs)
    at (yes e) first rest least = let s = rest (λ same. ne (λ i. first.1 e i ∷ same i)) in omega arith
    at (no n) first rest least = let l = first.0 in omega arith

-- what a step of a store does to its desk's stores: a new one has a larger number than the word had, and one that ends now ends at the clock
pub record Advances (t : ℕ) (a a' : Account) : Type 0 where
  pub word : (in_word a).0 ≤ (in_word a').0
  pub each : (w : Write) → Mem w (writes_of a') → ((in_word a).0 < w.number × (w.over ≡ true → ⊥))
      ⊎ ((u : Write) × Mem u (writes_of a) × (u.number ≡ w.number) × (u.begun ≡ w.begun) × (w.over ≡ true → (t ≤ w.ended) ⊎ ((u.over ≡ true) × (u.ended ≡ w.ended))))

module _ (n : ℕ) (b : List Account) (h : Core n b) (g : Marked n b) (k : ℕ) (a : Account) (at : get_elem? b k ≡ some a) (a' : Account) where
  abbrev b' : List Account
  b' = set b k a'

  -- the marks of the account against all as they were
  pub record Marks : Type 0 where
    pub inside : (m : Mark) → Mem m (marks_of a') → Inside n m
    pub spans : (m : Mark) → Mem m (marks_of a') → (j : ℕ) (c : Account) → get_elem? b j ≡ some c → Spans m j c
    pub turns : (m : Mark) → Mem m (marks_of a') → (j : ℕ) (c : Account) → get_elem? b j ≡ some c → (r : Mark) → Mem r (marks_of c) → InTurn r m × InTurn m r
    pub inner : (r s : Mark) → Mem r (marks_of a') → Mem s (marks_of a') → InTurn r s

  -- as a storer, against a middle tick
  abbrev pub Stores : Type 0
  Stores = (m : Mark) → m.middle ≤ clock b → Spans m k a → Spans m k a'

  pub changes : Core n b' → clock b' ≤ clock b + 1 → Marks → Stores → Climbs a' → Marked n b'
  changes h' up ms stores climbs = record {
    inside = λ i x e m q. ⊎_elim
        (λ (t : (i ≡ k) × (a' ≡ x)). ms.inside m (subst (λ (z : Account). Mem m (marks_of z)) (sym t.1) q))
        (λ (t : (i ≢ k) × (get_elem? b i ≡ some x)). g.inside i x t.1 m q)
        (at_set b k i a' x e);
    spans = λ i x e m q j c e'. storer j c e' m (let l = h'.below i x e m.middle (middle_in_all x m q) in omega arith) (λ d ed. marker i x e m q j d ed);
    in_turn = λ i x e r mr j c e' s ns. ⊎_elim
        (λ (t : (i ≡ k) × (a' ≡ x)). let mr' = subst (λ (z : Account). Mem r (marks_of z)) (sym t.1) mr in ⊎_elim
        (λ (t' : (j ≡ k) × (a' ≡ c)). ms.inner r s mr' (subst (λ (z : Account). Mem s (marks_of z)) (sym t'.1) ns))
        (λ (t' : (j ≢ k) × (get_elem? b j ≡ some c)). (ms.turns r mr' j c t'.1 s ns).1)
        (at_set b k j a' c e'))
        (λ (t : (i ≢ k) × (get_elem? b i ≡ some x)). ⊎_elim
        (λ (t' : (j ≡ k) × (a' ≡ c)). (ms.turns s (subst (λ (z : Account). Mem s (marks_of z)) (sym t'.1) ns) i x t.1 r mr).0)
        (λ (t' : (j ≢ k) × (get_elem? b j ≡ some c)). g.in_turn i x t.1 r mr j c t'.1 s ns)
        (at_set b k j a' c e'))
        (at_set b k i a' x e);
    climbs = λ i x e. ⊎_elim
        (λ (t : (i ≡ k) × (a' ≡ x)). subst Climbs t.1 climbs)
        (λ (t : (i ≢ k) × (get_elem? b i ≡ some x)). g.climbs i x t.1)
        (at_set b k i a' x e);
  }
    where
      marker : (i : ℕ) (x : Account) → get_elem? b' i ≡ some x → (m : Mark) → Mem m (marks_of x) → (j : ℕ) (c : Account) → get_elem? b j ≡ some c → Spans m j c
      marker i x e m q j c e' = ⊎_elim
          (λ (t : (i ≡ k) × (a' ≡ x)). ms.spans m (subst (λ (z : Account). Mem m (marks_of z)) (sym t.1) q) j c e')
          (λ (t : (i ≢ k) × (get_elem? b i ≡ some x)). g.spans i x t.1 m q j c e')
          (at_set b k i a' x e)

      storer : (j : ℕ) (c : Account) → get_elem? b' j ≡ some c → (m : Mark) → m.middle ≤ clock b → ((d : Account) → get_elem? b j ≡ some d → Spans m j d) → Spans m j c
      storer j c e m low before = ⊎_elim
          (λ (t : (j ≡ k) × (a' ≡ c)). subst (λ (z : ℕ × Account). Spans m z.0 z.1) (λ i. (sym t.0 i, t.1 i)) (stores m low (subst (λ (z : ℕ). Spans m z a) t.0 (before a (ap (λ i. get_elem? b i) t.0 ∙ at)))))
          (λ (t : (j ≢ k) × (get_elem? b j ≡ some c)). before c t.1)
          (at_set b k j a' c e)

  -- each mark is an old one or a new one
  grown : (New : Mark → Type 0) → ((m : Mark) → Mem m (marks_of a') → Mem m (marks_of a) ⊎ New m) → ((m : Mark) → New m → Inside n m)
      → ((m : Mark) → New m → (j : ℕ) (c : Account) → get_elem? b j ≡ some c → Spans m j c)
      → ((m : Mark) → New m → (j : ℕ) (c : Account) → get_elem? b j ≡ some c → (r : Mark) → Mem r (marks_of c) → InTurn r m × InTurn m r)
      → ((r s : Mark) → New r → New s → InTurn r s) → Marks
  grown New cases inside spans turns inner = record {
    inside = λ m q. ⊎_elim (λ x. g.inside k a at m x) (λ x. inside m x) (cases m q);
    spans = λ m q j c e. ⊎_elim (λ x. g.spans k a at m x j c e) (λ x. spans m x j c e) (cases m q);
    turns = λ m q j c e r mr. ⊎_elim (λ x. (g.in_turn j c e r mr k a at m x, g.in_turn k a at m x j c e r mr)) (λ x. turns m x j c e r mr) (cases m q);
    inner = λ r s mr ns. ⊎_elim
        (λ x. ⊎_elim (λ y. g.in_turn k a at r x k a at s y) (λ y. (turns s y k a at r x).0) (cases s ns))
        (λ x. ⊎_elim (λ y. (turns r x k a at s y).1) (λ y. inner r s x y) (cases s ns))
        (cases r mr);
  }

  -- no mark is new
  pub old_marks : ((m : Mark) → Mem m (marks_of a') → Mem m (marks_of a)) → Marks
  old_marks old = grown (λ _. ⊥) (λ m q. inl (old m q)) (λ m x. absurd x) (λ m x. absurd x) (λ m x. absurd x) (λ r s x. absurd x)

  pub same_spans : writes_of a ≡ writes_of a' → in_word a ≡ in_word a' → Stores
  same_spans same word m low s = record {
    known = λ p e. let o = s.known p e in let w = ap (λ (z : ℕ × ℕ). z.0) word in omega arith;
    began = λ p e w mw is. s.began p e w (subst (λ (l : List Write). Mem w l) (sym same) mw) is;
    later = s.later;
    fresh = λ q e w mw over lt. s.fresh q e w (subst (λ (l : List Write). Mem w l) (sym same) mw) over lt;
  }

  pub advance : Advances (clock b) a a' → Stores
  advance adv m low s = record {
    known = λ p e. let o = s.known p e in let w = adv.word in omega arith;
    began = λ p e w mw is. let o = s.known p e in ⊎_elim
        (λ x. let l = x.0 in absurd (omega arith))
        (λ (u : (u : Write) × Mem u (writes_of a) × (u.number ≡ w.number) × (u.begun ≡ w.begun) × (w.over ≡ true → (clock b ≤ w.ended) ⊎ ((u.over ≡ true) × (u.ended ≡ w.ended)))).
        let l = s.began p e u.0 u.1 (u.2 ∙ is) in let x = u.3 in omega arith)
        (adv.each w mw);
    later = s.later;
    fresh = λ q e w mw over lt. ⊎_elim
        (λ x. absurd (x.1 over))
        (λ (u : (u : Write) × Mem u (writes_of a) × (u.number ≡ w.number) × (u.begun ≡ w.begun) × (w.over ≡ true → (clock b ≤ w.ended) ⊎ ((u.over ≡ true) × (u.ended ≡ w.ended)))).
        ⊎_elim
        (λ late. absurd (omega arith))
        (λ o. let x = o.1 in let l = s.fresh q e u.0 u.1 o.0 (omega arith) in let y = u.2 in omega arith)
        (u.4 over))
        (adv.each w mw);
  }

  -- a new mark at the clock, with a collect that was read
  abbrev pub Fresh : ℕ → ViewRecord → Mark → Type 0
  Fresh b0 v m = m ≡ mark b0 (clock b) 0 false v.shown []

  pub fresh_marks : (b0 : ℕ) (v : ViewRecord) → Mem v (view_records_of a) → v.begun ≡ b0 → length v.shown ≡ n → ((m : Mark) → Mem m (marks_of a') → Mem m (marks_of a) ⊎ Fresh b0 v m) → Marks
  fresh_marks b0 v mv is whole cases = grown (Fresh b0 v) cases
      (λ m x. subst (Inside n) (sym x) (record { begins = (let l = h.below k a at v.begun (look_in_all a v mv) in omega arith); ends = λ over. absurd (off over); whole = whole }))
      (λ m x j c e. subst (λ (z : Mark). Spans z j c) (sym x) (record {
        known = λ p at_p. (h.sees k a at v mv j c e p at_p).old;
        began = λ p at_p w mw is_p. h.below j c e w.begun (write_in_all c w mw);
        later = λ p q at_p at_q. absurd (some-ne-none q (sym at_q));
        fresh = λ q at_q. absurd (some-ne-none q (sym at_q));
      }))
      (λ m x j c e r mr. subst (λ (z : Mark). InTurn r z × InTurn z r) (sym x) (
        (λ lt i p q at_p at_q. absurd (some-ne-none q (sym at_q))),
        λ lt. let l = h.below j c e r.middle (middle_in_all c r mr) in absurd (omega arith),
      ))
      (λ r s x y lt. let u = ap (λ (z : Mark). z.middle) x in let w = ap (λ (z : Mark). z.middle) y in absurd (omega arith))

-- a scan that has read two unequal collects
module _ (n : ℕ) (b : List Account) (h : Core n b) (g : Marked n b) (k d : ℕ) (rs : List Answered) (t : ℕ) (s : Scan) (at : get_elem? b k ≡ some (acct d rs (Scanning s) t)) where
  abbrev pub a : Account
  a = acct d rs (Scanning s) t

  abbrev pub open_mark : Mark
  open_mark = mark s.begun s.middle 0 false s.before s.since

  pub open_there : Mem open_mark (marks_of a)
  open_there = mem_right (marks_in rs) (open_mark ∷ []) open_mark (inl refl)

  some_account : (l : List Account) (i : ℕ) → i < length l → (x : Account) × (get_elem? l i ≡ some x)
  some_account [] i lt = absurd (omega arith)
  some_account (x ∷ l) Rattle.std.proofs.Common.zero lt = (x, refl)
  some_account (x ∷ l) (suc i) lt = some_account l i (omega arith)

  pub more : length s.since ≡ n → s.before ≢ s.since → sum s.before < sum s.since
  more all ne = sum_more s.before s.since (let w = (g.inside k a at open_mark open_there).whole in omega arith) each ne
    where
      one : (i : ℕ) (p q : ℕ × ℕ) → get_elem? s.before i ≡ some p → get_elem? s.since i ≡ some q → ((c : Account) × (get_elem? b i ≡ some c)) → (p.0 ≤ q.0) × (p.0 ≡ q.0 → p ≡ q)
      one i p q at_p at_q c =
          let v1 : ViewRecord = view_record s.begun 0 false s.before in let v2 : ViewRecord = view_record s.begun 0 false s.since in
          let m1 : Mem v1 (view_records_of a) = mem_right (view_records_in rs) (open_view_records (Scanning s)) v1 (inr (inl refl)) in
          let m2 : Mem v2 (view_records_of a) = mem_right (view_records_in rs) (open_view_records (Scanning s)) v2 (inr (inr (inl refl))) in
          let s1 = h.sees k a at v1 m1 i c.0 c.1 p at_p in
          let s2 = h.sees k a at v2 m2 i c.0 c.1 q at_q in
          ((g.spans k a at open_mark open_there i c.0 c.1).later p q at_p at_q, λ same. value same (ℕ_discrete p.0 0) s1 s2)
        where
          value : p.0 ≡ q.0 → Dec (p.0 ≡ 0) → Rattle.snap_account.specs.Rule.Sees (view_record s.begun 0 false s.before) p c.0 → Rattle.snap_account.specs.Rule.Sees (view_record s.begun 0 false s.since) q c.0 → p ≡ q
          value same (yes none) s1 s2 = let x = s1.blank none in let y = s2.blank (omega arith) in let z : p.1 ≡ q.1 = omega arith in λ i. (same i, z i)
          value same (no some_there) s1 s2 =
              let w = s1.real (omega arith) in let u = s2.real (omega arith) in
              let e : w.0.number ≡ u.0.number = w.2 ∙ same ∙ sym u.2 in
              let z : p.1 ≡ q.1 = sym w.3 ∙ numbered_one 1 (writes_of c.0) w.0 u.0 (h.own i c.0 c.1).numbered w.1 u.1 e ∙ u.3 in λ i. (same i, z i)

      each : (i : ℕ) (p q : ℕ × ℕ) → get_elem? s.before i ≡ some p → get_elem? s.since i ≡ some q → (p.0 ≤ q.0) × (p.0 ≡ q.0 → p ≡ q)
      each i p q at_p at_q = let low = at_below s.since i q at_q in let size = h.size in one i p q at_p at_q (some_account b i (omega arith))

-- the steps
module _ (n : ℕ) (b : List Account) (h : Core n b) (g : Marked n b) (k d : ℕ) (rs : List Answered) (t : ℕ) where
  answered_push : (r : Answered) → ((q : Answered) → Mem q rs → HasClimbed q.op) → HasClimbed r.op → (q : Answered) → Mem q (rs ++ r ∷ []) → HasClimbed q.op
  answered_push r old new q m = ⊎_elim (λ x. old q x) (λ x. subst (λ (z : Answered). HasClimbed z.op) (mem_one q r x) new) (mem_split rs (r ∷ []) q m)

  -- kind 1
  pub begins_store : (u : ℕ) → get_elem? b k ≡ some (acct d rs Idle t) → Core n (set b k (acct d rs (Begun u) (t + 1))) → clock (set b k (acct d rs (Begun u) (t + 1))) ≤ clock b + 1 → Marked n (set b k (acct d rs (Begun u) (t + 1)))
  begins_store u at h' up =
      let a = acct d rs Idle t in let a' = acct d rs (Begun u) (t + 1) in
      changes n b h g k a at a' h' up (old_marks n b h g k a at a' (λ m q. q)) (same_spans n b h g k a at a' refl refl) (record { answered = (g.climbs k a at).answered; doing = tt })

  -- kind 2
  pub writes : (b0 m v : ℕ) → get_elem? b k ≡ some (acct d rs (Begun b0) t) → m ≡ (latest (0, 0) rs).0 + 1 → Core n (set b k (acct d rs (Written b0 m v) t)) → clock (set b k (acct d rs (Written b0 m v) t)) ≤ clock b + 1 → Marked n (set b k (acct d rs (Written b0 m v) t))
  writes b0 m v at next h' up =
      let a = acct d rs (Begun b0) t in let a' = acct d rs (Written b0 m v) t in
      let w0 = write m v b0 0 false in
      changes n b h g k a at a' h' up (old_marks n b h g k a at a' (λ x q. q)) (advance n b h g k a at a' (record {
        word = omega arith;
        each = λ w mw. ⊎_elim
            (λ q. inr (w, mem_left (writes_in rs) [] w q, refl, refl, λ over. inr (over, refl)))
            (λ q. let e = mem_one w w0 q in let f = ap (λ (z : Write). z.number) e in inl (omega arith, λ over. off (ap (λ (z : Write). z.over) e ∙ over)))
            (mem_split (writes_in rs) (w0 ∷ []) w mw);
      })) (record { answered = (g.climbs k a at).answered; doing = tt })

  -- kind 3
  pub ends_store : (b0 m v : ℕ) → get_elem? b k ≡ some (acct d rs (Written b0 m v) t) → (let last = rec b0 (clock b) (Stored m v) in let a' = acct d (rs ++ last ∷ []) Idle (t + 1) in
      Core n (set b k a') → clock (set b k a') ≤ clock b + 1 → Marked n (set b k a'))
  ends_store b0 m v at h' up =
      let a = acct d rs (Written b0 m v) t in
      let last = rec b0 (clock b) (Stored m v) in
      let a' = acct d (rs ++ last ∷ []) Idle (t + 1) in
      let w0 = write m v b0 0 false in
      let w1 = write m v b0 (clock b) true in
      let writes' : writes_of a' ≡ writes_in rs ++ w1 ∷ [] = append-nil (writes_in (rs ++ last ∷ [])) ∙ writes_in-append rs (last ∷ []) in
      let marks' : marks_of a' ≡ marks_of a = ap (λ (ms : List Mark). ms ++ []) (marks_in-append rs (last ∷ []) ∙ append-nil (marks_in rs)) in
      let word' : in_word a' ≡ (m, v) = latest-push (0, 0) rs last in
      changes n b h g k a at a' h' up (old_marks n b h g k a at a' (λ x q. subst (λ (l : List Mark). Mem x l) marks' q)) (advance n b h g k a at a' (record {
        word = let e = ap (λ (q : ℕ × ℕ). q.0) word' in omega arith;
        each = λ w mw. ⊎_elim
            (λ q. inr (w, mem_left (writes_in rs) (w0 ∷ []) w q, refl, refl, λ over. inr (over, refl)))
            (λ q. let e = mem_one w w1 q in inr (w0, mem_right (writes_in rs) (w0 ∷ []) w0 (inl refl), ap (λ (z : Write). z.number) e, ap (λ (z : Write). z.begun) e, λ over. inl (let f = ap (λ (z : Write). z.ended) e in omega arith)))
            (mem_split (writes_in rs) (w1 ∷ []) w (subst (λ (l : List Write). Mem w l) writes' mw));
      })) (record { answered = answered_push last (g.climbs k a at).answered tt; doing = tt })

  -- kind 4
  pub begins_view : (u : ℕ) → get_elem? b k ≡ some (acct d rs Idle t) → (let a' = acct d rs (Viewing u []) (t + 1) in Core n (set b k a') → clock (set b k a') ≤ clock b + 1 → Marked n (set b k a'))
  begins_view u at h' up =
      let a = acct d rs Idle t in let a' = acct d rs (Viewing u []) (t + 1) in
      changes n b h g k a at a' h' up (old_marks n b h g k a at a' (λ m q. q)) (same_spans n b h g k a at a' refl refl) (record { answered = (g.climbs k a at).answered; doing = tt })

  -- kind 5
  pub reads : (b0 : ℕ) (xs ys : List (ℕ × ℕ)) → get_elem? b k ≡ some (acct d rs (Viewing b0 xs) t) → (let a' = acct d rs (Viewing b0 ys) t in Core n (set b k a') → clock (set b k a') ≤ clock b + 1 → Marked n (set b k a'))
  reads b0 xs ys at h' up =
      let a = acct d rs (Viewing b0 xs) t in let a' = acct d rs (Viewing b0 ys) t in
      changes n b h g k a at a' h' up (old_marks n b h g k a at a' (λ m q. q)) (same_spans n b h g k a at a' refl refl) (record { answered = (g.climbs k a at).answered; doing = tt })

  -- kind 6 of a collect
  pub ends_view : (b0 u : ℕ) (xs : List (ℕ × ℕ)) → get_elem? b k ≡ some (acct d rs (Viewing b0 xs) t) → (let a' = acct d (rs ++ rec b0 u (Viewed xs) ∷ []) Idle (t + 1) in Core n (set b k a') → clock (set b k a') ≤ clock b + 1 → Marked n (set b k a'))
  ends_view b0 u xs at h' up =
      let a = acct d rs (Viewing b0 xs) t in
      let last = rec b0 u (Viewed xs) in
      let a' = acct d (rs ++ last ∷ []) Idle (t + 1) in
      let marks' : marks_of a' ≡ marks_of a = ap (λ (ms : List Mark). ms ++ []) (marks_in-append rs (last ∷ []) ∙ append-nil (marks_in rs)) in
      changes n b h g k a at a' h' up (old_marks n b h g k a at a' (λ m q. subst (λ (l : List Mark). Mem m l) marks' q))
      (same_spans n b h g k a at a' (sym (append-nil (writes_in (rs ++ last ∷ [])) ∙ writes_in-append rs (last ∷ []))) (sym (latest-push (0, 0) rs last)))
      (record { answered = answered_push last (g.climbs k a at).answered tt; doing = tt })

  -- kind 9, the first
  pub middles_first : (b0 : ℕ) (xs : List (ℕ × ℕ)) → get_elem? b k ≡ some (acct d rs (Viewing b0 xs) t) → length xs ≡ n
      → (let a' = acct d rs (Scanning (scan b0 xs (clock b ∷ []) (clock b) xs [])) (t + 1) in Core n (set b k a') → clock (set b k a') ≤ clock b + 1 → Marked n (set b k a'))
  middles_first b0 xs at all h' up =
      let a = acct d rs (Viewing b0 xs) t in
      let a' = acct d rs (Scanning (scan b0 xs (clock b ∷ []) (clock b) xs [])) (t + 1) in
      let v0 : ViewRecord = view_record b0 0 false xs in
      let there : Mem v0 (view_records_of a) = mem_right (view_records_in rs) (v0 ∷ []) v0 (inl refl) in
      changes n b h g k a at a' h' up
      (fresh_marks n b h g k a at a' b0 v0 there refl all (λ m q. ⊎_elim
      (λ x. inl (mem_left (marks_in rs) [] m x))
      (λ x. inr (sym (mem_one m (mark b0 (clock b) 0 false xs []) x)))
      (mem_split (marks_in rs) (mark b0 (clock b) 0 false xs [] ∷ []) m q)))
      (same_spans n b h g k a at a' refl refl)
      (record { answered = (g.climbs k a at).answered; doing = omega arith })

  -- kind 9, a later one, of a scan whose two last collects are not equal
  pub middles : (s : Scan) → get_elem? b k ≡ some (acct d rs (Scanning s) t) → length s.since ≡ n → s.before ≢ s.since
      → (let a' = acct d rs (Scanning (scan s.begun s.first (s.middles ++ clock b ∷ []) (clock b) s.since [])) (t + 1) in Core n (set b k a') → clock (set b k a') ≤ clock b + 1 → Marked n (set b k a'))
  middles s at all ne h' up =
      let a = acct d rs (Scanning s) t in
      let a' = acct d rs (Scanning (scan s.begun s.first (s.middles ++ clock b ∷ []) (clock b) s.since [])) (t + 1) in
      let v0 : ViewRecord = view_record s.begun 0 false s.since in
      let there : Mem v0 (view_records_of a) = mem_right (view_records_in rs) (open_view_records (Scanning s)) v0 (inr (inr (inl refl))) in
      changes n b h g k a at a' h' up
      (fresh_marks n b h g k a at a' s.begun v0 there refl all (λ m q. ⊎_elim
      (λ x. inl (mem_left (marks_in rs) (open_marks (Scanning s)) m x))
      (λ x. inr (sym (mem_one m (mark s.begun (clock b) 0 false s.since []) x)))
      (mem_split (marks_in rs) (mark s.begun (clock b) 0 false s.since [] ∷ []) m q)))
      (same_spans n b h g k a at a' refl refl)
      (record { answered = (g.climbs k a at).answered; doing = let l = more n b h g k d rs t s at all ne in let c = (g.climbs k a at).doing in let z = length-append s.middles (clock b ∷ []) in omega arith })

  -- kind 10
  pub reads_again : (s : Scan) (c0 : Account) → get_elem? b k ≡ some (acct d rs (Scanning s) t) → get_elem? b (length s.since) ≡ some c0
      → (let a' = acct d rs (Scanning (scan s.begun s.first s.middles s.middle s.before (s.since ++ in_word c0 ∷ []))) t in Core n (set b k a') → clock (set b k a') ≤ clock b + 1 → Marked n (set b k a'))
  reads_again s c0 at at0 h' up =
      let a = acct d rs (Scanning s) t in
      let ys = s.since ++ in_word c0 ∷ [] in
      let a' = acct d rs (Scanning (scan s.begun s.first s.middles s.middle s.before ys)) t in
      let m0 : Mark = mark s.begun s.middle 0 false s.before s.since in
      let m1 : Mark = mark s.begun s.middle 0 false s.before ys in
      let there : Mem m0 (marks_of a) = mem_right (marks_in rs) (m0 ∷ []) m0 (inl refl) in
      changes n b h g k a at a' h' up
      (grown n b h g k a at a' (λ m. m ≡ m1) (λ m q. ⊎_elim (λ x. inl (mem_left (marks_in rs) (m0 ∷ []) m x)) (λ x. inr (sym (mem_one m m1 x))) (mem_split (marks_in rs) (m1 ∷ []) m q))
      (λ m x. let i = g.inside k a at m0 there in subst (Inside n) (sym x) (record { begins = i.begins; ends = λ over. absurd (off over); whole = i.whole }))
      (λ m x j c e. subst (λ (z : Mark). Spans z j c) (sym x) (let o = g.spans k a at m0 there j c e in record {
        known = o.known;
        began = o.began;
        later = λ p q at_p at_q. ⊎_elim
            (λ old. o.later p q at_p old)
            (λ (y : (j ≡ length s.since) × (in_word c0 ≡ q)).
            let l = (g.spans k a at m0 there (length s.since) c0 at0).known p (ap (λ z. get_elem? s.before z) (sym y.0) ∙ at_p) in let z = ap (λ (z : ℕ × ℕ). z.0) y.1 in omega arith)
            (at_push s.since (in_word c0) q j at_q);
        fresh = λ q at_q w mw over lt. ⊎_elim
            (λ old. o.fresh q old w mw over lt)
            (λ (y : (j ≡ length s.since) × (in_word c0 ≡ q)).
            let one : c ≡ c0 = some-injective _ _ (sym e ∙ ap (λ z. get_elem? b z) y.0 ∙ at0) in
            let le = number_le n (length s.since) c0 (h.own (length s.since) c0 at0) w (subst (λ (z : Account). Mem w (writes_of z)) one mw) in
            let z = ap (λ (z : ℕ × ℕ). z.0) y.1 in omega arith)
            (at_push s.since (in_word c0) q j at_q);
      }))
      (λ m x j c e r mr. subst (λ (z : Mark). InTurn r z × InTurn z r) (sym x) (
        (λ lt i p q at_p at_q. ⊎_elim
            (λ old. g.in_turn j c e r mr k a at m0 there lt i p q at_p old)
            (λ (y : (i ≡ length s.since) × (in_word c0 ≡ q)).
            let l = (g.spans j c e r mr (length s.since) c0 at0).known p (ap (λ z. get_elem? r.before z) (sym y.0) ∙ at_p) in let z = ap (λ (z : ℕ × ℕ). z.0) y.1 in omega arith)
            (at_push s.since (in_word c0) q i at_q)),
        g.in_turn k a at m0 there j c e r mr,
      ))
      (λ r u x y lt. let e = ap (λ (z : Mark). z.middle) x in let f = ap (λ (z : Mark). z.middle) y in absurd (omega arith)))
      (same_spans n b h g k a at a' refl refl)
      (record { answered = (g.climbs k a at).answered; doing = (g.climbs k a at).doing })

  -- kind 6 of a scan whose two last collects are equal
  pub ends_scan : (s : Scan) → get_elem? b k ≡ some (acct d rs (Scanning s) t) → s.before ≡ s.since
      → (let a' = acct d (rs ++ rec_scan s (clock b) (Scanned s.middle s.since) ∷ []) Idle (t + 1) in Core n (set b k a') → clock (set b k a') ≤ clock b + 1 → Marked n (set b k a'))
  ends_scan s at same h' up =
      let a = acct d rs (Scanning s) t in
      let last = rec_scan s (clock b) (Scanned s.middle s.since) in
      let a' = acct d (rs ++ last ∷ []) Idle (t + 1) in
      let m0 : Mark = mark s.begun s.middle 0 false s.before s.since in
      let m1 : Mark = mark s.begun s.middle (clock b) true s.since s.since in
      let there : Mem m0 (marks_of a) = mem_right (marks_in rs) (m0 ∷ []) m0 (inl refl) in
      let marks' : marks_of a' ≡ marks_in rs ++ m1 ∷ [] = append-nil (marks_in (rs ++ last ∷ [])) ∙ marks_in-append rs (last ∷ []) in
      changes n b h g k a at a' h' up
      (grown n b h g k a at a' (λ m. m ≡ m1) (λ m q. ⊎_elim (λ x. inl (mem_left (marks_in rs) (m0 ∷ []) m x)) (λ x. inr (sym (mem_one m m1 x))) (mem_split (marks_in rs) (m1 ∷ []) m (subst (λ (l : List Mark). Mem m l) marks' q)))
      (λ m x. let i = g.inside k a at m0 there in subst (Inside n) (sym x) (record { begins = i.begins; ends = λ over. h.below k a at s.middle (middle_in_all a m0 there); whole = ap length (sym same) ∙ i.whole }))
      (λ m x j c e. subst (λ (z : Mark). Spans z j c) (sym x) (subst (λ (xs : List (ℕ × ℕ)). Spans (mark s.begun s.middle (clock b) true xs s.since) j c) same
      (let o = g.spans k a at m0 there j c e in record { known = o.known; began = o.began; later = o.later; fresh = o.fresh })))
      (λ m x j c e r mr. subst (λ (z : Mark). InTurn r z × InTurn z r) (sym x) (
        g.in_turn j c e r mr k a at m0 there,
        subst (λ (xs : List (ℕ × ℕ)). InTurn (mark s.begun s.middle (clock b) true xs s.since) r) same (g.in_turn k a at m0 there j c e r mr),
      ))
      (λ r u x y lt. let e = ap (λ (z : Mark). z.middle) x in let f = ap (λ (z : Mark). z.middle) y in absurd (omega arith)))
      (same_spans n b h g k a at a' (sym (append-nil (writes_in (rs ++ last ∷ [])) ∙ writes_in-append rs (last ∷ []))) (sym (latest-push (0, 0) rs last)))
      (record { answered = answered_push last (g.climbs k a at).answered tt; doing = tt })

  -- kind 11 of a scan whose two last collects are not equal
  pub gives_up : (s : Scan) → get_elem? b k ≡ some (acct d rs (Scanning s) t) → length s.since ≡ n → s.before ≢ s.since
      → (let a' = acct d (rs ++ rec_scan s (clock b) (Interfered (length s.middles) s.first s.since) ∷ []) Idle (t + 1) in Core n (set b k a') → clock (set b k a') ≤ clock b + 1 → Marked n (set b k a'))
  gives_up s at all ne h' up =
      let a = acct d rs (Scanning s) t in
      let last = rec_scan s (clock b) (Interfered (length s.middles) s.first s.since) in
      let a' = acct d (rs ++ last ∷ []) Idle (t + 1) in
      let marks' : marks_of a' ≡ marks_in rs = append-nil (marks_in (rs ++ last ∷ [])) ∙ marks_in-append rs (last ∷ []) ∙ append-nil (marks_in rs) in
      changes n b h g k a at a' h' up (old_marks n b h g k a at a' (λ m q. mem_left (marks_in rs) (open_marks (Scanning s)) m (subst (λ (l : List Mark). Mem m l) marks' q)))
      (same_spans n b h g k a at a' (sym (append-nil (writes_in (rs ++ last ∷ [])) ∙ writes_in-append rs (last ∷ []))) (sym (latest-push (0, 0) rs last)))
      (record { answered = answered_push last (g.climbs k a at).answered (let l = more n b h g k d rs t s at all ne in let c = (g.climbs k a at).doing in omega arith); doing = tt })
