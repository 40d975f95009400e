-- Each kind of step of a collect or a scan keeps what holds of all accounts together.
use Rattle.std.proofs.Common.{◌≡◌, ℕ, ◌+◌, ◌<◌, ◌≤◌, ◌⊎◌, true, false, true≢false, List, [], ◌∷◌, ◌++◌, length, map, set, sym, refl, ap, ◌∙◌, subst, inl, inr, ⊎_elim, arith, append_assoc, append-nil}
use mathlib.Core.Option.{some, some-injective, some-ne-none}
use lib.ListN.{get_elem?}
use Rattle.std.proofs.lemmas.List.{map-append}
use Rattle.snap_account.specs.declared.account.Account.{Account}
use Rattle.snap_account.specs.declared.account.Answered.{Answered}
use Rattle.snap_account.specs.declared.account.Answer.TheVariants.{Viewed, Scanned, Interfered}
use Rattle.snap_account.specs.declared.account.Doing.TheVariants.{Idle, Viewing, Scanning}
use Rattle.snap_account.specs.declared.account.Scan.{Scan}
use Rattle.snap_account.specs.Calls.{Mem, Write, ViewRecord, Mark, view_record, mark, writes_in, view_records_in, stamps_in, marks_in, op_view_records, open_view_records, open_marks, writes_of, view_records_of, stamps_of, marks_of, middles_of, all_stamps, in_word}
use Rattle.snap_account.specs.Rule.{Own, Sees, After, Core, clock, Rising, Numbered}
use Rattle.snap_account.proofs.Lists.{mem_split, mem_left, mem_right, mem_one, at_push}
use Rattle.snap_account.proofs.Accounts.{acct, rec, rec_scan, writes_in-append, view_records_in-append, stamps_in-append, marks_in-append, latest-push, word_there, word_blank, look_in_all, write_in_all, number_le}
use Rattle.snap_account.proofs.Core.{Views, Follows, Inner, below_ticked, below_quiet, apart_ticked, apart_quiet, changes, same_stores}
use Rattle.snap_account.proofs.Ticks.{Ticks, ends_tick, middle_tick}

off : false ≡ true → ⊥
off e = true≢false (sym e)

module _ (n : ℕ) (b : List Account) (h : Core n b) (k : ℕ) (a : Account) (at : get_elem? b k ≡ some a) (a' : Account) where
  abbrev pub All : Type 0
  All = Views n b h k a at a' × Follows n b h k a at a' × Inner n b h k a at a'

  -- each look is an old one or a new one
  grown : (New : ViewRecord → Type 0) → ((v : ViewRecord) → Mem v (view_records_of a') → Mem v (view_records_of a) ⊎ New v)
      → ((v : ViewRecord) → New v → (j : ℕ) (c : Account) → get_elem? b j ≡ some c → (p : ℕ × ℕ) → get_elem? v.shown j ≡ some p → Sees v p c)
      → ((v : ViewRecord) → New v → (j : ℕ) (c : Account) → get_elem? b j ≡ some c → (r : ViewRecord) → Mem r (view_records_of c) → After r v × After v r)
      → ((r s : ViewRecord) → New r → New s → After r s)
      → All
  grown New cases seen followed self = (
    (λ v m j c e p at_p. ⊎_elim (λ x. h.sees k a at v x j c e p at_p) (λ x. seen v x j c e p at_p) (cases v m)),
    (λ v m j c e r mr. ⊎_elim (λ x. (h.after j c e r mr k a at v x, h.after k a at v x j c e r mr)) (λ x. followed v x j c e r mr) (cases v m)),
    (λ r s mr ms. ⊎_elim
        (λ x. ⊎_elim (λ y. h.after k a at r x k a at s y) (λ y. (followed s y k a at r x).0) (cases s ms))
        (λ x. ⊎_elim (λ y. (followed r x k a at s y).1) (λ y. self r s x y) (cases s ms))
        (cases r mr)),
  )

  -- a look that has read nothing
  abbrev pub Empty : ViewRecord → Type 0
  Empty v = (v.over ≡ false) × (v.shown ≡ [])

  pub empties : ((v : ViewRecord) → Mem v (view_records_of a') → Mem v (view_records_of a) ⊎ Empty v) → All
  empties cases = grown Empty cases
      (λ v x j c e p at_p. absurd (some-ne-none p (sym (ap (λ l. get_elem? l j) (sym x.1) ∙ at_p))))
      (λ v x j c e r mr. ((λ _ _ i p q _ at_q. absurd (some-ne-none q (sym (ap (λ l. get_elem? l i) (sym x.1) ∙ at_q)))), λ over. absurd (off (sym x.0 ∙ over))))
      (λ r s x y over. absurd (off (sym x.0 ∙ over)))

  -- an open look of the account that reads one word more
  abbrev pub Reads : Account → ViewRecord → Type 0
  Reads c0 v = (u : ViewRecord) × Mem u (view_records_of a) × (u.over ≡ false) × (get_elem? b (length u.shown) ≡ some c0) × (v ≡ view_record u.begun 0 false (u.shown ++ in_word c0 ∷ []))

  pub reads_one : (c0 : Account) → ((v : ViewRecord) → Mem v (view_records_of a') → Mem v (view_records_of a) ⊎ Reads c0 v) → All
  reads_one c0 cases = grown (Reads c0) cases
      (λ v x j c e p at_p. let u = x.0 in ⊎_elim
      (λ q. let s = h.sees k a at u x.1 j c e p q in subst (λ (z : ViewRecord). Sees z p c) (sym x.4) (record { old = s.old; fresh = s.fresh; blank = s.blank; real = λ pos. let r = s.real pos in (r.0, r.1, r.2, r.3, λ over. absurd (off over)) }))
      (λ (q : (j ≡ length u.shown) × (in_word c0 ≡ p)).
      let is : c0 ≡ c = some-injective _ _ (sym x.3 ∙ ap (λ i. get_elem? b i) (sym q.0) ∙ e) in
      subst (λ (z : (ℕ × ℕ) × Account). Sees v z.0 z.1) (λ i. (q.1 i, is i)) (subst (λ (z : ViewRecord). Sees z (in_word c0) c0) (sym x.4) (record {
        old = omega arith;
        fresh = λ w m lt over. let le = number_le n (length u.shown) c0 (h.own (length u.shown) c0 x.3) w m in absurd (omega arith);
        blank = word_blank n (length u.shown) c0 (h.own (length u.shown) c0 x.3);
        real = λ pos. ⊎_elim (λ (z : (in_word c0).0 ≡ 0). absurd (omega arith)) (λ (r : (w : Write) × Mem w (writes_of c0) × (w.number ≡ (in_word c0).0) × (w.value ≡ (in_word c0).1)). (r.0, r.1, r.2, r.3, λ over. absurd (off over))) (word_there c0);
      })))
      (at_push u.shown (in_word c0) p j (ap (λ (z : ViewRecord). get_elem? z.shown j) (sym x.4) ∙ at_p)))
      (λ v x j c e r mr. let u = x.0 in subst (λ (z : ViewRecord). After r z × After z r) (sym x.4) (
        (λ over lt i p q at_p at_q. ⊎_elim
            (λ y. h.after j c e r mr k a at u x.1 over lt i p q at_p y)
            (λ (y : (i ≡ length u.shown) × (in_word c0 ≡ q)). let le = (h.sees j c e r mr (length u.shown) c0 x.3 p (ap (λ z. get_elem? r.shown z) (sym y.0) ∙ at_p)).old in let eq = ap (λ (z : ℕ × ℕ). z.0) y.1 in omega arith)
            (at_push u.shown (in_word c0) q i at_q)),
        λ over. absurd (off over),
      ))
      (λ r s x y over. absurd (off (ap (λ (z : ViewRecord). z.over) (sym x.4) ∙ over)))

  -- looks that end now
  abbrev pub Closes : ViewRecord → Type 0
  Closes v = (u : ViewRecord) × Mem u (view_records_of a) × (v ≡ view_record u.begun (clock b) true u.shown) × (length u.shown ≡ n)

  pub closes : ((v : ViewRecord) → Mem v (view_records_of a') → Mem v (view_records_of a) ⊎ Closes v) → All
  closes cases = grown Closes cases
      (λ v x j c e p at_p. let s = h.sees k a at x.0 x.1 j c e p (ap (λ (z : ViewRecord). get_elem? z.shown j) (sym x.2) ∙ at_p) in
      subst (λ (z : ViewRecord). Sees z p c) (sym x.2) (record { old = s.old; fresh = s.fresh; blank = s.blank; real = λ pos. let r = s.real pos in (r.0, r.1, r.2, r.3, λ over. h.below j c e r.0.begun (write_in_all c r.0 r.1)) }))
      (λ v x j c e r mr. subst (λ (z : ViewRecord). After r z × After z r) (sym x.2) (h.after j c e r mr k a at x.0 x.1, λ over lt. let l = h.below j c e r.begun (look_in_all c r mr) in absurd (omega arith)))
      (λ r s x y over lt. let l = h.below k a at y.0.begun (look_in_all a y.0 y.1) in let e = ap (λ (z : ViewRecord). z.begun) y.2 in let f = ap (λ (z : ViewRecord). z.ended) x.2 in absurd (omega arith))

  -- what becomes of `whole` and `ends` where the new looks are open
  pub still_whole : (New : ViewRecord → Type 0) → ((v : ViewRecord) → New v → v.over ≡ false) → ((v : ViewRecord) → Mem v (view_records_of a') → Mem v (view_records_of a) ⊎ New v)
      → ((v : ViewRecord) → Mem v (view_records_of a') → v.over ≡ true → (length v.shown ≡ n) × (v.begun < v.ended))
  still_whole New opens cases v m over = let own = h.own k a at in ⊎_elim (λ x. (own.whole v x over, own.ends v x over)) (λ x. absurd (off (sym (opens v x) ∙ over))) (cases v m)

  pub closed_whole : ((v : ViewRecord) → Mem v (view_records_of a') → Mem v (view_records_of a) ⊎ Closes v)
      → ((v : ViewRecord) → Mem v (view_records_of a') → v.over ≡ true → (length v.shown ≡ n) × (v.begun < v.ended))
  closed_whole cases v m over = let own = h.own k a at in ⊎_elim
      (λ x. (own.whole v x over, own.ends v x over))
      (λ x. (ap (λ (z : ViewRecord). length z.shown) x.2 ∙ x.3, (let l = h.below k a at x.0.begun (look_in_all a x.0 x.1) in let e = ap (λ (z : ViewRecord). z.begun) x.2 in let f = ap (λ (z : ViewRecord). z.ended) x.2 in omega arith)))
      (cases v m)

  -- the account after a step of a view or a scan
  pub viewer : a'.desk ≡ a.desk → writes_of a ≡ writes_of a' → in_word a ≡ in_word a' → Rising (stamps_of a') → length (all_stamps a') ≤ a'.ticks
      → ((v : ViewRecord) → Mem v (view_records_of a') → v.over ≡ true → (length v.shown ≡ n) × (v.begun < v.ended)) → Own n k a'
  viewer same writes word rising ticks whole =
      let own = h.own k a at in record {
        desk = same ∙ own.desk;
        rising = rising;
        ticks = ticks;
        numbered = subst (Numbered 1) writes own.numbered;
        count = let l = ap length writes in let c = own.count in let e = ap (λ (q : ℕ × ℕ). q.0) word in omega arith;
        small = let e = ap (λ (q : ℕ × ℕ). q.1) word in let s = own.small in omega arith;
        whole = λ v m over. (whole v m over).0;
        ends = λ v m over. (whole v m over).1;
      }

  -- a ticking step of a view or a scan
  pub tick_step : All → a'.desk ≡ a.desk → writes_of a ≡ writes_of a' → in_word a ≡ in_word a' → Ticks n b h k a at a'
      → ((v : ViewRecord) → Mem v (view_records_of a') → v.over ≡ true → (length v.shown ≡ n) × (v.begun < v.ended)) → Core n (set b k a')
  tick_step all same writes word tick whole =
      changes n b h k a at a' (viewer same writes word tick.2 tick.1 whole) (below_ticked n b h k a at a' tick.0) (apart_ticked n b h k a at a' tick.0) all.0 (same_stores n b h k a at a' writes word) all.1 all.2

  -- a step of a view or a scan without a tick
  pub quiet_step : All → a'.desk ≡ a.desk → writes_of a ≡ writes_of a' → in_word a ≡ in_word a' → stamps_of a' ≡ stamps_of a → middles_of a' ≡ middles_of a → a'.ticks ≡ a.ticks
      → ((v : ViewRecord) → Mem v (view_records_of a') → v.over ≡ true → (length v.shown ≡ n) × (v.begun < v.ended)) → Core n (set b k a')
  quiet_step all same writes word stamps middles ticks whole =
      let own = h.own k a at in
      let every : all_stamps a' ≡ all_stamps a = λ i. stamps i ++ middles i in
      let few = own.ticks in let len = ap length every in
      changes n b h k a at a' (viewer same writes word (subst Rising (sym stamps) own.rising) (omega arith) whole) (below_quiet n b h k a at a' (every, ticks)) (apart_quiet n b h k a at a' (every, ticks))
      all.0 (same_stores n b h k a at a' writes word) all.1 all.2

abbrev pub middle : Mark → ℕ
middle m = m.middle

abbrev pub scan : ℕ → List (ℕ × ℕ) → List ℕ → ℕ → List (ℕ × ℕ) → List (ℕ × ℕ) → Scan
scan b f m t p q = record { begun = b; first = f; middles = m; middle = t; before = p; since = q }

-- a call that is answered puts its looks after those of the calls before it
looks_after : (rs : List Answered) (r : Answered) (v : ViewRecord) → Mem v (view_records_in (rs ++ r ∷ []) ++ []) → Mem v (view_records_in rs) ⊎ Mem v (op_view_records r.begun r.ended r.op)
looks_after rs r v m = ⊎_elim
    (λ q. ⊎_elim
    (λ x. inl x)
    (λ x. ⊎_elim (λ y. inr y) (λ y. absurd y) (mem_split (op_view_records r.begun r.ended r.op) [] v x))
    (mem_split (view_records_in rs) (op_view_records r.begun r.ended r.op ++ []) v (subst (λ (l : List ViewRecord). Mem v l) (view_records_in-append rs (r ∷ [])) q)))
    (λ q. absurd q)
    (mem_split (view_records_in (rs ++ r ∷ [])) [] v m)

module _ (n : ℕ) (b : List Account) (h : Core n b) (k d : ℕ) (rs : List Answered) (t : ℕ) where
  -- kind 4: begin tick of a view or a scan
  pub begins_view : get_elem? b k ≡ some (acct d rs Idle t) → Core n (set b k (acct d rs (Viewing (clock b) []) (t + 1)))
  begins_view at =
      let a = acct d rs Idle t in
      let a' = acct d rs (Viewing (clock b) []) (t + 1) in
      let v1 : ViewRecord = view_record (clock b) 0 false [] in
      let ticks = ends_tick n b h k a at a' (middles_of a) [] (ap (λ (xs : List ℕ). xs ++ clock b ∷ []) (sym (append-nil (stamps_in rs)))) (sym (append-nil (middles_of a))) refl refl in
      let cases : (v : ViewRecord) → Mem v (view_records_of a') → Mem v (view_records_of a) ⊎ ((v.over ≡ false) × (v.shown ≡ [])) = λ v m. ⊎_elim
      (λ q. inl (mem_left (view_records_in rs) [] v q))
      (λ q. let e = mem_one v v1 q in inr (ap (λ (u : ViewRecord). u.over) (sym e), ap (λ (u : ViewRecord). u.shown) (sym e)))
      (mem_split (view_records_in rs) (v1 ∷ []) v m) in
      tick_step n b h k a at a' (empties n b h k a at a' cases) refl refl refl ticks (still_whole n b h k a at a' (λ v. (v.over ≡ false) × (v.shown ≡ [])) (λ v x. x.0) cases)

  -- kind 5: a load of a collect, or of the first collect of a scan
  pub reads : (b0 : ℕ) (xs : List (ℕ × ℕ)) (c0 : Account) → get_elem? b k ≡ some (acct d rs (Viewing b0 xs) t) → get_elem? b (length xs) ≡ some c0
      → Core n (set b k (acct d rs (Viewing b0 (xs ++ in_word c0 ∷ [])) t))
  reads b0 xs c0 at at0 =
      let a = acct d rs (Viewing b0 xs) t in
      let a' = acct d rs (Viewing b0 (xs ++ in_word c0 ∷ [])) t in
      let v0 : ViewRecord = view_record b0 0 false xs in
      let v1 : ViewRecord = view_record b0 0 false (xs ++ in_word c0 ∷ []) in
      let there : Mem v0 (view_records_of a) = mem_right (view_records_in rs) (v0 ∷ []) v0 (inl refl) in
      let New : ViewRecord → Type 0 = λ v. (u : ViewRecord) × Mem u (view_records_of a) × (u.over ≡ false) × (get_elem? b (length u.shown) ≡ some c0) × (v ≡ view_record u.begun 0 false (u.shown ++ in_word c0 ∷ [])) in
      let cases : (v : ViewRecord) → Mem v (view_records_of a') → Mem v (view_records_of a) ⊎ New v = λ v m. ⊎_elim
      (λ q. inl (mem_left (view_records_in rs) (v0 ∷ []) v q))
      (λ q. inr (v0, there, refl, at0, sym (mem_one v v1 q)))
      (mem_split (view_records_in rs) (v1 ∷ []) v m) in
      quiet_step n b h k a at a' (reads_one n b h k a at a' c0 cases) refl refl refl refl refl refl (still_whole n b h k a at a' New (λ v x. ap (λ (u : ViewRecord). u.over) x.4) cases)

  -- kind 6: end tick of a collect that has read every component
  pub ends_view : (b0 : ℕ) (xs : List (ℕ × ℕ)) → get_elem? b k ≡ some (acct d rs (Viewing b0 xs) t) → length xs ≡ n
      → Core n (set b k (acct d (rs ++ rec b0 (clock b) (Viewed xs) ∷ []) Idle (t + 1)))
  ends_view b0 xs at all =
      let a = acct d rs (Viewing b0 xs) t in
      let last = rec b0 (clock b) (Viewed xs) in
      let a' = acct d (rs ++ last ∷ []) Idle (t + 1) in
      let v0 : ViewRecord = view_record b0 0 false xs in
      let there : Mem v0 (view_records_of a) = mem_right (view_records_in rs) (v0 ∷ []) v0 (inl refl) in
      let New : ViewRecord → Type 0 = λ v. (u : ViewRecord) × Mem u (view_records_of a) × (v ≡ view_record u.begun (clock b) true u.shown) × (length u.shown ≡ n) in
      let cases : (v : ViewRecord) → Mem v (view_records_of a') → Mem v (view_records_of a) ⊎ New v = λ v m. ⊎_elim
      (λ q. inl (mem_left (view_records_in rs) (v0 ∷ []) v q))
      (λ q. inr (v0, there, sym (mem_one v (view_record b0 (clock b) true xs) q), all))
      (looks_after rs last v m) in
      let marks' : marks_of a' ≡ marks_of a = ap (λ (ms : List Mark). ms ++ []) (marks_in-append rs (last ∷ []) ∙ append-nil (marks_in rs)) in
      let ticks = ends_tick n b h k a at a' (middles_of a) [] (append-nil (stamps_in (rs ++ last ∷ [])) ∙ stamps_in-append rs (last ∷ []) ∙ sym (append_assoc (stamps_in rs) (b0 ∷ []) (clock b ∷ [])))
      (sym (append-nil (middles_of a))) (ap (map middle) marks') refl in
      let writes' : writes_of a ≡ writes_of a' = sym (append-nil (writes_in (rs ++ last ∷ [])) ∙ writes_in-append rs (last ∷ [])) in
      let word' : in_word a ≡ in_word a' = sym (latest-push (0, 0) rs last) in
      tick_step n b h k a at a' (closes n b h k a at a' cases) refl writes' word' ticks (closed_whole n b h k a at a' cases)

  -- kind 9: a middle tick, after the first collect
  pub middles_first : (b0 : ℕ) (xs : List (ℕ × ℕ)) → get_elem? b k ≡ some (acct d rs (Viewing b0 xs) t)
      → Core n (set b k (acct d rs (Scanning (scan b0 xs (clock b ∷ []) (clock b) xs [])) (t + 1)))
  middles_first b0 xs at =
      let a = acct d rs (Viewing b0 xs) t in
      let s' = scan b0 xs (clock b ∷ []) (clock b) xs [] in
      let a' = acct d rs (Scanning s') (t + 1) in
      let v0 : ViewRecord = view_record b0 0 false xs in
      let there : Mem v0 (view_records_of a) = mem_right (view_records_in rs) (v0 ∷ []) v0 (inl refl) in
      let same : (v : ViewRecord) → v0 ≡ v → Mem v (view_records_of a) = λ v e. subst (λ (z : ViewRecord). Mem z (view_records_of a)) e there in
      let cases : (v : ViewRecord) → Mem v (view_records_of a') → Mem v (view_records_of a) ⊎ ((v.over ≡ false) × (v.shown ≡ [])) = λ v m. ⊎_elim
      (λ q. inl (mem_left (view_records_in rs) (v0 ∷ []) v q))
      (λ q. ⊎_elim
      (λ e. inl (same v e))
      (λ r. ⊎_elim
      (λ e. inl (same v e))
      (λ x. let e = mem_one v (view_record b0 0 false []) x in inr (ap (λ (u : ViewRecord). u.over) (sym e), ap (λ (u : ViewRecord). u.shown) (sym e)))
      r)
      q)
      (mem_split (view_records_in rs) (open_view_records (Scanning s')) v m) in
      let ticks = middle_tick n b h k a at a' (map middle (marks_in rs)) [] refl (map-append middle (marks_in rs) []) (map-append middle (marks_in rs) (open_marks (Scanning s'))) refl in
      tick_step n b h k a at a' (empties n b h k a at a' cases) refl refl refl ticks (still_whole n b h k a at a' (λ v. (v.over ≡ false) × (v.shown ≡ [])) (λ v x. x.0) cases)

  -- kind 9: a middle tick, after a later collect, which becomes the one before it
  pub middles : (s : Scan) → get_elem? b k ≡ some (acct d rs (Scanning s) t) → Core n (set b k (acct d rs (Scanning (scan s.begun s.first (s.middles ++ clock b ∷ []) (clock b) s.since [])) (t + 1)))
  middles s at =
      let a = acct d rs (Scanning s) t in
      let s' = scan s.begun s.first (s.middles ++ clock b ∷ []) (clock b) s.since [] in
      let a' = acct d rs (Scanning s') (t + 1) in
      let old : (v : ViewRecord) → Mem v (open_view_records (Scanning s)) → Mem v (view_records_of a) = λ v m. mem_right (view_records_in rs) (open_view_records (Scanning s)) v m in
      let cases : (v : ViewRecord) → Mem v (view_records_of a') → Mem v (view_records_of a) ⊎ ((v.over ≡ false) × (v.shown ≡ [])) = λ v m. ⊎_elim
      (λ q. inl (mem_left (view_records_in rs) (open_view_records (Scanning s)) v q))
      (λ q. ⊎_elim
      (λ e. inl (old v (inl e)))
      (λ r. ⊎_elim
      (λ e. inl (old v (inr (inr (inl e)))))
      (λ x. let e = mem_one v (view_record s.begun 0 false []) x in inr (ap (λ (u : ViewRecord). u.over) (sym e), ap (λ (u : ViewRecord). u.shown) (sym e)))
      r)
      q)
      (mem_split (view_records_in rs) (open_view_records (Scanning s')) v m) in
      let ticks = middle_tick n b h k a at a' (map middle (marks_in rs)) (s.middle ∷ []) refl (map-append middle (marks_in rs) (open_marks (Scanning s))) (map-append middle (marks_in rs) (open_marks (Scanning s'))) refl in
      tick_step n b h k a at a' (empties n b h k a at a' cases) refl refl refl ticks (still_whole n b h k a at a' (λ v. (v.over ≡ false) × (v.shown ≡ [])) (λ v x. x.0) cases)

  -- kind 10: a load of a later collect of a scan
  pub reads_again : (s : Scan) (c0 : Account) → get_elem? b k ≡ some (acct d rs (Scanning s) t) → get_elem? b (length s.since) ≡ some c0
      → Core n (set b k (acct d rs (Scanning (scan s.begun s.first s.middles s.middle s.before (s.since ++ in_word c0 ∷ []))) t))
  reads_again s c0 at at0 =
      let a = acct d rs (Scanning s) t in
      let s' = scan s.begun s.first s.middles s.middle s.before (s.since ++ in_word c0 ∷ []) in
      let a' = acct d rs (Scanning s') t in
      let v0 : ViewRecord = view_record s.begun 0 false s.since in
      let old : (v : ViewRecord) → Mem v (open_view_records (Scanning s)) → Mem v (view_records_of a) = λ v m. mem_right (view_records_in rs) (open_view_records (Scanning s)) v m in
      let New : ViewRecord → Type 0 = λ v. (u : ViewRecord) × Mem u (view_records_of a) × (u.over ≡ false) × (get_elem? b (length u.shown) ≡ some c0) × (v ≡ view_record u.begun 0 false (u.shown ++ in_word c0 ∷ [])) in
      let cases : (v : ViewRecord) → Mem v (view_records_of a') → Mem v (view_records_of a) ⊎ New v = λ v m. ⊎_elim
      (λ q. inl (mem_left (view_records_in rs) (open_view_records (Scanning s)) v q))
      (λ q. ⊎_elim
      (λ e. inl (old v (inl e)))
      (λ r. ⊎_elim
      (λ e. inl (old v (inr (inl e))))
      (λ x. inr (v0, old v0 (inr (inr (inl refl))), refl, at0, sym (mem_one v (view_record s.begun 0 false (s.since ++ in_word c0 ∷ [])) x)))
      r)
      q)
      (mem_split (view_records_in rs) (open_view_records (Scanning s')) v m) in
      quiet_step n b h k a at a' (reads_one n b h k a at a' c0 cases) refl refl refl refl
      (map-append middle (marks_in rs) (open_marks (Scanning s')) ∙ sym (map-append middle (marks_in rs) (open_marks (Scanning s)))) refl (still_whole n b h k a at a' New (λ v x. ap (λ (u : ViewRecord). u.over) x.4) cases)

  -- kind 6: end tick of a scan that has read every component
  pub ends_scan : (s : Scan) → get_elem? b k ≡ some (acct d rs (Scanning s) t) → length s.since ≡ n
      → Core n (set b k (acct d (rs ++ rec_scan s (clock b) (Scanned s.middle s.since) ∷ []) Idle (t + 1)))
  ends_scan s at all =
      let a = acct d rs (Scanning s) t in
      let last = rec_scan s (clock b) (Scanned s.middle s.since) in
      let a' = acct d (rs ++ last ∷ []) Idle (t + 1) in
      let v0 : ViewRecord = view_record s.begun 0 false s.since in
      let there : Mem v0 (view_records_of a) = mem_right (view_records_in rs) (open_view_records (Scanning s)) v0 (inr (inr (inl refl))) in
      let New : ViewRecord → Type 0 = λ v. (u : ViewRecord) × Mem u (view_records_of a) × (v ≡ view_record u.begun (clock b) true u.shown) × (length u.shown ≡ n) in
      let cases : (v : ViewRecord) → Mem v (view_records_of a') → Mem v (view_records_of a) ⊎ New v = λ v m. ⊎_elim
      (λ q. inl (mem_left (view_records_in rs) (open_view_records (Scanning s)) v q))
      (λ q. inr (v0, there, sym (mem_one v (view_record s.begun (clock b) true s.since) q), all))
      (looks_after rs last v m) in
      let marks' : marks_of a' ≡ marks_in rs ++ mark s.begun s.middle (clock b) true s.since s.since ∷ [] = append-nil (marks_in (rs ++ last ∷ [])) ∙ marks_in-append rs (last ∷ []) in
      let middles' : middles_of a' ≡ middles_of a = ap (map middle) marks' ∙ map-append middle (marks_in rs) (mark s.begun s.middle (clock b) true s.since s.since ∷ []) ∙ sym (map-append middle (marks_in rs) (open_marks (Scanning s))) in
      let ticks = ends_tick n b h k a at a' (middles_of a) [] (append-nil (stamps_in (rs ++ last ∷ [])) ∙ stamps_in-append rs (last ∷ []) ∙ sym (append_assoc (stamps_in rs) (s.begun ∷ []) (clock b ∷ [])))
      (sym (append-nil (middles_of a))) middles' refl in
      let writes' : writes_of a ≡ writes_of a' = sym (append-nil (writes_in (rs ++ last ∷ [])) ∙ writes_in-append rs (last ∷ [])) in
      let word' : in_word a ≡ in_word a' = sym (latest-push (0, 0) rs last) in
      tick_step n b h k a at a' (closes n b h k a at a' cases) refl writes' word' ticks (closed_whole n b h k a at a' cases)

  -- kind 11: closing tick of a scan whose collects are whole
  pub gives_up : (s : Scan) → get_elem? b k ≡ some (acct d rs (Scanning s) t) → length s.first ≡ n → length s.since ≡ n
      → Core n (set b k (acct d (rs ++ rec_scan s (clock b) (Interfered (length s.middles) s.first s.since) ∷ []) Idle (t + 1)))
  gives_up s at first_all all =
      let a = acct d rs (Scanning s) t in
      let last = rec_scan s (clock b) (Interfered (length s.middles) s.first s.since) in
      let a' = acct d (rs ++ last ∷ []) Idle (t + 1) in
      let old : (v : ViewRecord) → Mem v (open_view_records (Scanning s)) → Mem v (view_records_of a) = λ v m. mem_right (view_records_in rs) (open_view_records (Scanning s)) v m in
      let New : ViewRecord → Type 0 = λ v. (u : ViewRecord) × Mem u (view_records_of a) × (v ≡ view_record u.begun (clock b) true u.shown) × (length u.shown ≡ n) in
      let cases : (v : ViewRecord) → Mem v (view_records_of a') → Mem v (view_records_of a) ⊎ New v = λ v m. ⊎_elim
      (λ q. inl (mem_left (view_records_in rs) (open_view_records (Scanning s)) v q))
      (λ q. inr (⊎_elim
      (λ e. (view_record s.begun 0 false s.first, old (view_record s.begun 0 false s.first) (inl refl), sym e, first_all))
      (λ r. (view_record s.begun 0 false s.since, old (view_record s.begun 0 false s.since) (inr (inr (inl refl))), sym (mem_one v (view_record s.begun (clock b) true s.since) r), all))
      q))
      (looks_after rs last v m) in
      let marks' : marks_of a' ≡ marks_in rs = append-nil (marks_in (rs ++ last ∷ [])) ∙ marks_in-append rs (last ∷ []) ∙ append-nil (marks_in rs) in
      let ticks = ends_tick n b h k a at a' (map middle (marks_in rs)) (s.middle ∷ []) (append-nil (stamps_in (rs ++ last ∷ [])) ∙ stamps_in-append rs (last ∷ []) ∙ sym (append_assoc (stamps_in rs) (s.begun ∷ []) (clock b ∷ [])))
      (map-append middle (marks_in rs) (open_marks (Scanning s))) (ap (map middle) marks') refl in
      let writes' : writes_of a ≡ writes_of a' = sym (append-nil (writes_in (rs ++ last ∷ [])) ∙ writes_in-append rs (last ∷ [])) in
      let word' : in_word a ≡ in_word a' = sym (latest-push (0, 0) rs last) in
      tick_step n b h k a at a' (closes n b h k a at a' cases) refl writes' word' ticks (closed_whole n b h k a at a' cases)
