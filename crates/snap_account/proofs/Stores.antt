-- Each kind of step of a store keeps what holds of all accounts together.
use Rattle.std.proofs.Common.{◌≡◌, ℕ, suc, ◌+◌, ◌<◌, ◌≤◌, true, false, true≢false, List, [], ◌∷◌, ◌++◌, length, map, set, sym, refl, ap, ◌∙◌, subst, inl, ⊎_elim, arith, length-append, append_assoc, append-nil}
use mathlib.Core.Option.{some}
use lib.ListN.{get_elem?}
use Rattle.snap_account.specs.declared.account.Account.{Account}
use Rattle.snap_account.specs.declared.account.Answered.{Answered}
use Rattle.snap_account.specs.declared.account.Answer.TheVariants.{Stored}
use Rattle.snap_account.specs.declared.account.Doing.TheVariants.{Idle, Begun, Written}
use Rattle.snap_account.specs.Calls.{Mem, Write, ViewRecord, Mark, write, writes_in, view_records_in, stamps_in, marks_in, writes_of, view_records_of, marks_of, middles_of, latest, in_word}
use Rattle.snap_account.specs.Rule.{Core, clock, Numbered}
use Rattle.snap_account.proofs.Lists.{mem_split, mem_left, mem_right, mem_one, numbered_push}
use Rattle.snap_account.proofs.Accounts.{acct, rec, writes_in-append, view_records_in-append, stamps_in-append, marks_in-append, latest-push}
use Rattle.snap_account.proofs.Core.{clock_ticked, below_ticked, below_quiet, apart_ticked, apart_quiet, changes, same_views, same_stores}
use Rattle.snap_account.proofs.Ticks.{ends_tick}

numbered_swap : (n : ℕ) (ws : List Write) (w w' : Write) → w'.number ≡ w.number → Numbered n (ws ++ w ∷ []) → Numbered n (ws ++ w' ∷ [])
numbered_swap n [] w w' e r = (e ∙ r.0, tt)
numbered_swap n (x ∷ ws) w w' e r = (r.0, numbered_swap (suc n) ws w w' e r.1)

off : false ≡ true → ⊥
off e = true≢false (sym e)

module _ (n : ℕ) (b : List Account) (h : Core n b) (k d : ℕ) (rs : List Answered) (t : ℕ) where
  -- kind 1: begin tick of a store
  pub begins_store : get_elem? b k ≡ some (acct d rs Idle t) → Core n (set b k (acct d rs (Begun (clock b)) (t + 1)))
  begins_store at =
      let a = acct d rs Idle t in
      let a' = acct d rs (Begun (clock b)) (t + 1) in
      let own = h.own k a at in
      let ticks = ends_tick n b h k a at a' (middles_of a) [] (ap (λ (xs : List ℕ). xs ++ clock b ∷ []) (sym (append-nil (stamps_in rs)))) (sym (append-nil (middles_of a))) refl refl in
      let tick = ticks.0 in
      let same = same_views n b h k a at a' refl in
      changes n b h k a at a'
      (record {
        desk = own.desk;
        rising = ticks.2;
        ticks = ticks.1;
        numbered = own.numbered;
        count = own.count;
        small = own.small;
        whole = own.whole;
        ends = own.ends;
      })
      (below_ticked n b h k a at a' tick)
      (apart_ticked n b h k a at a' tick)
      same.0
      (same_stores n b h k a at a' refl refl)
      same.1
      same.2

  -- kind 2: store of a word
  pub writes : (b0 m v : ℕ) → get_elem? b k ≡ some (acct d rs (Begun b0) t) → m ≡ (latest (0, 0) rs).0 + 1 → v < 4294967296 → Core n (set b k (acct d rs (Written b0 m v) t))
  writes b0 m v at next fits =
      let a = acct d rs (Begun b0) t in
      let a' = acct d rs (Written b0 m v) t in
      let own = h.own k a at in
      let w : Write = write m v b0 0 false in
      let none : writes_in rs ++ [] ≡ writes_in rs = append-nil (writes_in rs) in
      let many : length (writes_in rs) ≡ (latest (0, 0) rs).0 = ap length (sym none) ∙ own.count in
      let same = same_views n b h k a at a' refl in
      changes n b h k a at a'
      (record {
        desk = own.desk;
        rising = own.rising;
        ticks = own.ticks;
        numbered = numbered_push 1 (writes_in rs) w (subst (Numbered 1) none own.numbered) (omega arith);
        count = let l = length-append (writes_in rs) (w ∷ []) in omega arith;
        small = fits;
        whole = own.whole;
        ends = own.ends;
      })
      (below_quiet n b h k a at a' (refl, refl))
      (apart_quiet n b h k a at a' (refl, refl))
      same.0
      (λ x p _ s. record {
        old = let o = s.old in omega arith;
        fresh = λ u mu lt over. ⊎_elim
            (λ q. s.fresh u (mem_left (writes_in rs) [] u q) lt over)
            (λ q. absurd (off (ap (λ (z : Write). z.over) (mem_one u w q) ∙ over)))
            (mem_split (writes_in rs) (w ∷ []) u mu);
        blank = s.blank;
        real = λ some. let r = s.real some in (r.0, mem_left (writes_in rs) (w ∷ []) r.0 (subst (λ (l : List Write). Mem r.0 l) none r.1), r.2, r.3, r.4);
      })
      same.1
      same.2

  -- kind 3: end tick of a store
  pub ends_store : (b0 m v : ℕ) → get_elem? b k ≡ some (acct d rs (Written b0 m v) t)
      → Core n (set b k (acct d (rs ++ rec b0 (clock b) (Stored m v) ∷ []) Idle (t + 1)))
  ends_store b0 m v at =
      let a = acct d rs (Written b0 m v) t in
      let last = rec b0 (clock b) (Stored m v) in
      let a' = acct d (rs ++ last ∷ []) Idle (t + 1) in
      let own = h.own k a at in
      let w : Write = write m v b0 0 false in
      let w' : Write = write m v b0 (clock b) true in
      let writes' : writes_of a' ≡ writes_in rs ++ w' ∷ [] = append-nil (writes_in (rs ++ last ∷ [])) ∙ writes_in-append rs (last ∷ []) in
      let looks' : view_records_of a' ≡ view_records_of a = append-nil (view_records_in (rs ++ last ∷ [])) ∙ view_records_in-append rs (last ∷ []) in
      let word' : in_word a' ≡ (m, v) = latest-push (0, 0) rs last in
      let marks' : marks_of a' ≡ marks_of a = ap (λ (ms : List Mark). ms ++ []) (marks_in-append rs (last ∷ []) ∙ append-nil (marks_in rs)) in
      let ticks = ends_tick n b h k a at a' (middles_of a) [] (append-nil (stamps_in (rs ++ last ∷ [])) ∙ stamps_in-append rs (last ∷ []) ∙ sym (append_assoc (stamps_in rs) (b0 ∷ []) (clock b ∷ [])))
      (sym (append-nil (middles_of a))) (ap (map (λ (m : Mark). m.middle)) marks') refl in
      let tick = ticks.0 in
      let same = same_views n b h k a at a' looks' in
      let up = clock_ticked n b h k a at a' tick in
      changes n b h k a at a'
      (record {
        desk = own.desk;
        rising = ticks.2;
        ticks = ticks.1;
        numbered = subst (Numbered 1) (sym writes') (numbered_swap 1 (writes_in rs) w w' refl own.numbered);
        count = let l = ap length writes' in let l1 = length-append (writes_in rs) (w' ∷ []) in let l2 = length-append (writes_in rs) (w ∷ []) in let c = own.count in let e = ap (λ (q : ℕ × ℕ). q.0) word' in omega arith;
        small = let e = ap (λ (q : ℕ × ℕ). q.1) word' in let s = own.small in omega arith;
        whole = λ x mx. own.whole x (subst (λ (l : List ViewRecord). Mem x l) looks' mx);
        ends = λ x mx. own.ends x (subst (λ (l : List ViewRecord). Mem x l) looks' mx);
      })
      (below_ticked n b h k a at a' tick)
      (apart_ticked n b h k a at a' tick)
      same.0
      (λ x p begun s. record {
        old = let o = s.old in let e = ap (λ (q : ℕ × ℕ). q.0) word' in omega arith;
        fresh = λ u mu lt over. ⊎_elim
            (λ q. s.fresh u (mem_left (writes_in rs) (w ∷ []) u q) lt over)
            (λ q. let e = ap (λ (z : Write). z.ended) (mem_one u w' q) in omega arith)
            (mem_split (writes_in rs) (w' ∷ []) u (subst (λ (l : List Write). Mem u l) writes' mu));
        blank = s.blank;
        real = λ some. let r = s.real some in ⊎_elim
            (λ q. (r.0, subst (λ (l : List Write). Mem r.0 l) (sym writes') (mem_left (writes_in rs) (w' ∷ []) r.0 q), r.2, r.3, r.4))
            (λ q. let is = mem_one r.0 w q in (
              w',
              subst (λ (l : List Write). Mem w' l) (sym writes') (mem_right (writes_in rs) (w' ∷ []) w' (inl refl)),
              ap (λ (z : Write). z.number) is ∙ r.2,
              ap (λ (z : Write). z.value) is ∙ r.3,
              λ over. let lt = r.4 over in let e = ap (λ (z : Write). z.begun) is in omega arith,
            ))
            (mem_split (writes_in rs) (w ∷ []) r.0 r.1);
      })
      same.1
      same.2
