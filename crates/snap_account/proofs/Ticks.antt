-- A tick of a desk is a new stamp above all others.
use Rattle.std.proofs.Common.{◌≡◌, ℕ, ◌+◌, ◌<◌, ◌≤◌, ◌==◌, List, [], ◌∷◌, ◌++◌, length, sym, ap, ◌∙◌, subst, inl, inr, ⊎_elim, arith, length-append}
use mathlib.Core.Option.{some}
use lib.ListN.{get_elem?}
use Rattle.snap_account.specs.declared.account.Account.{Account}
use Rattle.snap_core.specs.Sums.{one_if, times}
use Rattle.snap_core.proofs.Sums.{total-append}
use Rattle.snap_account.specs.Calls.{Mem, stamps_of, middles_of, all_stamps}
use Rattle.snap_account.specs.Rule.{Core, clock, Rising}
use Rattle.snap_account.proofs.Lists.{mem_split, mem_left, mem_right, mem_one, rising_push}
use Rattle.snap_account.proofs.Core.{Ticked}

pub times-append : (x : ℕ) (xs ys : List ℕ) → times x (xs ++ ys) ≡ times x xs + times x ys
times-append x xs ys = total-append (λ y. one_if (y == x)) xs ys

module _ (n : ℕ) (b : List Account) (h : Core n b) (k : ℕ) (a : Account) (at : get_elem? b k ≡ some a) (a' : Account) where
  -- what a tick gives
  abbrev pub Ticks : Type 0
  Ticks = Ticked n b h k a at a' × (length (all_stamps a') ≤ a'.ticks) × Rising (stamps_of a')

  abbrev low : (x : ℕ) → Mem x (stamps_of a) → x < clock b
  low x m = h.below k a at x (mem_left (stamps_of a) (middles_of a) x m)

  -- a begin or an end. It may drop middle ticks
  pub ends_tick : (ms rest : List ℕ) → stamps_of a' ≡ stamps_of a ++ clock b ∷ [] → middles_of a ≡ ms ++ rest → middles_of a' ≡ ms → a'.ticks ≡ a.ticks + 1 → Ticks
  ends_tick ms rest stamps old new more = (
    (
      (λ x m. ⊎_elim
          (λ q. ⊎_elim
          (λ y. inl (mem_left (stamps_of a) (middles_of a) x y))
          (λ y. inr (mem_one x (clock b) y))
          (mem_split (stamps_of a) (clock b ∷ []) x (subst (λ (l : List ℕ). Mem x l) stamps q)))
          (λ q. inl (mem_right (stamps_of a) (middles_of a) x (subst (λ (l : List ℕ). Mem x l) (sym old) (mem_left ms rest x (subst (λ (l : List ℕ). Mem x l) new q)))))
          (mem_split (stamps_of a') (middles_of a') x m)),
      (λ x.
          let t1 = times-append x (stamps_of a') (middles_of a') in let t2 = times-append x (stamps_of a) (middles_of a) in
          let t3 : times x (stamps_of a') ≡ times x (stamps_of a) + times x (clock b ∷ []) = ap (times x) stamps ∙ times-append x (stamps_of a) (clock b ∷ []) in
          let t4 : times x (middles_of a) ≡ times x ms + times x rest = ap (times x) old ∙ times-append x ms rest in
          let t5 = ap (times x) new in omega arith),
      more,
    ),
    (
        let l1 = length-append (stamps_of a') (middles_of a') in let l2 = length-append (stamps_of a) (middles_of a) in
        let l3 = ap length stamps in let l4 = length-append (stamps_of a) (clock b ∷ []) in
        let l5 = ap length old in let l6 = length-append ms rest in let l7 = ap length new in
        let o = (h.own k a at).ticks in omega arith
        ),
    subst Rising (sym stamps) (rising_push (stamps_of a) (clock b) (h.own k a at).rising low),
  )

  -- a middle tick, in place of those of the same scan before it
  pub middle_tick : (ms rest : List ℕ) → stamps_of a' ≡ stamps_of a → middles_of a ≡ ms ++ rest → middles_of a' ≡ ms ++ clock b ∷ [] → a'.ticks ≡ a.ticks + 1 → Ticks
  middle_tick ms rest stamps old new more = (
    (
      (λ x m. ⊎_elim
          (λ q. inl (mem_left (stamps_of a) (middles_of a) x (subst (λ (l : List ℕ). Mem x l) stamps q)))
          (λ q. ⊎_elim
          (λ y. inl (mem_right (stamps_of a) (middles_of a) x (subst (λ (l : List ℕ). Mem x l) (sym old) (mem_left ms rest x y))))
          (λ y. inr (mem_one x (clock b) y))
          (mem_split ms (clock b ∷ []) x (subst (λ (l : List ℕ). Mem x l) new q)))
          (mem_split (stamps_of a') (middles_of a') x m)),
      (λ x.
          let t1 = times-append x (stamps_of a') (middles_of a') in let t2 = times-append x (stamps_of a) (middles_of a) in
          let t3 : times x (stamps_of a') ≡ times x (stamps_of a) = ap (times x) stamps in
          let t4 : times x (middles_of a) ≡ times x ms + times x rest = ap (times x) old ∙ times-append x ms rest in
          let t5 : times x (middles_of a') ≡ times x ms + times x (clock b ∷ []) = ap (times x) new ∙ times-append x ms (clock b ∷ []) in omega arith),
      more,
    ),
    (
        let l1 = length-append (stamps_of a') (middles_of a') in let l2 = length-append (stamps_of a) (middles_of a) in
        let l3 = ap length stamps in let l4 = length-append ms (clock b ∷ []) in
        let l5 = ap length old in let l6 = length-append ms rest in let l7 = ap length new in
        let o = (h.own k a at).ticks in omega arith
        ),
    subst Rising (sym stamps) (h.own k a at).rising,
  )
