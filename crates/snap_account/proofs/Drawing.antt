-- A tick of a desk is the next of the board's ticks.
use Rattle.std.proofs.Common.{◌≡◌, ℕ, suc, ◌+◌, ◌<◌, ◌≤◌, ◌≢◌, ◌==◌, List, [], ◌∷◌, ◌++◌, set, sym, refl, ap, ◌∙◌, subst, ⊎_elim, arith, append_assoc, append-nil}
use mathlib.Core.Option.{some}
use lib.ListN.{get_elem?}
use Rattle.std.proofs.lemmas.Bool.Decides.{nat_tests}
use Rattle.atomic_table.proofs.Lists.{at_set}
use Rattle.snap_account.specs.declared.account.Account.{Account}
use Rattle.snap_account.specs.declared.account.Answered.{Answered}
use Rattle.snap_account.specs.declared.account.Doing.{Doing}
use Rattle.snap_account.specs.declared.account.Doing.TheVariants.{Idle}
use Rattle.snap_core.specs.Sums.{once_below, one_if, times, total}
use Rattle.snap_core.proofs.Sums.{total-at, total-set}
use Rattle.snap_account.specs.Calls.{Mem}
use Rattle.snap_account.specs.Drawn.{drawn_by, drawn_in, drawn_open, drawn}
use Rattle.snap_account.specs.Rule.{Rising, Ticked, clock}
use Rattle.snap_account.proofs.Accounts.{acct}
use Rattle.snap_account.proofs.Lists.{one_here, rising_push, times-push}

drawn_in-append : (rs qs : List Answered) → drawn_in (rs ++ qs) ≡ drawn_in rs ++ drawn_in qs
drawn_in-append [] qs = refl
drawn_in-append (r ∷ rs) qs = ap (λ xs. drawn_by r ++ xs) (drawn_in-append rs qs) ∙ sym (append_assoc (drawn_by r) (drawn_in rs) (drawn_in qs))

-- a tick within a call
pub within : (d : ℕ) (rs : List Answered) (o o' : Doing) (t t' x : ℕ) → drawn_open o' ≡ drawn_open o ++ x ∷ [] → drawn (acct d rs o' t') ≡ drawn (acct d rs o t) ++ x ∷ []
within d rs o o' t t' x e = ap (λ xs. drawn_in rs ++ xs) e ∙ sym (append_assoc (drawn_in rs) (drawn_open o) (x ∷ []))

-- the last tick of a call
pub at_end : (d : ℕ) (rs : List Answered) (r : Answered) (o : Doing) (t t' x : ℕ) → drawn_by r ≡ drawn_open o ++ x ∷ [] → drawn (acct d (rs ++ r ∷ []) Idle t') ≡ drawn (acct d rs o t) ++ x ∷ []
at_end d rs r o t t' x e =
    append-nil (drawn_in (rs ++ r ∷ [])) ∙ drawn_in-append rs (r ∷ []) ∙ ap (λ xs. drawn_in rs ++ xs) (append-nil (drawn_by r) ∙ e) ∙ sym (append_assoc (drawn_in rs) (drawn_open o) (x ∷ []))

once_next : (x n : ℕ) → once_below x (suc n) ≡ once_below x n + one_if (n == x)
once_next x n = grind (arith, nat_tests)

once_low : (x n : ℕ) → 1 ≤ once_below x n → x < n
once_low x n le = grind (arith, nat_tests)

times_there : (x : ℕ) (xs : List ℕ) → Mem x xs → 1 ≤ times x xs
times_there x [] m = absurd m
times_there x (y ∷ xs) m = ⊎_elim (λ (e : y ≡ x). let o : one_if (y == x) ≡ 1 = ap (λ z. one_if (z == x)) e ∙ one_here x in omega arith) (λ q. let r = times_there x xs q in omega arith) m

module _ (b : List Account) (h : Ticked b) (k : ℕ) (a : Account) (at : get_elem? b k ≡ some a) (a' : Account) where
  below : (x : ℕ) → Mem x (drawn a) → x < clock b
  below x m = once_low x (clock b) (let t = times_there x (drawn a) m in let s = total-at (λ (c : Account). times x (drawn c)) b k a at in let o = h.once x in omega arith)

  -- where one account changes, the others have their ticks in order
  others : Rising (drawn a') → (i : ℕ) (c : Account) → get_elem? (set b k a') i ≡ some c → Rising (drawn c)
  others new i c e = ⊎_elim
      (λ (q : (i ≡ k) × (a' ≡ c)). subst (λ (z : Account). Rising (drawn z)) q.1 new)
      (λ (q : (i ≢ k) × (get_elem? b i ≡ some c)). h.rising i c q.1)
      (at_set b k i a' c e)

  pub ticks : drawn a' ≡ drawn a ++ clock b ∷ [] → a'.ticks ≡ a.ticks + 1 → Ticked (set b k a')
  ticks e more = record {
    once = λ x.
        let s = total-set (λ (c : Account). times x (drawn c)) b k a a' at in
        let t : times x (drawn a') ≡ times x (drawn a) + one_if (clock b == x) = ap (times x) e ∙ times-push x (clock b) (drawn a) in
        let u = total-set (λ (c : Account). c.ticks) b k a a' at in
        let up : suc (clock b) ≡ clock (set b k a') = omega arith in
        let o = h.once x in
        let last : total (λ c. times x (drawn c)) (set b k a') ≡ once_below x (suc (clock b)) = let n = once_next x (clock b) in omega arith in
        last ∙ ap (once_below x) up;
    rising = others (subst Rising (sym e) (rising_push (drawn a) (clock b) (h.rising k a at) below));
  }

  pub rests : drawn a' ≡ drawn a → a'.ticks ≡ a.ticks → Ticked (set b k a')
  rests e same = record {
    once = λ x.
        let s = total-set (λ (c : Account). times x (drawn c)) b k a a' at in
        let t : times x (drawn a') ≡ times x (drawn a) = ap (times x) e in
        let u = total-set (λ (c : Account). c.ticks) b k a a' at in
        let up : clock b ≡ clock (set b k a') = omega arith in
        let o = h.once x in
        let last : total (λ c. times x (drawn c)) (set b k a') ≡ once_below x (clock b) = omega arith in
        last ∙ ap (once_below x) up;
    rising = others (subst Rising (sym e) (h.rising k a at));
  }
