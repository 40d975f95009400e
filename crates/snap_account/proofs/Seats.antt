-- The seats hold the accounts, each once, after each step.
use Rattle.std.proofs.Common.{◌≡◌, ℕ, zero, suc, ◌+◌, ◌*◌, ◌≤◌, ◌≢◌, ◌⊎◌, ◌==◌, Bool, true, false, cond, nat_lt, List, [], ◌∷◌, ◌++◌, length, map, set, get_or, sym, refl, ap, ◌∙◌, subst, inl, inr, ⊎_elim, arith}
use mathlib.Core.Option.{none, some, some-injective, some-ne-none}
use lib.ListN.{get_elem?}
use lib.Seq.{map-set}
use Rattle.std.specs.Prelude.{slice_index}
use Rattle.atomic_table.proofs.Lists.{at_set, at_snoc, set_here, set_else, set_again, at_map}
use Rattle.atomic_table.specs.Table.{State, Splits, Joins, Allows, step, keeps}
use Rattle.snap_account.specs.declared.account.Account.{Account}
use Rattle.snap_core.specs.Sums.{one_if, total}
use Rattle.std.proofs.Math.Nat.{suc-mul, mul-le-mul_right}
use Rattle.snap_account.specs.Limits.{tick_cap}
use Rattle.snap_core.proofs.Sums.{total-append, total-at, total-set}
use Rattle.snap_account.specs.Calls.{Mem, in_word}
use Rattle.snap_account.specs.Rule.{Core, Held, Boarded, clock, code, words_of, of_desk}
use Rattle.snap_account.specs.Plays.{Seated, HasEachOnce, only_first, but_first, insert, merge}
use Rattle.snap_account.proofs.Lists.{mem_one, total-two, at_below, one_here, once_least}

abbrev pub St : Type 0
St = State (Unit {0}) (List Account)

pub mem_count : (c : Account) (v : List Account) → Mem c v → 1 ≤ of_desk c.desk v
mem_count c [] m = absurd m
mem_count c (x ∷ v) m = ⊎_elim
    (λ (e : x ≡ c). let one : one_if (x.desk == c.desk) ≡ 1 = ap (λ (z : Account). one_if (z.desk == c.desk)) e ∙ one_here c.desk in omega arith)
    (λ q. let r = mem_count c v q in omega arith)
    m

-- a desk stands in one seat alone
pub one_seat : (n : ℕ) (views : List (List Account)) (b : List Account) → Held n views b → (i j : ℕ) (v u : List Account) → i ≢ j → get_elem? views i ≡ some v → get_elem? views j ≡ some u
    → (a c : Account) → Mem a v → Mem c u → c.desk ≢ a.desk
one_seat n views b h i j v u apart at at' a c ma mc same =
    let two = total-two (of_desk a.desk) views i j v u apart at at' in
    let x = mem_count a v ma in let y = mem_count c u mc in
    let y' : 1 ≤ of_desk a.desk u = subst (λ (d : ℕ). 1 ≤ of_desk d u) same y in
    let o = h.once a.desk in let l = once_least a.desk n in omega arith

-- one seat's one account makes a step
pub held_step : (n : ℕ) (views : List (List Account)) (b : List Account) → Held n views b → (id : ℕ) (a a' : Account) → get_elem? views id ≡ some (a ∷ []) → a'.desk ≡ a.desk → length b ≡ n
    → Held n (set views id (a' ∷ [])) (set b a.desk a')
held_step n views b h id a a' at same size = record {
  fits = λ seat v e c m. ⊎_elim
      (λ (q : (seat ≡ id) × (a' ∷ [] ≡ v)).
      let is : a' ≡ c = mem_one c a' (subst (λ (u : List Account). Mem c u) (sym q.1) m) in
      let here : get_elem? (set b a.desk a') a.desk ≡ some a' = set_here b a.desk a' (at_below b a.desk a (h.fits id (a ∷ []) at a (inl refl))) in
      ap (λ i. get_elem? (set b a.desk a') i) (ap (λ (z : Account). z.desk) (sym is) ∙ same) ∙ here ∙ ap some is)
      (λ (q : (seat ≢ id) × (get_elem? views seat ≡ some v)).
      let other = one_seat n views b h id seat (a ∷ []) v (λ z. q.0 (sym z)) at q.1 a c (inl refl) m in
      set_else b a.desk c.desk a' other ∙ h.fits seat v q.1 c m)
      (at_set views id seat (a' ∷ []) v e);
  once = λ d. let t = total-set (of_desk d) views id (a ∷ []) (a' ∷ []) at in let o = h.once d in
      let e : one_if (a'.desk == d) ≡ one_if (a.desk == d) = ap (λ z. one_if (z == d)) same in omega arith;
}

-- a view is cut in two
pub held_split : (n : ℕ) (views : List (List Account)) (b : List Account) → Held n views b → (id : ℕ) (v : List Account) → get_elem? views id ≡ some v
    → Held n (set views id (but_first v) ++ only_first v ∷ []) b
held_split n views b h id v at = record {
  fits = λ seat u e c m. ⊎_elim
      (λ was. ⊎_elim
      (λ (q : (seat ≡ id) × (but_first v ≡ u)). h.fits id v at c (later c v (subst (λ (y : List Account). Mem c y) (sym q.1) m)))
      (λ (q : (seat ≢ id) × (get_elem? views seat ≡ some u)). h.fits seat u q.1 c m)
      (at_set views id seat (but_first v) u was))
      (λ (is : only_first v ≡ u). h.fits id v at c (sooner c v (subst (λ (y : List Account). Mem c y) (sym is) m)))
      (at_snoc (set views id (but_first v)) (only_first v) u seat e);
  once = λ d. let a = total-append (of_desk d) (set views id (but_first v)) (only_first v ∷ []) in let t = total-set (of_desk d) views id v (but_first v) at in let c = cut d v in let o = h.once d in omega arith;
}
  where
    cut : (d : ℕ) (u : List Account) → of_desk d (but_first u) + of_desk d (only_first u) ≡ of_desk d u
    cut d [] = refl
    cut d (x ∷ xs) = omega arith

    later : (c : Account) (u : List Account) → Mem c (but_first u) → Mem c u
    later c [] m = absurd m
    later c (x ∷ xs) m = inr m

    sooner : (c : Account) (u : List Account) → Mem c (only_first u) → Mem c u
    sooner c [] m = absurd m
    sooner c (x ∷ xs) m = ⊎_elim (λ e. inl e) (λ z. absurd z) m

mem_cond : (t : Bool) (x y : List Account) (c : Account) → Mem c (cond t x y) → Mem c x ⊎ Mem c y
mem_cond true x y c m = inl m
mem_cond false x y c m = inr m

pub mem_insert : (a : Account) (v : List Account) (c : Account) → Mem c (insert a v) → (a ≡ c) ⊎ Mem c v
mem_insert a [] c m = ⊎_elim (λ e. inl e) (λ z. absurd z) m
mem_insert a (x ∷ v) c m = ⊎_elim
    (λ f. ⊎_elim (λ e. inl e) (λ z. inr z) f)
    (λ f. ⊎_elim (λ e. inr (inl e)) (λ z. ⊎_elim (λ e. inl e) (λ y. inr (inr y)) (mem_insert a v c z)) f)
    (mem_cond (nat_lt x.desk a.desk) (a ∷ x ∷ v) (x ∷ insert a v) c m)

pub mem_merge : (v u : List Account) (c : Account) → Mem c (merge v u) → Mem c v ⊎ Mem c u
mem_merge v [] c m = inl m
mem_merge v (a ∷ u) c m = ⊎_elim (λ e. inr (inl e)) (λ z. ⊎_elim (λ x. inl x) (λ y. inr (inr y)) (mem_merge v u c z)) (mem_insert a (merge v u) c m)

total_cond : (f : Account → ℕ) (t : Bool) (x y : List Account) (n : ℕ) → total f x ≡ n → total f y ≡ n → total f (cond t x y) ≡ n
total_cond f true x y n e e' = e
total_cond f false x y n e e' = e'

pub total-insert : (f : Account → ℕ) (a : Account) (v : List Account) → total f (insert a v) ≡ f a + total f v
total-insert f a [] = refl
total-insert f a (x ∷ v) =
    let r = total-insert f a v in
    total_cond f (nat_lt x.desk a.desk) (a ∷ x ∷ v) (x ∷ insert a v) (f a + total f (x ∷ v)) refl (omega arith)

pub total-merge : (f : Account → ℕ) (v u : List Account) → total f (merge v u) ≡ total f v + total f u
total-merge f v [] = omega arith
total-merge f v (x ∷ u) = let r = total-merge f v u in let i = total-insert f x (merge v u) in omega arith

pub length-insert : (a : Account) (v : List Account) → length (insert a v) ≡ length v + 1
length-insert a [] = refl
length-insert a (x ∷ v) = one (nat_lt x.desk a.desk) (length-insert a v)
  where
    one : (t : Bool) → length (insert a v) ≡ length v + 1 → length (cond t (a ∷ x ∷ v) (x ∷ insert a v)) ≡ length (x ∷ v) + 1
    one true r = omega arith
    one false r = omega arith

-- what comes in beside accounts of other desks alone
pub none_there : (d : ℕ) (v u : List Account) (a : Account) → u ≡ a ∷ [] → a.desk ≡ d → of_desk d (merge v u) ≤ 1 → of_desk d v ≡ 0
none_there d v u a is same few =
    let t = total-merge (λ (x : Account). one_if (x.desk == d)) v u in
    let e = ap (of_desk d) is in
    let one : one_if (a.desk == d) ≡ 1 = ap (λ z. one_if (z == d)) same ∙ one_here d in omega arith

-- two views become one
pub held_join : (n : ℕ) (views : List (List Account)) (b : List Account) → Held n views b → (id : ℕ) (v : List Account) (other : ℕ) (u : List Account) → get_elem? views id ≡ some v → ¬ (other ≡ id)
    → get_elem? (set views id (merge v u)) other ≡ some u → Held n (set (set views id (merge v u)) other []) b
held_join n views b h id v other u at apart there =
    let vs : List (List Account) = set views id (merge v u) in
    let was : get_elem? views other ≡ some u = ⊎_elim (λ (t : (other ≡ id) × (merge v u ≡ u)). absurd (apart t.0)) (λ (t : (other ≢ id) × (get_elem? views other ≡ some u)). t.1) (at_set views id other (merge v u) u there) in
    record {
      fits = λ seat y e c m. ⊎_elim
          (λ (t : (seat ≡ other) × ([] ≡ y)). absurd (subst (λ (z : List Account). Mem c z) (sym t.1) m))
          (λ (t : (seat ≢ other) × (get_elem? vs seat ≡ some y)). ⊎_elim
          (λ (q : (seat ≡ id) × (merge v u ≡ y)). ⊎_elim (λ x. h.fits id v at c x) (λ x. h.fits other u was c x) (mem_merge v u c (subst (λ (z : List Account). Mem c z) (sym q.1) m)))
          (λ (q : (seat ≢ id) × (get_elem? views seat ≡ some y)). h.fits seat y q.1 c m)
          (at_set views id seat (merge v u) y t.1))
          (at_set vs other seat [] y e);
      once = λ d. let a = total-set (of_desk d) vs other u [] there in let t = total-set (of_desk d) views id v (merge v u) at in
          let c = total-merge (λ (x : Account). one_if (x.desk == d)) v u in let o = h.once d in omega arith;
    }

pub splits : (n l id : ℕ) (v : List Account) → Splits (Boarded n l) id v (but_first v) (only_first v)
splits n l id v s r at = record { accounts = r.accounts; words = r.words; held = held_split n s.views r.accounts r.held id v at; core = r.core; scans = r.scans; ticks = r.ticks; limit = r.limit }

pub joins : (n l id : ℕ) (v : List Account) (other : ℕ) (u : List Account) → Joins (Boarded n l) id v other u (merge v u) []
joins n l id v other u s r at apart there = record { accounts = r.accounts; words = r.words; held = held_join n s.views r.accounts r.held id v other u at apart there; core = r.core; scans = r.scans; ticks = r.ticks; limit = r.limit }

-- the words after a step
module _ (b : List Account) (k : ℕ) (a a' : Account) (at : get_elem? b k ≡ some a) where
  words_map : map (λ (x : Account). code (in_word x)) (set b k a') ≡ set (map (λ (x : Account). code (in_word x)) b) k (code (in_word a'))
  words_map = map-set (λ (x : Account). code (in_word x)) b k a'

  pub words_ticked : in_word a' ≡ in_word a → a'.ticks ≡ a.ticks + 1 → (ws : List ℕ) → ws ≡ words_of b → set ws 0 (clock b + 1) ≡ words_of (set b k a')
  words_ticked same more ws is =
      let s = total-set (λ (x : Account). x.ticks) b k a a' at in
      let up : clock b + 1 ≡ clock (set b k a') = omega arith in
      let rest : map (λ (x : Account). code (in_word x)) (set b k a') ≡ map (λ (x : Account). code (in_word x)) b =
      words_map ∙ ap (λ p. set (map (λ (x : Account). code (in_word x)) b) k (code p)) same
      ∙ set_again (map (λ (x : Account). code (in_word x)) b) k (code (in_word a)) (at_map (λ (x : Account). code (in_word x)) b k a at) in
      ap (λ l. set l 0 (clock b + 1)) is ∙ (λ i. up i ∷ sym rest i)

  pub words_quiet : in_word a' ≡ in_word a → a'.ticks ≡ a.ticks → words_of b ≡ words_of (set b k a')
  words_quiet same more =
      let s = total-set (λ (x : Account). x.ticks) b k a a' at in
      let up : clock b ≡ clock (set b k a') = omega arith in
      let rest : map (λ (x : Account). code (in_word x)) (set b k a') ≡ map (λ (x : Account). code (in_word x)) b =
      words_map ∙ ap (λ p. set (map (λ (x : Account). code (in_word x)) b) k (code p)) same
      ∙ set_again (map (λ (x : Account). code (in_word x)) b) k (code (in_word a)) (at_map (λ (x : Account). code (in_word x)) b k a at) in
      λ i. up i ∷ sym rest i

  pub words_written : a'.ticks ≡ a.ticks → (ws : List ℕ) → ws ≡ words_of b → set ws (suc k) (code (in_word a')) ≡ words_of (set b k a')
  words_written more ws is =
      let s = total-set (λ (x : Account). x.ticks) b k a a' at in
      let up : clock b ≡ clock (set b k a') = omega arith in
      ap (λ l. set l (suc k) (code (in_word a'))) is ∙ (λ i. up i ∷ sym words_map i)

-- the words as they are read
pub clock_word : (b : List Account) (ws : List ℕ) → ws ≡ words_of b → slice_index ws 0 ≡ clock b
clock_word b ws is = ap (λ l. slice_index l 0) is

at_or : (l : List ℕ) (i x : ℕ) → get_elem? l i ≡ some x → get_or l i 0 ≡ x
at_or [] i x e = absurd (some-ne-none x (sym e))
at_or (y ∷ ys) zero x e = some-injective _ _ e
at_or (y ∷ ys) (suc i) x e = at_or ys i x e

pub desk_word : (b : List Account) (ws : List ℕ) → ws ≡ words_of b → (k : ℕ) (a : Account) → get_elem? b k ≡ some a → slice_index ws (suc k) ≡ code (in_word a)
desk_word b ws is k a at = ap (λ l. slice_index l (suc k)) is ∙ at_or (map (λ (x : Account). code (in_word x)) b) k (code (in_word a)) (at_map (λ (x : Account). code (in_word x)) b k a at)

pub set_self : (l : List ℕ) (i : ℕ) → set l i (get_or l i 0) ≡ l
set_self [] i = refl
set_self (x ∷ xs) zero = refl
set_self (x ∷ xs) (suc i) = ap (λ ys. x ∷ ys) (set_self xs i)

-- a look changes nothing
pub looks : (n l slots id : ℕ) (me : Seated) → Allows (Boarded n l) slots id me 0 (λ z. z) (HasEachOnce (step slots 0 0 0 none) me)
looks n l slots id me s r _ at _ = (
  me.0,
  keeps,
  tt,
  record {
    accounts = r.accounts;
    words = set_self s.words 0 ∙ r.words;
    held = subst (λ (views : List (List Account)). Held n views r.accounts) (sym (set_again s.views id me.0 at)) r.held;
    core = r.core;
    scans = r.scans;
    ticks = r.ticks;
    limit = r.limit;
  },
  (refl, λ d. let l = total-at (of_desk d) s.views id me.0 at in let o = r.held.once d in let z = once_least d n in omega arith),
)

-- the clock stays small
pub clock_most : (n l : ℕ) (s : St) (r : Boarded n l s) → clock r.accounts ≤ n * l
clock_most n l s r = subst (λ z. clock r.accounts ≤ z * l) r.core.size (bound r.accounts r.limit)
  where
    bound : (xs : List Account) → ((i : ℕ) (a : Account) → get_elem? xs i ≡ some a → a.ticks ≤ l) → clock xs ≤ length xs * l
    bound [] small = omega arith
    bound (x ∷ xs) small = let o = small 0 x refl in let r = bound xs (λ i a e. small (suc i) a e) in let m = suc-mul (length xs) l in omega (arith, o, r, m)

pub clock_small : (n l : ℕ) (s : St) (r : Boarded n l s) → n ≤ 8 → l ≤ tick_cap → clock r.accounts ≤ 8 * tick_cap
clock_small n l s r few low = let m = clock_most n l s r in let p = mul-le-mul_right l few in omega (arith, m, p, low)
