-- The desks that are in, as one goes out or comes in.
use Rattle.std.proofs.Common.{◌≡◌, ℕ, zero, suc, ◌+◌, ◌<◌, ◌≤◌, ◌≢◌, Bool, true, false, true≢false, cond, nat_lt, List, [], ◌∷◌, ◌++◌, length, map, take, set, replicate, get_or, Option, Some, None, IsSome, sym, refl, ap, ◌∙◌, subst, inl, inr, ⊎_elim, arith, get_or-set_other, get_or-set_same, length-append, lt-ltb, le-ltb}
use native.Mathlib.Decide.{dec_le, ℕ_discrete}
use Rattle.std.specs.Prelude.{slice_index_or}
use Rattle.std.proofs.lemmas.List.{take-replicate, length-map}
use Rattle.snap_account.specs.declared.account.Account.{Account}
use Rattle.snap_account.specs.declared.account.Doing.TheVariants.{Idle}
use Rattle.snap_board.specs.declared.desk_state.DeskState.{DeskState}
use Rattle.snap_account.specs.Calls.{Mem, writes_in, latest}
use Rattle.snap_account.specs.Limits.{tick_cap}
use Rattle.snap_account.specs.Rule.{newcomers, of_desk}
use Rattle.snap_account.specs.Plays.{Seated, merge, insert, only_first, but_first}
use Rattle.snap_account.specs.Seats.{Brief, brief, idle, answered_of}
use Rattle.snap_board.specs.inside.Slots.{desks_in, slot_brief, brief_of, AreSmall, AllIn, NoneFrom, Fresh, no_calls, kept_entry, HasLast}
use Rattle.snap_board.specs.Settled.{AreUpTo, Settled, LastStores}
use Rattle.snap_account.proofs.Lists.{mem_split, mem_right, mem_one, numbered_positive}
use Rattle.snap_account.proofs.Seats.{mem_count}
use Rattle.snap_board.proofs.Listing.{entry_at, last_entry}
use Rattle.snap_board.proofs.Accounts.{hand_low}
use Rattle.snap_board.specs.Boards.{ClosedView}
use Rattle.snap_board.proofs.Closing.{idle_doing, mem_map}

abbrev pub insert_brief : Brief → List Brief → List Brief
insert_brief x [] = x ∷ []
insert_brief x (c ∷ v) = cond (nat_lt c.desk x.desk) (x ∷ c ∷ v) (c ∷ insert_brief x v)

map_cond : (b : Bool) (xs ys : List Account) (us vs : List Brief) → map brief xs ≡ us → map brief ys ≡ vs → map brief (cond b xs ys) ≡ cond b us vs
map_cond true xs ys us vs e e' = e
map_cond false xs ys us vs e e' = e'

map_insert : (a : Account) (v : List Account) → map brief (insert a v) ≡ insert_brief (brief a) (map brief v)
map_insert a [] = refl
map_insert a (c ∷ v) = map_cond (nat_lt c.desk a.desk) (a ∷ c ∷ v) (c ∷ insert a v) _ _ refl (ap (λ l. brief c ∷ l) (map_insert a v))

ins_below : (m : ℕ) (slots : List (Option DeskState)) (x : Brief) → Mem x (desks_in m slots) → x.desk < m
ins_below zero slots x q = absurd q
ins_below (suc m) slots x q = ⊎_elim (λ a. one (slice_index_or slots m None) a) (λ b. let r = ins_below m slots x b in omega arith) (mem_split (slot_brief m (slice_index_or slots m None)) (desks_in m slots) x q)
  where
    one : (o : Option DeskState) → Mem x (slot_brief m o) → x.desk < suc m
    one None a = absurd a
    one (Some k) a = let e = ap (λ (z : Brief). z.desk) (mem_one x (brief_of m k) a) in omega arith

insert_front : (x : Brief) (l : List Brief) → ((c : Brief) → Mem c l → c.desk < x.desk) → insert_brief x l ≡ x ∷ l
insert_front x [] below = refl
insert_front x (c ∷ l) below = ap (λ b. cond b (x ∷ c ∷ l) (c ∷ insert_brief x l)) (lt-ltb c.desk x.desk (below c (inl refl)))

insert_behind : (x c : Brief) (l : List Brief) → x.desk < c.desk → insert_brief x (c ∷ l) ≡ c ∷ insert_brief x l
insert_behind x c l lt = ap (λ b. cond b (x ∷ c ∷ l) (c ∷ insert_brief x l)) (le-ltb c.desk x.desk (omega arith))

-- a slot at m or above does not matter below m
pub ins_set_above : (m d : ℕ) (slots : List (Option DeskState)) (y : Option DeskState) → m ≤ d → desks_in m (set slots d y) ≡ desks_in m slots
ins_set_above zero d slots y le = refl
ins_set_above (suc m) d slots y le =
    let ne : m ≢ d = λ e. omega arith in
    let here : slice_index_or (set slots d y) m None ≡ slice_index_or slots m None = get_or-set_other slots d m y None ne in
    let rest = ins_set_above m d slots y (omega arith) in
    λ i. slot_brief m (here i) ++ rest i

pub ins_put : (n d : ℕ) (slots : List (Option DeskState)) (k : DeskState) → d < n → n ≤ length slots → slice_index_or slots d None ≡ None → insert_brief (brief_of d k) (desks_in n slots) ≡ desks_in n (set slots d (Some k))
ins_put zero d slots k lt le free = absurd (omega arith)
ins_put (suc m) d slots k lt le free = at (ℕ_discrete d m) (λ l. ins_put m d slots k l (omega arith) free)
  where
    same : (o : Option DeskState) → d ≡ m → o ≡ None → insert_brief (brief_of d k) (slot_brief m o ++ desks_in m slots) ≡ brief_of d k ∷ desks_in m slots
    same None e none = insert_front (brief_of d k) (desks_in m slots) (λ c q. let r = ins_below m slots c q in omega arith)
    same (Some j) e none = absurd (cc)

    behind : (o : Option DeskState) → d < m → insert_brief (brief_of d k) (desks_in m slots) ≡ desks_in m (set slots d (Some k)) → insert_brief (brief_of d k) (slot_brief m o ++ desks_in m slots) ≡ slot_brief m o ++ desks_in m (set slots d (Some k))
    behind None l e = e
    behind (Some j) l e = insert_behind (brief_of d k) (brief_of m j) (desks_in m slots) l ∙ ap (λ z. brief_of m j ∷ z) e

    at : Dec (d ≡ m) → (d < m → insert_brief (brief_of d k) (desks_in m slots) ≡ desks_in m (set slots d (Some k))) → insert_brief (brief_of d k) (slot_brief m (slice_index_or slots m None) ++ desks_in m slots) ≡ slot_brief m (slice_index_or (set slots d (Some k)) m None) ++ desks_in m (set slots d (Some k))
    at (yes e) rest =
        let here : slice_index_or (set slots d (Some k)) m None ≡ Some k = ap (λ z. slice_index_or (set slots d (Some k)) z None) (sym e) ∙ get_or-set_same slots d (Some k) None (omega arith) in
        let low = ins_set_above m d slots (Some k) (omega arith) in
        same (slice_index_or slots m None) e (ap (λ z. slice_index_or slots z None) (sym e) ∙ free) ∙ (λ i. brief_of (e i) k ∷ sym low i) ∙ (λ i. slot_brief m (sym here i) ++ desks_in m (set slots d (Some k)))
    at (no ne) rest =
        let l : d < m = omega arith in
        let here : slice_index_or (set slots d (Some k)) m None ≡ slice_index_or slots m None = get_or-set_other slots d m (Some k) None (λ e. ne (sym e)) in
        behind (slice_index_or slots m None) l (rest l) ∙ (λ i. slot_brief m (sym here i) ++ desks_in m (set slots d (Some k)))

-- nothing is in from d on
pub ins_none : (n d : ℕ) (slots : List (Option DeskState)) → d ≤ n → NoneFrom d n slots → desks_in n slots ≡ desks_in d slots
ins_none zero d slots le none = let e : 0 ≡ d = omega arith in ap (λ z. desks_in z slots) e
ins_none (suc m) d slots le none = at (dec_le d m) (λ l. ins_none m d slots l (λ j a b. none j a (omega arith)))
  where
    at : Dec (d ≤ m) → (d ≤ m → desks_in m slots ≡ desks_in d slots) → slot_brief m (slice_index_or slots m None) ++ desks_in m slots ≡ desks_in d slots
    at (yes l) rest = ap (λ o. slot_brief m o ++ desks_in m slots) (none m l (omega arith)) ∙ rest l
    at (no nl) rest = let e : suc m ≡ d = omega arith in ap (λ z. desks_in z slots) e

no_hand : (hand : List Account) → map brief hand ≡ [] → hand ≡ []
no_hand [] e = refl
no_hand (a ∷ hand) e = absurd (cc)

-- where no desk is in there is no account
pub none_in : (n : ℕ) (slots : List (Option DeskState)) (hand : List Account) → map brief hand ≡ desks_in n slots → NoneFrom 0 n slots → hand ≡ []
none_in n slots hand e none = no_hand hand (e ∙ ins_none n 0 slots (omega arith) none)

pub ins_top : (n d : ℕ) (slots : List (Option DeskState)) (k : DeskState) → d < n → slice_index_or slots d None ≡ Some k → NoneFrom (d + 1) n slots → desks_in n slots ≡ brief_of d k ∷ desks_in d slots
ins_top n d slots k lt here none =
    let e : suc d ≡ d + 1 = omega arith in
    ins_none n (suc d) slots (omega arith) (subst (λ (z : ℕ). NoneFrom z n slots) (sym e) none) ∙ ap (λ o. slot_brief d o ++ desks_in d slots) here

set_none : (slots : List (Option DeskState)) (d : ℕ) → get_or (set slots d None) d None ≡ None
set_none [] d = refl
set_none (x ∷ slots) zero = refl
set_none (x ∷ slots) (suc d) = set_none slots d

pub ins_clear : (n d : ℕ) (slots : List (Option DeskState)) → d < n → NoneFrom (d + 1) n slots → desks_in n (set slots d None) ≡ desks_in d slots
ins_clear n d slots lt none = ins_none n d (set slots d None) (omega arith) (λ j le l. at j le l (ℕ_discrete j d)) ∙ ins_set_above d d slots None (omega arith)
  where
    at : (j : ℕ) → d ≤ j → j < n → Dec (j ≡ d) → slice_index_or (set slots d None) j None ≡ None
    at j le l (yes e) = ap (λ z. slice_index_or (set slots d None) z None) e ∙ set_none slots d
    at j le l (no ne) = get_or-set_other slots d j None None ne ∙ none j (omega arith) l

pub ins_fresh : (n m : ℕ) (slots : List (Option DeskState)) → m ≤ n → Fresh n slots → map brief (newcomers m) ≡ desks_in m slots
ins_fresh n zero slots le fresh = refl
ins_fresh n (suc m) slots le fresh =
    let here : slice_index_or slots m None ≡ Some no_calls = fresh m ∙ ap (λ b. cond b (Some no_calls) None) (lt-ltb m n (omega arith)) in
    let rest = ins_fresh n m slots (omega arith) fresh in
    λ i. slot_brief m (sym here i) ++ rest i

some_kept : (x y : DeskState) → Some x ≡ Some y → x ≡ y
some_kept x y e = ap (of x) e
  where
    of : DeskState → Option DeskState → DeskState
    of d None = d
    of d (Some z) = z

pub smalls_fresh : (n : ℕ) (slots : List (Option DeskState)) → Fresh n slots → AreSmall slots
smalls_fresh n slots fresh d k e = by (nat_lt d n) (sym (fresh d) ∙ e)
  where
    by : (b : Bool) → cond b (Some no_calls) None ≡ Some k → (k.stores ≤ k.ticks) × (k.ticks ≤ tick_cap)
    by true q = let is = some_kept no_calls k q in let a = ap (λ (z : DeskState). z.stores) is in let c = ap (λ (z : DeskState). z.ticks) is in (omega arith, omega arith)
    by false q = absurd (cc)

pub smalls_put : (slots : List (Option DeskState)) (d : ℕ) (k : DeskState) → AreSmall slots → (k.stores ≤ k.ticks) × (k.ticks ≤ tick_cap) → d < length slots → AreSmall (set slots d (Some k))
smalls_put slots d k small mine lt j y e = at (ℕ_discrete j d)
  where
    at : Dec (j ≡ d) → (y.stores ≤ y.ticks) × (y.ticks ≤ tick_cap)
    at (yes q) = let is : k ≡ y = some_kept k y (sym (get_or-set_same slots d (Some k) None lt) ∙ ap (λ z. slice_index_or (set slots d (Some k)) z None) (sym q) ∙ e) in
        subst (λ (z : DeskState). (z.stores ≤ z.ticks) × (z.ticks ≤ tick_cap)) is mine
    at (no ne) = small j y (sym (get_or-set_other slots d j (Some k) None ne) ∙ e)

pub smalls_clear : (slots : List (Option DeskState)) (d : ℕ) → AreSmall slots → AreSmall (set slots d None)
smalls_clear slots d small j y e = at (ℕ_discrete j d)
  where
    at : Dec (j ≡ d) → (y.stores ≤ y.ticks) × (y.ticks ≤ tick_cap)
    at (yes q) = absurd (none_some (sym (set_none slots d) ∙ ap (λ z. slice_index_or (set slots d None) z None) (sym q) ∙ e))
      where
        none_some : None ≡ Some y → ⊥
        none_some p = cc
    at (no ne) = small j y (sym (get_or-set_other slots d j None None ne) ∙ e)

-- the hand, where its highest desk is d
pub head_of : (hand : List Account) (x : Brief) (xs : List Brief) → map brief hand ≡ x ∷ xs → (a : Account) × (only_first hand ≡ a ∷ []) × (brief a ≡ x) × (map brief (but_first hand) ≡ xs)
head_of [] x xs e = absurd (cc)
head_of (a ∷ hand) x xs e = (a, refl, first e, ap (tail_of xs) e)
  where
    head_or : Brief → List Brief → Brief
    head_or d [] = d
    head_or d (z ∷ zs) = z

    tail_of : List Brief → List Brief → List Brief
    tail_of d [] = d
    tail_of d (z ∷ zs) = zs

    first : brief a ∷ map brief hand ≡ x ∷ xs → brief a ≡ x
    first q = ap (head_or x) q

-- what a desk gets that goes out
pub out_of : (me now : Seated) (d : ℕ) (k : DeskState) (xs : List Brief) → map brief me.0 ≡ brief_of d k ∷ xs → now ≡ (only_first me.0, [])
    → (now ≡ (idle d (answered_of now.0) k.ticks ∷ [], [])) × (latest (0, 0) (answered_of now.0) ≡ (k.stores, k.value))
out_of me now d k xs e is =
    let h = head_of me.0 (brief_of d k) xs e in
    let whole : now ≡ (h.0 ∷ [], []) = is ∙ (λ i. (h.1 i, [])) in
    let rs : answered_of now.0 ≡ h.0.calls = ap (λ (m : Seated). answered_of m.0) whole in
    let desk : h.0.desk ≡ d = ap (λ (z : Brief). z.desk) h.2 in
    let ticks : h.0.ticks ≡ k.ticks = ap (λ (z : Brief). z.ticks) h.2 in
    let doing : h.0.doing ≡ Idle = idle_doing h.0.doing (ap (λ (z : Brief). z.idle) h.2) in (
      whole ∙ (λ i. (record { desk = desk i; calls = sym rs i; doing = doing i; ticks = ticks i } ∷ [], [])),
      ap (λ r. latest (0, 0) r) rs ∙ (λ i. ((h.2 i).number, (h.2 i).value)),
    )

from_map : (b : Brief) (l : List Account) → Mem b (map brief l) → (a : Account) × Mem a l × (brief a ≡ b)
from_map b [] m = absurd m
from_map b (x ∷ l) m = ⊎_elim (λ e. (x, inl refl, e)) (λ q. let r = from_map b l q in (r.0, inr r.1, r.2)) m

ins_there : (n d : ℕ) (slots : List (Option DeskState)) (k : DeskState) → d < n → slice_index_or slots d None ≡ Some k → Mem (brief_of d k) (desks_in n slots)
ins_there zero d slots k lt is = absurd (omega arith)
ins_there (suc m) d slots k lt is = at (ℕ_discrete d m) (λ l. ins_there m d slots k l is)
  where
    at : Dec (d ≡ m) → (d < m → Mem (brief_of d k) (desks_in m slots)) → Mem (brief_of d k) (slot_brief m (slice_index_or slots m None) ++ desks_in m slots)
    at (yes e) rest = subst (λ (o : Option DeskState). Mem (brief_of d k) (slot_brief m o ++ desks_in m slots)) (sym (ap (λ z. slice_index_or slots z None) (sym e) ∙ is)) (inl (ap (λ z. brief_of z k) (sym e)))
    at (no ne) rest = mem_right (slot_brief m (slice_index_or slots m None)) (desks_in m slots) (brief_of d k) (rest (omega arith))

-- nothing is kept of a desk that is out
pub free_slot : (n d : ℕ) (slots : List (Option DeskState)) (hand : List Account) → map brief hand ≡ desks_in n slots → d < n → of_desk d hand ≡ 0 → slice_index_or slots d None ≡ None
free_slot n d slots hand e lt none = one (slice_index_or slots d None) refl
  where
    one : (o : Option DeskState) → slice_index_or slots d None ≡ o → slice_index_or slots d None ≡ None
    one None is = is
    one (Some k) is =
        let t = from_map (brief_of d k) hand (subst (λ (l : List Brief). Mem (brief_of d k) l) (sym e) (ins_there n d slots k lt is)) in
        let c : 1 ≤ of_desk d hand = subst (λ (z : ℕ). 1 ≤ of_desk z hand) (ap (λ (z : Brief). z.desk) t.2) (mem_count t.0 hand t.1) in absurd (omega arith)

-- the desk that comes in
pub put_in : (n d : ℕ) (slots : List (Option DeskState)) (k : DeskState) (hand : List Account) (me : Seated) → map brief hand ≡ desks_in n slots → d < n → n ≤ length slots → slice_index_or slots d None ≡ None
    → me ≡ (idle d (answered_of me.0) k.ticks ∷ [], []) → latest (0, 0) (answered_of me.0) ≡ (k.stores, k.value) → map brief (merge hand me.0) ≡ desks_in n (set slots d (Some k))
put_in n d slots k hand me is lt le free alone stored =
    let a = idle d (answered_of me.0) k.ticks in
    let b : brief a ≡ brief_of d k = λ i. record { desk = d; ticks = k.ticks; number = (stored i).0; value = (stored i).1; idle = true } in
    ap (λ (m : Seated). map brief (merge hand m.0)) alone ∙ map_insert a hand ∙ (λ i. insert_brief (b i) (is i)) ∙ ins_put n d slots k lt le free

pub zero_words : (n w : ℕ) → n ≤ 8 → w ≡ n + 1 → take {A = ℕ} w (replicate {A = ℕ} 9 0) ≡ replicate {A = ℕ} (suc n) 0
zero_words n w le is = let e : w ≡ suc n = omega arith in ap (λ z. take {A = ℕ} z (replicate {A = ℕ} 9 0)) e ∙ take-replicate (suc n) 9 0 (omega arith)

ins_kept : (n : ℕ) (slots : List (Option DeskState)) (x : Brief) → Mem x (desks_in n slots) → (k : DeskState) × (slice_index_or slots x.desk None ≡ Some k) × (brief_of x.desk k ≡ x)
ins_kept zero slots x m = absurd m
ins_kept (suc n) slots x m = ⊎_elim (λ a. one (slice_index_or slots n None) refl a) (λ b. ins_kept n slots x b) (mem_split (slot_brief n (slice_index_or slots n None)) (desks_in n slots) x m)
  where
    one : (o : Option DeskState) → slice_index_or slots n None ≡ o → Mem x (slot_brief n o) → (k : DeskState) × (slice_index_or slots x.desk None ≡ Some k) × (brief_of x.desk k ≡ x)
    one None e a = absurd a
    one (Some k) e a =
        let is = mem_one x (brief_of n k) a in
        let d : n ≡ x.desk = ap (λ (z : Brief). z.desk) is in
        (k, ap (λ z. slice_index_or slots z None) (sym d) ∙ e, ap (λ z. brief_of z k) (sym d) ∙ is)

pub last_stores : (n : ℕ) (c : ClosedView) (slots : List (Option DeskState)) (hand : List Account) → c.desks ≡ n → HasLast n slots c.last → Settled n hand → map brief hand ≡ desks_in n slots → LastStores c hand
last_stores n c slots hand size has h matches a m =
    let q = ins_kept n slots (brief a) (subst (λ (l : List Brief). Mem (brief a) l) matches (mem_map brief hand a m)) in
    let low = hand_low n hand h.desks a m in
    let stored : latest (0, 0) a.calls ≡ (q.0.stores, q.0.value) = λ i. ((sym q.2 i).number, (sym q.2 i).value) in
    ap (λ b. cond b (slice_index_or c.last a.desk None) None) (lt-ltb a.desk c.desks (omega arith)) ∙ has a.desk (omega arith)
    ∙ ap (kept_entry a.desk) q.1 ∙ ap (entry_at a.desk) (sym stored)
    ∙ last_entry a.desk (0, 0) a.calls (numbered_positive 1 (writes_in a.calls) (omega arith) (h.numbered a m))

pub length_more : (d : ℕ) (slots : List (Option DeskState)) → length (desks_in (suc d) slots) ≡ length (slot_brief d (slice_index_or slots d None)) + length (desks_in d slots)
length_more d slots = length-append (slot_brief d (slice_index_or slots d None)) (desks_in d slots)

-- no more desks are in than there are
ins_most : (n : ℕ) (slots : List (Option DeskState)) → length (desks_in n slots) ≤ n
ins_most zero slots = omega arith
ins_most (suc n) slots = let r = ins_most n slots in let m = length_more n slots in let o = one (slice_index_or slots n None) in omega arith
  where
    one : (o : Option DeskState) → length (slot_brief n o) ≤ 1
    one None = omega arith
    one (Some k) = omega arith

ins_whole : (n : ℕ) (slots : List (Option DeskState)) → AllIn n slots → length (desks_in n slots) ≡ n
ins_whole zero slots all = refl
ins_whole (suc n) slots all = let r = ins_whole n slots (λ d lt. all d (omega arith)) in let m = length_more n slots in let o = one (slice_index_or slots n None) (all n (omega arith)) in omega arith
  where
    one : (o : Option DeskState) → IsSome o → length (slot_brief n o) ≡ 1
    one None here = absurd (true≢false (sym here))
    one (Some k) here = refl

whole_ins : (n : ℕ) (slots : List (Option DeskState)) → length (desks_in n slots) ≡ n → AllIn n slots
whole_ins zero slots e d lt = absurd (omega arith)
whole_ins (suc n) slots e d lt = let m = length_more n slots in let l = ins_most n slots in at (ℕ_discrete d n) (omega arith) (λ less. whole_ins n slots (let o = none (slice_index_or slots n None) in omega arith) d less)
  where
    none : (o : Option DeskState) → length (slot_brief n o) ≤ 1
    none None = omega arith
    none (Some k) = omega arith

    one : (o : Option DeskState) → 1 ≤ length (slot_brief n o) → IsSome o
    one None some_in = absurd (omega arith)
    one (Some k) some_in = refl

    at : Dec (d ≡ n) → 1 ≤ length (slot_brief n (slice_index_or slots n None)) → (d < n → IsSome (slice_index_or slots d None)) → IsSome (slice_index_or slots d None)
    at (yes is) here rest = subst (λ (z : ℕ). IsSome (slice_index_or slots z None)) (sym is) (one (slice_index_or slots n None) here)
    at (no ne) here rest = rest (omega arith)

-- all desks are in exactly where there are as many accounts
pub all_held : (n : ℕ) (slots : List (Option DeskState)) (hand : List Account) → map brief hand ≡ desks_in n slots → AllIn n slots → length hand ≡ n
all_held n slots hand e all = sym (length-map hand brief) ∙ ap length e ∙ ins_whole n slots all

pub held_all : (n : ℕ) (slots : List (Option DeskState)) (hand : List Account) → map brief hand ≡ desks_in n slots → length hand ≡ n → AllIn n slots
held_all n slots hand e full = whole_ins n slots (ap length (sym e) ∙ length-map hand brief ∙ full)

-- the highest desk that is in
pub up_to : (d : ℕ) (k : DeskState) (slots : List (Option DeskState)) (hand : List Account) → map brief hand ≡ brief_of d k ∷ desks_in d slots → AreUpTo d hand
up_to d k slots hand e a m = ⊎_elim
    (λ (q : brief_of d k ≡ brief a). let s = ap (λ (z : Brief). z.desk) q in omega arith)
    (λ q. let l = ins_below d slots (brief a) q in omega arith)
    (subst (λ (l : List Brief). Mem (brief a) l) e (mem_map brief hand a m))
