-- Each step keeps the rule of the counter.
use Rattle.std.proofs.Common.{◌≡◌, ℕ, zero, suc, ◌+◌, ◌-◌, ◌%◌, ◌^◌, ◌<◌, ◌≤◌, ◌≢◌, ◌⊎◌, List, [], ◌∷◌, ◌++◌, length, set, sym, refl, ap, ◌∙◌, subst, inl, inr, ⊎_elim, arith, length-set, get_or-set_same, length-append}
use mathlib.Core.Option.{none, some, some-injective, some-ne-none}
use lib.ListN.{get_elem?}
use Rattle.std.specs.Prelude.{slice_index}
use Rattle.atomic_table.specs.Table.{State, Me, step, keeps, stepped, opening, Allows, Splits, Joins}
use Rattle.atomic_table.proofs.Lists.{at_set, at_snoc}
use Rattle.snap_core.specs.Sums.{once_below, times, total}
use Rattle.snap_core.proofs.Sums.{total-append, total-at, total-le, total-set}
use Rattle.snap_threads.specs.inside.Draws.{past, empties, IsDrawn, only_first, but_first, add_first, DrawsFound}
use Rattle.snap_threads.specs.Draws.{Hand, first_of}
use Rattle.snap_threads.proofs.Totals.{few, alone, past-push, times-push, once_more, above_more, at_most_one, none_low, one_high, once_low, never_below}

abbrev St : Type 0
St = State (Unit {0}) Hand

-- the counter has not passed the pieces by more than the workers
pub counter_small : (p w : ℕ) (s : St) → IsDrawn p w s → slice_index s.words 0 ≤ p + w
counter_small p w s r =
    let h = total-le (λ v. total (past p) v) (λ v. length v) s.views (λ i v e. short p v (λ j xs e'. r.one i v e j xs e')) in
    let a = r.above in let l = r.lists in omega arith
  where
    short : (p : ℕ) (v : Hand) → ((j : ℕ) (xs : List ℕ) → get_elem? v j ≡ some xs → past p xs ≤ 1) → total (past p) v ≤ length v
    short p [] h = omega arith
    short p (xs ∷ v) h = let a = h 0 xs refl in let b = short p v (λ j ys e. h (suc j) ys e) in omega arith

pub draws : (p w slots id : ℕ) (me : Me (Unit {0}) Hand) (xs : List ℕ) → p + w < 1048576 → me.0 ≡ xs ∷ [] → past p xs ≡ 0
    → Allows (IsDrawn p w) slots id me 0 (λ n. (n + 1) % 2 ^ 64) (DrawsFound (step slots 0 1 0 none) me)
draws p w slots id me xs room is fresh s r _ at small =
    let n : ℕ = slice_index s.words 0 in
    let bound = counter_small p w s r in
    let next : (n + 1) % 2 ^ 64 ≡ n + 1 = omega arith in
    let new : Hand = (xs ++ n ∷ []) ∷ [] in
    let at' : get_elem? s.views id ≡ some (xs ∷ []) = at ∙ ap some is in
    let wide = r.words in
    let counter : slice_index (set s.words 0 (n + 1)) 0 ≡ n + 1 = get_or-set_same s.words 0 (n + 1) 0 (omega arith) in (
      new,
      keeps,
      tt,
      subst (λ (m : ℕ). IsDrawn p w (stepped s 0 m id me.1 new keeps)) (sym next) (record {
        words = length-set s.words 0 (n + 1) ∙ r.words;
        each = λ x. let t = total-set (λ v. total (times x) v) s.views id (xs ∷ []) new at' in let e = r.each x in let more = times-push x n xs in let one = once_more x n in
            let is' : once_below x (slice_index (set s.words 0 (n + 1)) 0) ≡ once_below x (n + 1) = ap (once_below x) counter in omega arith;
        one = λ seat v e j ys e'. ⊎_elim
            (λ (t : (seat ≡ id) × (new ≡ v)). mine j ys (subst (λ (u : Hand). get_elem? u j ≡ some ys) (sym t.1) e'))
            (λ (t : (seat ≢ id) × (get_elem? s.views seat ≡ some v)). r.one seat v t.1 j ys e')
            (at_set s.views id seat new v e);
        lists = let t = total-set (λ v. length v) s.views id (xs ∷ []) new at' in let l = r.lists in omega arith;
        above = let t = total-set (λ v. total (past p) v) s.views id (xs ∷ []) new at' in let a = r.above in let more = past-push p n xs in let one = above_more p n in
            let is' : slice_index (set s.words 0 (n + 1)) 0 - p ≡ n + 1 - p = ap (λ (m : ℕ). m - p) counter in omega arith;
      }),
      ((λ i. (ap (add_first n) (sym is) i, me.1)), subst (λ (h : Hand). length (first_of h) ≤ n) (sym is) (few n xs (below at'))),
    )
  where
    below : get_elem? s.views id ≡ some (xs ∷ []) → (x : ℕ) → times x xs ≤ once_below x (slice_index s.words 0)
    below at x = let e = r.each x in let a = total-at (λ v. total (times x) v) s.views id (xs ∷ []) at in omega arith

    mine : (j : ℕ) (ys : List ℕ) → get_elem? ((xs ++ slice_index s.words 0 ∷ []) ∷ []) j ≡ some ys → past p ys ≤ 1
    mine zero ys e = let is : past p (xs ++ slice_index s.words 0 ∷ []) ≡ past p ys = ap (past p) (some-injective _ _ e) in
        let more = past-push p (slice_index s.words 0) xs in let one = at_most_one p (slice_index s.words 0) in omega arith
    mine (suc j) ys e = absurd (some-ne-none ys (sym e))

-- what a draw leaves of a claim
pub lone_after : (me now : Me (Unit {0}) Hand) (n : ℕ) → me ≡ (first_of me.0 ∷ [], []) → now ≡ (add_first n me.0, me.1)
    → (now ≡ (first_of now.0 ∷ [], [])) × (first_of now.0 ≡ first_of me.0 ++ n ∷ [])
lone_after me now n is told =
    let front : add_first n me.0 ≡ (first_of me.0 ++ n ∷ []) ∷ [] = ap (λ m. add_first n m.0) is in
    let whole : now ≡ ((first_of me.0 ++ n ∷ []) ∷ [], []) = told ∙ (λ i. (front i, (is i).1)) in
    let first : first_of now.0 ≡ first_of me.0 ++ n ∷ [] = ap (λ m. first_of m.0) whole in
    (whole ∙ (λ i. (sym first i ∷ [], [])), first)

pub past_low : (p n : ℕ) (before after : Hand) → first_of after ≡ first_of before ++ n ∷ [] → n < p → past p (first_of after) ≡ past p (first_of before)
past_low p n before after is low = ap (past p) is ∙ (let a = past-push p n (first_of before) in let b = none_low p n low in omega arith)

pub past_high : (p n : ℕ) (before after : Hand) → first_of after ≡ first_of before ++ n ∷ [] → p ≤ n → past p (first_of before) ≡ 0 → past p (first_of after) ≡ 1
past_high p n before after is high zero_before = ap (past p) is ∙ (let a = past-push p n (first_of before) in let b = one_high p n high in omega arith)

-- at the start
pub begins : (p w : ℕ) → IsDrawn p w (opening (0 ∷ []) [] (empties w))
begins p w = record {
  words = refl;
  each = λ x. omega (arith, none x w, never x);
  one = λ seat v e j xs e'. few seat v e j xs e';
  lists = omega (arith, count w);
  above = omega (arith, low p w);
}
  where
    never : (x : ℕ) → once_below x 0 ≡ 0
    never x = never_below x

    none : (x n : ℕ) → total (times x) (empties n) ≡ 0
    none x zero = refl
    none x (suc n) = omega (arith, none x n)

    count : (n : ℕ) → length (empties n) ≡ n
    count zero = refl
    count (suc n) = omega (arith, count n)

    low : (q n : ℕ) → total (past q) (empties n) ≡ 0
    low q zero = refl
    low q (suc n) = omega (arith, low q n)

    empty : (n j : ℕ) (xs : List ℕ) → get_elem? (empties n) j ≡ some xs → xs ≡ []
    empty zero j xs e = absurd (some-ne-none xs (sym e))
    empty (suc n) zero xs e = sym (some-injective _ _ e)
    empty (suc n) (suc j) xs e = empty n j xs e

    few : (seat : ℕ) (v : Hand) → get_elem? (empties w ∷ []) seat ≡ some v → (j : ℕ) (xs : List ℕ) → get_elem? v j ≡ some xs → past p xs ≤ 1
    few zero v e j xs e' = let is = empty w j xs (ap (λ (u : Hand). get_elem? u j) (some-injective _ _ e) ∙ e') in let z : past p xs ≡ 0 = ap (past p) is in omega arith
    few (suc seat) v e j xs e' = absurd (some-ne-none v (sym e))

-- a list that stands in one of two views stood in the view that they were cut from, or stands in the view that they became
pub splits : (p w id : ℕ) (v : Hand) → Splits (IsDrawn p w) id v (but_first v) (only_first v)
splits p w id v s r at =
    let vs : List Hand = set s.views id (but_first v) in
    let sums : (f : List ℕ → ℕ) → total (λ u. total f u) (vs ++ only_first v ∷ []) ≡ total (λ u. total f u) s.views =
    λ f. (let a = total-append (λ u. total f u) vs (only_first v ∷ []) in let b = total-set (λ u. total f u) s.views id v (but_first v) at in let d = cut f v in omega arith) in
    record {
      words = r.words;
      each = λ x. sums (times x) ∙ r.each x;
      one = λ seat u e j xs e'. ⊎_elim
          (λ was. ⊎_elim
          (λ (t : (seat ≡ id) × (but_first v ≡ u)). r.one id v at (suc j) xs (later v j xs (ap (λ (y : Hand). get_elem? y j) t.1 ∙ e')))
          (λ (t : (seat ≢ id) × (get_elem? s.views seat ≡ some u)). r.one seat u t.1 j xs e')
          (at_set s.views id seat (but_first v) u was))
          (λ (is : only_first v ≡ u). r.one id v at j xs (sooner v j xs (ap (λ (y : Hand). get_elem? y j) is ∙ e')))
          (at_snoc vs (only_first v) u seat e);
      lists = let a = total-append (λ (u : Hand). length u) vs (only_first v ∷ []) in let b = total-set (λ (u : Hand). length u) s.views id v (but_first v) at in let d = cut_length v in let l = r.lists in omega arith;
      above = sums (past p) ∙ r.above;
    }
  where
    cut : (f : List ℕ → ℕ) (u : Hand) → total f (but_first u) + total f (only_first u) ≡ total f u
    cut f [] = refl
    cut f (x ∷ xs) = omega arith

    cut_length : (u : Hand) → length (but_first u) + length (only_first u) ≡ length u
    cut_length [] = refl
    cut_length (x ∷ xs) = omega arith

    later : (u : Hand) (j : ℕ) (xs : List ℕ) → get_elem? (but_first u) j ≡ some xs → get_elem? u (suc j) ≡ some xs
    later [] j xs e = absurd (some-ne-none xs (sym e))
    later (y ∷ ys) j xs e = e

    sooner : (u : Hand) (j : ℕ) (xs : List ℕ) → get_elem? (only_first u) j ≡ some xs → get_elem? u j ≡ some xs
    sooner [] j xs e = absurd (some-ne-none xs (sym e))
    sooner (y ∷ ys) zero xs e = e
    sooner (y ∷ ys) (suc j) xs e = absurd (some-ne-none xs (sym e))

pub joins : (p w id : ℕ) (v : Hand) (other : ℕ) (u : Hand) → Joins (IsDrawn p w) id v other u (v ++ u) []
joins p w id v other u s r at apart there =
    let vs : List Hand = set s.views id (v ++ u) in
    let sums : (f : List ℕ → ℕ) → total (λ y. total f y) (set vs other []) ≡ total (λ y. total f y) s.views =
    λ f. (let a = total-set (λ y. total f y) vs other u [] there in let b = total-set (λ y. total f y) s.views id v (v ++ u) at in let d = total-append f v u in omega arith) in
    let was : get_elem? s.views other ≡ some u = ⊎_elim (λ (t : (other ≡ id) × (v ++ u ≡ u)). absurd (apart t.0)) (λ (t : (other ≢ id) × (get_elem? s.views other ≡ some u)). t.1) (at_set s.views id other (v ++ u) u there) in
    record {
      words = r.words;
      each = λ x. sums (times x) ∙ r.each x;
      one = λ seat y e j xs e'. ⊎_elim
          (λ (t : (seat ≡ other) × ([] ≡ y)). absurd (some-ne-none xs (sym e' ∙ sym (ap (λ (z : Hand). get_elem? z j) t.1))))
          (λ (t : (seat ≢ other) × (get_elem? vs seat ≡ some y)). ⊎_elim
          (λ (q : (seat ≡ id) × (v ++ u ≡ y)). ⊎_elim (λ a. r.one id v at j xs a) (λ (b : (i : ℕ) × (get_elem? u i ≡ some xs)). r.one other u was b.0 xs b.1) (either_of v u j xs (ap (λ (z : Hand). get_elem? z j) q.1 ∙ e')))
          (λ (q : (seat ≢ id) × (get_elem? s.views seat ≡ some y)). r.one seat y q.1 j xs e')
          (at_set s.views id seat (v ++ u) y t.1))
          (at_set vs other seat [] y e);
      lists = let a = total-set (λ (y : Hand). length y) vs other u [] there in let b = total-set (λ (y : Hand). length y) s.views id v (v ++ u) at in let d = length-append v u in let l = r.lists in omega arith;
      above = sums (past p) ∙ r.above;
    }
  where
    either_of : (a b : Hand) (j : ℕ) (xs : List ℕ) → get_elem? (a ++ b) j ≡ some xs → (get_elem? a j ≡ some xs) ⊎ ((i : ℕ) × (get_elem? b i ≡ some xs))
    either_of [] b j xs e = inr (j, e)
    either_of (y ∷ a) b zero xs e = inl e
    either_of (y ∷ a) b (suc j) xs e = either_of a b j xs e

-- once one seat has all lists, and one of them has a number past the pieces, each piece was drawn once
pub settles : (p w id : ℕ) (v : Hand) → length v ≡ w → 0 < total (past p) v → (s : St) → IsDrawn p w s → get_elem? s.views id ≡ some v
    → (x : ℕ) → x < p → total (times x) v ≡ 1
settles p w id v all some_past s r at x low =
    let c = alone (λ u. total (times x) u) (λ u. length u) s.views id v (λ u e. nothing (times x) u e) at (r.lists ∙ sym all) in
    let a = alone (λ u. total (past p) u) (λ u. length u) s.views id v (λ u e. nothing (past p) u e) at (r.lists ∙ sym all) in
    let e = r.each x in let b = r.above in
    let one = once_low x (slice_index s.words 0) (omega arith) in omega arith
  where
    nothing : (f : List ℕ → ℕ) (u : Hand) → length u ≡ 0 → total f u ≡ 0
    nothing f [] e = refl
    nothing f (y ∷ ys) e = absurd (omega arith)

pub next_list : (n : ℕ) → 0 < n → (only_first (empties n) ≡ [] ∷ []) × (but_first (empties n) ≡ empties (n - 1))
next_list zero h = absurd (omega arith)
next_list (suc n) h = let e : suc n - 1 ≡ n = omega arith in (refl, ap empties (sym e))
