-- The read faults of a range of views, by the clashes of a grid.
use Rattle.std.proofs.Common.{◌≡◌, ℕ, zero, suc, ◌+◌, ◌-◌, ◌<◌, ◌≤◌, Bool, true, false, cond, ◌||◌, List, [], ◌∷◌, ◌++◌, map, take, drop, length, get_or, Option, Some, None, refl, sym, ap, ◌∙◌, subst, arith}
use Rattle.std.specs.Prelude.{nat_lt, filter, sum_by, count_by, find, option_map, IfSome}
use Rattle.std.specs.List.{list_any, range_with_len}
use Rattle.std.proofs.lemmas.Bool.{lt-ltb, ltb-true, ltb-false}
use Rattle.std.proofs.lemmas.List.{length-map, length-append, drop_more}
use Rattle.std.proofs.lemmas.List.Sums.{sum_by-cons, length-filter}
use Rattle.snap_core.specs.declared.event.Event.{Event}
use Rattle.snap_core.specs.Calls.{Call, calls_of, views_of, nobody}
use Rattle.snap_grid.specs.Columns.{GridValue, clashes, clash_count, has_clash, rows_of, drops, drop_count}
use Rattle.snap_theory.specs.Faults.{read_fault, read_faults, first_of, is_stale, stale_count}
use Rattle.snap_views.specs.Seen.{view_in, views_at, views_between}
use Rattle.snap_tally.specs.inside.Grids.{IsGridOf, faults_at}

-- the grid of a list of events is that of the same list as callers know it
pub known : (es now : List Event) (g : GridValue) → IsGridOf es g → es ≡ now → IsGridOf now g
known es now g h same = subst (λ (z : List Event). IsGridOf z g) same h

-- a range of views by their places
pub by_places : (xs : List Call) (n a : ℕ) → a + n ≤ length xs → take n (drop a xs) ≡ map (λ i. get_or xs i nobody) (range_with_len a n)
by_places xs zero a l = refl
by_places xs (suc n) a l = ap (take (suc n)) (drop_more xs a nobody (omega (arith, l))) ∙ ap (λ z. get_or xs a nobody ∷ z) (by_places xs n (a + 1) (omega (arith, l)))

sum_alike : (f g : ℕ → ℕ) (n a : ℕ) → ((i : ℕ) → a ≤ i → i < a + n → f i ≡ g i) → sum_by f (range_with_len a n) ≡ sum_by g (range_with_len a n)
sum_alike f g zero a h = refl
sum_alike f g (suc n) a h = omega (arith, sum_by-cons f a (range_with_len (a + 1) n), sum_by-cons g a (range_with_len (a + 1) n), h a (omega arith) (omega arith), sum_alike f g n (a + 1) (λ i l m. h i (omega (arith, l)) (omega (arith, m))))

sum_map : {X : Type 0} (f : X → ℕ) (g : ℕ → X) (xs : List ℕ) → sum_by f (map g xs) ≡ sum_by (λ i. f (g i)) xs
sum_map f g [] = refl
sum_map f g (x ∷ xs) = omega (arith, sum_by-cons f (g x) (map g xs), sum_by-cons (λ i. f (g i)) x xs, sum_map f g xs)

all_views : (calls : List Call) → views_of calls ≡ map (view_in calls) (range_with_len 0 (length (views_of calls)))
all_views calls = sym (take_whole (views_of calls)) ∙ by_places (views_of calls) (length (views_of calls)) 0 (omega arith)
  where
    take_whole : (xs : List Call) → take (length xs) xs ≡ xs
    take_whole [] = refl
    take_whole (x ∷ xs) = ap (λ z. x ∷ z) (take_whole xs)

-- a row passes a test of rows as often as its view passes one of views that agrees
count_same : (calls : List Call) (g : GridValue) (p : ℕ → ℕ → Bool) (q : Call → Call → Bool) (i : ℕ) → length g.begins ≡ length (views_of calls) →
    ((b : ℕ) → b < length (views_of calls) → p i b ≡ q (view_in calls i) (view_in calls b)) → count_by (p i) (rows_of g) ≡ count_by (q (view_in calls i)) (views_of calls)
count_same calls g p q i rows same =
    let n = length (views_of calls) in
    ap (λ z. count_by (p i) (range_with_len 0 z)) rows
    ∙ sum_alike (λ b. cond (p i b) 1 0) (λ b. cond (q (view_in calls i) (view_in calls b)) 1 0) n 0 (λ b _ m. ap {B = ℕ} (λ z. cond z 1 0) (same b (omega (arith, m))))
    ∙ sym (sum_map (λ s. cond (q (view_in calls i) s) 1 0) (view_in calls) (range_with_len 0 n))
    ∙ ap (count_by (q (view_in calls i))) (sym (all_views calls))

-- a row clashes as often as its view has faults
pub count_at : (es : List Event) (g : GridValue) → IsGridOf es g → (i : ℕ) → i < length (views_of (calls_of es)) → clash_count g i ≡ length (faults_at (calls_of es) i)
unfolding clash_count
count_at es g h i l =
    let calls = calls_of es in
    count_same calls g (clashes g) read_fault i h.rows (λ b m. h.clash i b l m) ∙ sym (length-filter (read_fault (view_in calls i)) (views_of calls))

-- the rows of a range drop as often as there are stale views
pub stale_between : (es : List Event) (g : GridValue) → IsGridOf es g → (from to : ℕ) → from ≤ to → to ≤ length (views_of (calls_of es)) →
    sum_by (drop_count g) (range_with_len from (to - from)) ≡ stale_count (calls_of es) (views_between (calls_of es) from to)
unfolding drop_count stale_count
stale_between es g h from to l m =
    let calls = calls_of es in
    let stale_to : Call → ℕ = λ r. count_by (is_stale r) (views_of calls) in
    sum_alike (λ a. count_by (drops g a) (rows_of g)) (λ a. stale_to (view_in calls a)) (to - from) from (λ i j k. count_same calls g (drops g) is_stale i h.rows (λ b n. h.drop i b (omega (arith, k, l, m)) n))
    ∙ sym (sum_map stale_to (view_in calls) (range_with_len from (to - from)))
    ∙ ap (sum_by stale_to) (sym (by_places (views_of calls) (to - from) from (omega (arith, l, m))))

any_count : (p : ℕ → Bool) (xs : List ℕ) → list_any p xs ≡ nat_lt 0 (count_by p xs)
any_count p [] = refl
any_count p (x ∷ xs) = at (p x) refl (any_count p xs)
  where
    at : (b : Bool) → p x ≡ b → list_any p xs ≡ nat_lt 0 (count_by p xs) → (p x || list_any p xs) ≡ nat_lt 0 (count_by p (x ∷ xs))
    at true t h = ap (λ b. b || list_any p xs) t ∙ sym (lt-ltb 0 _ (omega (arith, sum_by-cons (λ y. cond (p y) 1 0) x xs, ap {B = ℕ} (λ b. cond b 1 0) t)))
    at false t h =
        let same : count_by p (x ∷ xs) ≡ count_by p xs = omega (arith, sum_by-cons (λ y. cond (p y) 1 0) x xs, ap {B = ℕ} (λ b. cond b 1 0) t) in
        ap (λ b. b || list_any p xs) t ∙ h ∙ sym (ap (nat_lt 0) same)

pub has_count : (g : GridValue) (i : ℕ) → has_clash g i ≡ nat_lt 0 (clash_count g i)
unfolding has_clash clash_count
has_count g i = any_count (clashes g i) (rows_of g)

-- the faults of the views of a range, and the first view with one

-- no fault, or those of the view at a place come first
abbrev pub IsFirst : List Call → List (Call × Call) → Option ℕ → ℕ → ℕ → Type 0
IsFirst calls faults None a n = faults ≡ []
IsFirst calls faults (Some p) a n = (a ≤ p) × (p < a + n) × (0 < length (faults_at calls p)) × (0 < length faults) × (first_of faults ≡ first_of (read_faults calls (view_in calls p ∷ [])))

pub record AreFound (calls : List Call) (g : GridValue) (a n : ℕ) (faults : List (Call × Call)) : Type 0 where
  pub count : length faults ≡ sum_by (clash_count g) (range_with_len a n)
  pub first : IsFirst calls faults (find (has_clash g) (range_with_len a n)) a n

pairs : Call → List Call → List (Call × Call)
pairs r ss = map (λ s. (r, s)) ss

pub are_found : (es : List Event) (g : GridValue) → IsGridOf es g → (n a : ℕ) → a + n ≤ length (views_of (calls_of es)) → AreFound (calls_of es) g a n (read_faults (calls_of es) (map (view_in (calls_of es)) (range_with_len a n)))
unfolding read_faults pairs
are_found es g h zero a l = record { count = refl; first = refl }
are_found es g h (suc n) a l = at (has_clash g a) refl (are_found es g h n (a + 1) (omega (arith, l)))
  where
    calls : List Call
    calls = calls_of es

    here : List Call
    here = faults_at (calls_of es) a

    rest : List (Call × Call)
    rest = read_faults (calls_of es) (map (view_in (calls_of es)) (range_with_len (a + 1) n))

    size : length (pairs (view_in (calls_of es) a) here) ≡ clash_count g a
    size = length-map {B = Call × Call} here (λ s. (view_in (calls_of es) a, s)) ∙ sym (count_at es g h a (omega (arith, l)))

    total : length rest ≡ sum_by (clash_count g) (range_with_len (a + 1) n) → length (pairs (view_in (calls_of es) a) here ++ rest) ≡ sum_by (clash_count g) (range_with_len a (suc n))
    total e = omega (arith, length-append (pairs (view_in (calls_of es) a) here) rest, size, e, sum_by-cons (clash_count g) a (range_with_len (a + 1) n))

    first_front : (xs ys zs : List (Call × Call)) → 0 < length xs → first_of (xs ++ ys) ≡ first_of (xs ++ zs)
    first_front [] ys zs m = absurd (omega (arith, m))
    first_front (x ∷ xs) ys zs m = refl

    no_front : (xs ys : List (Call × Call)) → length xs ≡ 0 → xs ++ ys ≡ ys
    no_front [] ys m = refl
    no_front (x ∷ xs) ys m = absurd (omega (arith, m))

    on : (faults : List (Call × Call)) (o : Option ℕ) → faults ≡ pairs (view_in (calls_of es) a) here ++ rest → length (pairs (view_in (calls_of es) a) here) ≡ 0 → IsFirst (calls_of es) rest o (a + 1) n → IsFirst (calls_of es) faults o a (suc n)
    on faults None e m f = e ∙ no_front (pairs (view_in (calls_of es) a) here) rest m ∙ f
    on faults (Some p) e m f =
        let same = e ∙ no_front (pairs (view_in (calls_of es) a) here) rest m in
        (omega (arith, f.0), omega (arith, f.1), f.2, omega (arith, f.3, ap length same), ap first_of same ∙ f.4)

    at : (b : Bool) → has_clash g a ≡ b → AreFound (calls_of es) g (a + 1) n rest → AreFound (calls_of es) g a (suc n) (pairs (view_in (calls_of es) a) here ++ rest)
    at true t f =
        let some : 0 < clash_count g a = ltb-true _ _ (sym (has_count g a) ∙ t) in
        let found : find (has_clash g) (range_with_len a (suc n)) ≡ Some a = ap (λ b. cond b (Some a) (find (has_clash g) (range_with_len (a + 1) n))) t in
        record {
          count = total f.count;
          first = subst (λ o. IsFirst calls (pairs (view_in calls a) here ++ rest) o a (suc n)) (sym found)
              (omega arith, omega arith, omega (arith, some, count_at es g h a (omega (arith, l))), omega (arith, some, size, length-append (pairs (view_in calls a) here) rest), first_front (pairs (view_in calls a) here) rest [] (omega (arith, some, size)));
        }
    at false t f =
        let none : clash_count g a ≤ 0 = ltb-false _ _ (sym (has_count g a) ∙ t) in
        let found : find (has_clash g) (range_with_len a (suc n)) ≡ find (has_clash g) (range_with_len (a + 1) n) = ap (λ b. cond b (Some a) (find (has_clash g) (range_with_len (a + 1) n))) t in
        record {
          count = total f.count;
          first = subst (λ o. IsFirst calls (pairs (view_in calls a) here ++ rest) o a (suc n)) (sym found) (on (pairs (view_in calls a) here ++ rest) (find (has_clash g) (range_with_len (a + 1) n)) refl (omega (arith, none, size)) f.first);
        }

-- the range as contracts have it
pub are_found_between : (es : List Event) (g : GridValue) → IsGridOf es g → (from to : ℕ) → from ≤ to → to ≤ length (views_of (calls_of es)) → AreFound (calls_of es) g from (to - from) (read_faults (calls_of es) (views_between (calls_of es) from to))
are_found_between es g h from to l m =
    subst (λ z. AreFound (calls_of es) g from (to - from) (read_faults (calls_of es) z)) (sym (by_places (views_of (calls_of es)) (to - from) from (omega (arith, l, m)))) (are_found es g h (to - from) from (omega (arith, l, m)))

-- the first view of which a view is a read fault, by the first row that its row clashes with
pub first_at : (es : List Event) (g : GridValue) → IsGridOf es g → (i : ℕ) → i < length (views_of (calls_of es)) → option_map (view_in (calls_of es)) (find (clashes g i) (rows_of g)) ≡ first_of (faults_at (calls_of es) i)
first_at es g h i l =
    let calls = calls_of es in
    let n = length (views_of calls) in
    ap (λ z. option_map (view_in calls) (find (clashes g i) (range_with_len 0 z))) h.rows
    ∙ first_alike (clashes g i) n 0 (λ b _ m. h.clash i b l (omega (arith, m)))
    ∙ ap (λ xs. first_of (filter (read_fault (view_in calls i)) xs)) (sym (all_views calls))
  where
    first_alike : (p : ℕ → Bool) (n a : ℕ) → ((b : ℕ) → a ≤ b → b < a + n → p b ≡ read_fault (view_in (calls_of es) i) (view_in (calls_of es) b)) →
        option_map (view_in (calls_of es)) (find p (range_with_len a n)) ≡ first_of (filter (read_fault (view_in (calls_of es) i)) (map (view_in (calls_of es)) (range_with_len a n)))
    first_alike p zero a h = refl
    first_alike p (suc n) a h = at (p a) refl (h a (omega arith) (omega arith)) (first_alike p n (a + 1) (λ b l m. h b (omega (arith, l)) (omega (arith, m))))
      where
        at : (b : Bool) → p a ≡ b → p a ≡ read_fault (view_in (calls_of es) i) (view_in (calls_of es) a) →
            option_map (view_in (calls_of es)) (find p (range_with_len (a + 1) n)) ≡ first_of (filter (read_fault (view_in (calls_of es) i)) (map (view_in (calls_of es)) (range_with_len (a + 1) n))) →
            option_map (view_in (calls_of es)) (find p (range_with_len a (suc n))) ≡ first_of (filter (read_fault (view_in (calls_of es) i)) (map (view_in (calls_of es)) (range_with_len a (suc n))))
        at true t same rest =
            ap (λ b. option_map (view_in (calls_of es)) (cond b (Some a) (find p (range_with_len (a + 1) n)))) t
            ∙ sym (ap (λ b. first_of (cond b (view_in (calls_of es) a ∷ filter (read_fault (view_in (calls_of es) i)) (map (view_in (calls_of es)) (range_with_len (a + 1) n))) (filter (read_fault (view_in (calls_of es) i)) (map (view_in (calls_of es)) (range_with_len (a + 1) n))))) (sym same ∙ t))
        at false t same rest =
            ap (λ b. option_map (view_in (calls_of es)) (cond b (Some a) (find p (range_with_len (a + 1) n)))) t ∙ rest
            ∙ sym (ap (λ b. first_of (cond b (view_in (calls_of es) a ∷ filter (read_fault (view_in (calls_of es) i)) (map (view_in (calls_of es)) (range_with_len (a + 1) n))) (filter (read_fault (view_in (calls_of es) i)) (map (view_in (calls_of es)) (range_with_len (a + 1) n))))) (sym same ∙ t))

-- what is found in a range is within it
pub found_within : (p : ℕ → Bool) (n a : ℕ) → IfSome (find p (range_with_len a n)) (λ b. b < a + n)
found_within p zero a = tt
found_within p (suc n) a = at (p a) refl (found_within p n (a + 1))
  where
    at : (b : Bool) → p a ≡ b → IfSome (find p (range_with_len (a + 1) n)) (λ b. b < a + 1 + n) → IfSome (find p (range_with_len a (suc n))) (λ b. b < a + suc n)
    at true t rest = subst (λ o. IfSome o (λ b. b < a + suc n)) (sym (ap (λ b. cond b (Some a) (find p (range_with_len (a + 1) n))) t)) (omega arith)
    at false t rest =
        subst (λ o. IfSome o (λ b. b < a + suc n)) (sym (ap (λ b. cond b (Some a) (find p (range_with_len (a + 1) n))) t))
        (let on : a + 1 + n ≡ a + suc n = omega arith in subst (λ m. IfSome (find p (range_with_len (a + 1) n)) (λ b. b < m)) on rest)

-- the first clashing row of a range, and the read faults of its views
pub first_between : (es : List Event) (g : GridValue) → IsGridOf es g → (from to : ℕ) → from ≤ to → to ≤ length (views_of (calls_of es)) → (o : Option ℕ) → o ≡ find (has_clash g) (range_with_len from (to - from)) →
    IsFirst (calls_of es) (read_faults (calls_of es) (views_between (calls_of es) from to)) o from (to - from)
first_between es g h from to l m o e =
    subst (λ z. IsFirst (calls_of es) (read_faults (calls_of es) (views_between (calls_of es) from to)) z from (to - from)) (sym e) (are_found_between es g h from to l m).first

abbrev paired : Call → Call → Call × Call
paired r s = (r, s)

-- the first read fault of one view
first_alone : (calls : List Call) (r : Call) → first_of (read_faults calls (r ∷ [])) ≡ option_map (paired r) (first_of (filter (read_fault r) (views_of calls)))
unfolding read_faults
first_alone calls r = at (filter (read_fault r) (views_of calls))
  where
    at : (ss : List Call) → first_of (map (paired r) ss ++ []) ≡ option_map (paired r) (first_of ss)
    at [] = refl
    at (s ∷ ss) = refl

-- the same by the first row that its row clashes with
pub pair_at : (es : List Event) (g : GridValue) → IsGridOf es g → (i : ℕ) → i < length (views_of (calls_of es)) → (o : Option ℕ) → o ≡ find (clashes g i) (rows_of g) →
    first_of (read_faults (calls_of es) (view_in (calls_of es) i ∷ [])) ≡ option_map (λ b. views_at (calls_of es) (i, b)) o
pair_at es g h i l o e =
    let calls = calls_of es in
    first_alone calls (view_in calls i)
    ∙ ap (option_map (paired (view_in calls i))) (sym (first_at es g h i l) ∙ ap (option_map (view_in calls)) (sym e))
    ∙ at o
  where
    at : (o : Option ℕ) → option_map (paired (view_in (calls_of es) i)) (option_map (view_in (calls_of es)) o) ≡ option_map (λ b. views_at (calls_of es) (i, b)) o
    at None = refl
    at (Some b) = refl

pub other_within : (es : List Event) (g : GridValue) → IsGridOf es g → (i b : ℕ) → Some b ≡ find (clashes g i) (rows_of g) → b < length (views_of (calls_of es))
other_within es g h i b e =
    let within : b < 0 + length g.begins = subst (λ o. IfSome o (λ x. x < 0 + length g.begins)) (sym e) (found_within (clashes g i) (length g.begins) 0) in
    omega (arith, within, h.rows)
