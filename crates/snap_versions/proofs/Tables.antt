-- Lists of versions, one for each component, and what changes when one of them does.
use Rattle.std.proofs.Common.{◌≡◌, ◌≢◌, ◌≤◌, ◌<◌, ◌+◌, ◌++◌, ◌∷◌, [], ◌⊎◌, inl, inr, ℕ, Bool, true, false, cond, not, ◌&&◌, List, length, length-set, set, get_or, replicate, count_by, filter, take, drop, append-nil, Vec, Global, refl, sym, ap, subst, ◌∙◌, arith}
use Rattle.std.specs.Prelude.{◌==◌}
use Rattle.std.specs.List.Sorted.{IsNonDecreasing, IsPermutation}
use Rattle.std.proofs.lemmas.Bool.{and_parts, cases_eq, cases_lt, eq-eqb, eqb-true, ne_eqb}
use Rattle.std.proofs.lemmas.List.{drop_all, get_or-map, get_or-replicate, get_or-set_other, get_or-set_same, get_or_past, length-replicate, map-append, map-set, replicate-append-replicate, take_all}
use Rattle.std.proofs.lemmas.List.Kept.{IsNonDecreasingBy-filter}
use Rattle.std.proofs.lemmas.List.Sums.{count_by-le-length, length-filter, sum_by-append}
use Rattle.std.proofs.lemmas.Map.Views.{any-filter_same}
use Rattle.snap_core.proofs.Lists.{count-cons}
use Rattle.snap_core.specs.declared.entry.Entry.{Entry}
use Rattle.snap_core.specs.Calls.{Call, Updates, Views}
use Rattle.snap_core.specs.Entries.{component_count}
use Rattle.snap_core.specs.Events.{event_cap}
use Rattle.snap_index.specs.Rows.{rows}
use Rattle.snap_versions.specs.inside.Versions.{AllRise, AreVersionsOf, IsTable, has_version, versions_in, writes_where}
use Rattle.snap_versions.proofs.Counts.{count_all, count_moved}

-- a list of the table, as it was read
pub list_read : (table : List (Vec ℕ Global)) (j k : ℕ) (list : Vec ℕ Global) → j ≡ k → k < length table → list ≡ get_or table j list → list.items ≡ versions_in (rows table) k
list_read table j k list e l is =
    ap (λ (v : Vec ℕ Global). v.items) (is ∙ ap (λ n. get_or table n list) e) ∙ sym (get_or-map (λ (v : Vec ℕ Global). v.items) table k list [] l)

-- the table, once the list of a component was changed
pub changed_in : (f : List ℕ → List ℕ) (table : List (Vec ℕ Global)) (j k : ℕ) (list new : Vec ℕ Global) → j ≡ k → k < length table → list ≡ get_or table j list → new.items ≡ f list.items → rows (set table j new) ≡ set (rows table) k (f (versions_in (rows table) k))
changed_in f table j k list new e l is items =
    map-set (λ (v : Vec ℕ Global). v.items) table j new ∙ ap (λ i. set (rows table) i new.items) e
    ∙ ap (set (rows table) k) (items ∙ ap f (list_read table j k list e l is))

-- one list more without versions
pub one_more : (table : List (Vec ℕ Global)) (list : Vec ℕ Global) (n : ℕ) → list.items ≡ [] → rows table ≡ replicate n [] → rows (table ++ list ∷ []) ≡ replicate (n + 1) []
one_more table list n empty is =
    map-append (λ (v : Vec ℕ Global). v.items) table (list ∷ []) ∙ ap (λ z. z ++ list.items ∷ []) is ∙ ap (λ z. replicate n [] ++ z ∷ []) empty ∙ replicate-append-replicate n 1 []

-- the list of component k, once that of component j is changed
pub list_after : (lists : List (List ℕ)) (j k : ℕ) (list : List ℕ) → j < length lists → ((j ≡ k) × (versions_in (set lists j list) k ≡ list)) ⊎ ((j ≢ k) × (versions_in (set lists j list) k ≡ versions_in lists k))
list_after lists j k list l = elim (cases_eq j k) [
  | inl e ↦ inl (e, ap (λ n. versions_in (set lists j list) n) (sym e) ∙ get_or-set_same lists j list [] l)
  | inr n ↦ inr (n, get_or-set_other lists j k list [] (λ e. n (sym e)))
]

count_push : {X : Type 0} (p : X → Bool) (xs : List X) (x : X) → count_by p (xs ++ x ∷ []) ≡ count_by p xs + cond (p x) 1 0
count_push p xs x = omega (arith, sum_by-append (λ y. cond (p y) 1 0) xs (x ∷ []), count-cons p x [])

-- tables of no calls, and of one more
pub none_listed : (lists : List (List ℕ)) → lists ≡ replicate component_count [] → AreVersionsOf [] lists
none_listed lists is = record {
  size = ap length is ∙ length-replicate {A = List ℕ} component_count [];
  same = λ k test. ap (λ z. count_by test (versions_in z k)) is ∙ ap (count_by test) (empty k (cases_lt k component_count));
}
  where
    empty : (k : ℕ) → (k < component_count) ⊎ (component_count ≤ k) → versions_in (replicate component_count []) k ≡ []
    empty k (inl l) = get_or-replicate component_count k [] [] l
    empty k (inr g) = get_or_past (replicate component_count []) k [] (omega (arith, g, length-replicate {A = List ℕ} component_count []))

pub update_listed : (calls : List Call) (lists : List (List ℕ)) (c : Call) (e : Entry) → e.component < length lists → c.operation ≡ Updates e → AreVersionsOf calls lists → AreVersionsOf (calls ++ c ∷ []) (set lists e.component (versions_in lists e.component ++ e.number ∷ []))
update_listed calls lists c e l is h = record {
  size = length-set lists e.component (versions_in lists e.component ++ e.number ∷ []) ∙ h.size;
  same = λ k test. go k test (list_after lists e.component k (versions_in lists e.component ++ e.number ∷ []) l);
}
  where
    writes : (k : ℕ) (test : ℕ → Bool) (b : Bool) → (e.component == k) ≡ b → writes_where k test c.operation ≡ (b && test e.number)
    writes k test b q = ap (writes_where k test) is ∙ ap (λ z. z && test e.number) q

    new : List ℕ
    new = versions_in lists e.component ++ e.number ∷ []

    go : (k : ℕ) (test : ℕ → Bool) → ((e.component ≡ k) × (versions_in (set lists e.component new) k ≡ new)) ⊎ ((e.component ≢ k) × (versions_in (set lists e.component new) k ≡ versions_in lists k)) →
        count_by test (versions_in (set lists e.component new) k) ≡ count_by (λ d. writes_where k test d.operation) (calls ++ c ∷ [])
    go k test (inl s) =
        let one : cond (writes_where k test c.operation) 1 0 ≡ cond (test e.number) 1 0 = ap {B = ℕ} (λ b. cond b 1 0) (writes k test true (eq-eqb e.component k s.0)) in
        ap (count_by test) s.1
        ∙ count_push test (versions_in lists e.component) e.number
        ∙ ap (λ n. n + cond (test e.number) 1 0) (ap (λ n. count_by test (versions_in lists n)) s.0 ∙ h.same k test)
        ∙ ap (λ n. count_by (λ d. writes_where k test d.operation) calls + n) (sym one)
        ∙ sym (count_push (λ d. writes_where k test d.operation) calls c)
    go k test (inr s) =
        let none : cond (writes_where k test c.operation) 1 0 ≡ 0 = ap {B = ℕ} (λ b. cond b 1 0) (writes k test false (ne_eqb e.component k s.0)) in
        ap (count_by test) s.1 ∙ h.same k test ∙ omega (arith, none, count_push (λ d. writes_where k test d.operation) calls c)

pub view_listed : (calls : List Call) (lists : List (List ℕ)) (c : Call) (answer : _) → c.operation ≡ Views answer → AreVersionsOf calls lists → AreVersionsOf (calls ++ c ∷ []) lists
view_listed calls lists c answer is h = record {
  size = h.size;
  same = λ k test.
      let none : cond (writes_where k test c.operation) 1 0 ≡ 0 = ap {B = ℕ} (λ b. cond b 1 0) (ap (writes_where k test) is) in
      h.same k test ∙ omega (arith, none, count_push (λ d. writes_where k test d.operation) calls c);
}

-- a list that was sorted
pub sorted_more : (lists : List (List ℕ)) (i : ℕ) (list : List ℕ) → i < length lists → IsNonDecreasing list → ((k : ℕ) → k < i → IsNonDecreasing (versions_in lists k)) → (k : ℕ) → k < i + 1 → IsNonDecreasing (versions_in (set lists i list) k)
sorted_more lists i list l up before k m = elim (list_after lists i k list l) [
  | inl s ↦ subst IsNonDecreasing (sym s.1) up
  | inr s ↦ subst IsNonDecreasing (sym s.1) (before k (omega (arith, m, s.0)))
]

pub same_more : (old lists : List (List ℕ)) (i : ℕ) (list : List ℕ) → i < length lists → IsPermutation (versions_in lists i) list → ((k : ℕ) (test : ℕ → Bool) → count_by test (versions_in lists k) ≡ count_by test (versions_in old k)) →
    (k : ℕ) (test : ℕ → Bool) → count_by test (versions_in (set lists i list) k) ≡ count_by test (versions_in old k)
same_more old lists i list l moved before k test = elim (list_after lists i k list l) [
  | inl s ↦ ap (count_by test) s.1 ∙ count_moved test (versions_in lists i) list moved ∙ before i test ∙ ap (λ n. count_by test (versions_in old n)) s.0
  | inr s ↦ ap (count_by test) s.1 ∙ before k test
]

none_falls : (list : List ℕ) → list ≡ [] → IsNonDecreasing list
none_falls list is = subst IsNonDecreasing (sym is) (λ i j d m l. absurd (omega (arith, l)))

pub all_sorted : (lists : List (List ℕ)) (n : ℕ) → length lists ≤ n → ((k : ℕ) → k < n → IsNonDecreasing (versions_in lists k)) → AllRise lists
all_sorted lists n l up k = elim (cases_lt k n) [
  | inl m ↦ up k m
  | inr m ↦ none_falls (versions_in lists k) (get_or_past lists k [] (omega (arith, l, m)))
]

-- a whole slice that is lent comes back as it was written
pub whole_back : {X : Type 0} (len : ℕ) (items new : List X) → len ≡ length items → length new ≡ length items → take len (new ++ drop (length new) items) ≡ new
whole_back len items new l n =
    ap (λ z. take len (new ++ z)) (drop_all (length new) items (omega (arith, n))) ∙ ap (take len) (append-nil new) ∙ take_all len new (omega (arith, l, n))

-- the table, once each list is sorted
pub sorted_versions : (calls : List Call) (old lists : List (List ℕ)) → AreVersionsOf calls old → length lists ≡ length old → ((k : ℕ) (test : ℕ → Bool) → count_by test (versions_in lists k) ≡ count_by test (versions_in old k)) → AreVersionsOf calls lists
sorted_versions calls old lists h size same = record { size = size ∙ h.size; same = λ k test. same k test ∙ h.same k test }

pub is_table : (calls : List Call) (lists : List (List ℕ)) → AreVersionsOf calls lists → AllRise lists → length calls ≤ event_cap → IsTable lists
is_table calls lists h up l = record {
  size = h.size;
  rising = up;
  few = λ k. omega (arith, l, count_all (versions_in lists k), h.same k (λ n. true), count_by-le-length (λ c. writes_where k (λ n. true) c.operation) calls);
}

-- the table without a version of a component
pub table_without : (lists : List (List ℕ)) (j : ℕ) (test : ℕ → Bool) → j < length lists → IsTable lists → IsTable (set lists j (filter test (versions_in lists j)))
table_without lists j test l h = record {
  size = length-set lists j (filter test (versions_in lists j)) ∙ h.size;
  rising = λ k. elim (list_after lists j k (filter test (versions_in lists j)) l) [
    | inl s ↦ subst IsNonDecreasing (sym s.1) (IsNonDecreasingBy-filter (λ x. x) test (versions_in lists j) (h.rising j))
    | inr s ↦ subst IsNonDecreasing (sym s.1) (h.rising k)
  ];
  few = λ k. elim (list_after lists j k (filter test (versions_in lists j)) l) [
    | inl s ↦ omega (arith, ap length s.1, length-filter test (versions_in lists j), count_by-le-length test (versions_in lists j), h.few j)
    | inr s ↦ omega (arith, ap length s.1, h.few k)
  ];
}

-- versions other than n
abbrev pub is_other : ℕ → ℕ → Bool
is_other n m = not (m == n)

swapped : (a b : ℕ) → (a == b) ≡ (b == a)
swapped a b = elim (cases_eq a b) [
  | inl e ↦ eq-eqb a b e ∙ sym (eq-eqb b a (sym e))
  | inr n ↦ ne_eqb a b n ∙ sym (ne_eqb b a (λ e. n (sym e)))
]

has_without : (list : List ℕ) (m n : ℕ) → has_version (filter (is_other m) list) n ≡ (has_version list n && not (m == n))
has_without list m n = any-filter_same (λ x. x == n) (is_other m) (not (m == n)) same list ∙ turned (not (m == n)) (has_version list n)
  where
    same : (x : ℕ) → (x == n) ≡ true → is_other m x ≡ not (m == n)
    same x t = ap (λ z. not (z == m)) (eqb-true x n t) ∙ ap not (swapped n m)

    turned : (a b : Bool) → (a && b) ≡ (b && a)
    turned true true = refl
    turned true false = refl
    turned false true = refl
    turned false false = refl

pub left_out : (lists : List (List ℕ)) (j m : ℕ) → j < length lists → (k n : ℕ) → has_version (versions_in (set lists j (filter (is_other m) (versions_in lists j))) k) n ≡ (has_version (versions_in lists k) n && not ((j == k) && (m == n)))
left_out lists j m l k n = elim (list_after lists j k (filter (is_other m) (versions_in lists j)) l) [
  | inl s ↦
      ap (λ z. has_version z n) s.1 ∙ has_without (versions_in lists j) m n ∙ ap (λ i. has_version (versions_in lists i) n && not (m == n)) s.0
      ∙ ap (λ b. has_version (versions_in lists k) n && not (b && (m == n))) (sym (eq-eqb j k s.0))
  | inr s ↦
      ap (λ z. has_version z n) s.1 ∙ kept (has_version (versions_in lists k) n)
      ∙ ap (λ b. has_version (versions_in lists k) n && not (b && (m == n))) (sym (ne_eqb j k s.0))
]
  where
    kept : (b : Bool) → b ≡ (b && not false)
    kept true = refl
    kept false = refl

unchanged : (b t : Bool) → (t ≡ true → b ≡ false) → b ≡ (b && not t)
unchanged true true h = h refl
unchanged true false h = refl
unchanged false t h = refl

-- nothing is left out if the version is not there
pub not_there : (lists : List (List ℕ)) (j m : ℕ) → has_version (versions_in lists j) m ≡ false → (k n : ℕ) → has_version (versions_in lists k) n ≡ (has_version (versions_in lists k) n && not ((j == k) && (m == n)))
not_there lists j m none k n = unchanged (has_version (versions_in lists k) n) ((j == k) && (m == n)) (λ t. none_here (and_parts (j == k) (m == n) t))
  where
    none_here : ((j == k) ≡ true) × ((m == n) ≡ true) → has_version (versions_in lists k) n ≡ false
    none_here t = ap (λ z. has_version (versions_in lists z) n) (sym (eqb-true j k t.0)) ∙ ap (has_version (versions_in lists j)) (sym (eqb-true m n t.1)) ∙ none
