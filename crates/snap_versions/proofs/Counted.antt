-- Ranks among the versions of calls are the numbers that the calls count.
use Rattle.std.proofs.Common.{◌≡◌, ◌≤◌, ◌∷◌, [], ℕ, suc, Bool, true, false, cond, not, ◌&&◌, ◌||◌, List, length, map, count_by, Some, None, refl, sym, ap, ◌∙◌, arith}
use Rattle.std.specs.Prelude.{◌==◌, nat_lt}
use Rattle.std.specs.List.{list_any}
use Rattle.std.proofs.lemmas.Bool.{ne_eqb}
use Rattle.std.proofs.lemmas.List.Sums.{count_by-le-length, length-filter}
use Rattle.snap_core.specs.declared.entry.Entry.{Entry}
use Rattle.snap_core.specs.Entries.{AreEntries, has_zero, rises, view_refusal}
use Rattle.snap_core.specs.Calls.{Call, Operation, Updates, Views, is_update_numbered, writes_number}
use Rattle.snap_core.specs.declared.view.ViewRefusal.TheVariants.{NotRising, ZeroNumber}
use Rattle.snap_core.specs.Refusals.{writes_below}
use Rattle.snap_theory.specs.Versioned.{counted, counted_calls, counted_entry, counted_number, counted_operation, kept_calls, stays_as, writes_component}
use Rattle.snap_versions.specs.inside.Ranked.{ranked_call, ranked_entry, ranked_operation}
use Rattle.snap_versions.specs.inside.Versions.{AreVersionsOf, has_version, rank_among, versions_in, writes_where}
use Rattle.snap_versions.proofs.Counts.{any_count, any_same, count_all, count_same}

has_update : (calls : List Call) (lists : List (List ℕ)) → AreVersionsOf calls lists → (k n : ℕ) → has_version (versions_in lists k) n ≡ list_any (is_update_numbered k n) calls
unfolding is_update_numbered
has_update calls lists h k n =
    any_count (λ m. m == n) (versions_in lists k)
    ∙ ap (λ m. nat_lt 0 m) (h.same k (λ m. m == n))
    ∙ sym (any_count (λ c. writes_where k (λ m. m == n) c.operation) calls)
    ∙ any_same (λ c. writes_where k (λ m. m == n) c.operation) (is_update_numbered k n) calls (λ c i. same c.operation)
  where
    same : (o : Operation) → writes_where k (λ m. m == n) o ≡ writes_number o k n
    same (Updates e) = refl
    same (Views a) = refl

count_below : (calls : List Call) (lists : List (List ℕ)) → AreVersionsOf calls lists → (e : Entry) → count_by (λ m. nat_lt m e.number) (versions_in lists e.component) ≡ count_by (λ c. writes_below c.operation e) calls
count_below calls lists h e =
    h.same e.component (λ m. nat_lt m e.number)
    ∙ count_same (λ c. writes_where e.component (λ m. nat_lt m e.number) c.operation) (λ c. writes_below c.operation e) calls (λ c i. same c.operation)
  where
    same : (o : Operation) → writes_where e.component (λ m. nat_lt m e.number) o ≡ writes_below o e
    same (Updates d) = refl
    same (Views a) = refl

and_true : (b : Bool) → (b && true) ≡ b
and_true true = refl
and_true false = refl

count_updates : (calls : List Call) (lists : List (List ℕ)) → AreVersionsOf calls lists → (k : ℕ) → length (versions_in lists k) ≡ count_by (λ c. writes_component k c.operation) calls
count_updates calls lists h k =
    count_all (versions_in lists k) ∙ h.same k (λ m. true)
    ∙ count_same (λ c. writes_where k (λ m. true) c.operation) (λ c. writes_component k c.operation) calls (λ c i. same c.operation)
  where
    same : (o : Operation) → writes_where k (λ m. true) o ≡ writes_component k o
    same (Updates d) = and_true (d.component == k)
    same (Views a) = refl

rank_counted : (calls : List Call) (lists : List (List ℕ)) → AreVersionsOf calls lists → (e : Entry) → rank_among (versions_in lists e.component) e.number ≡ counted_number calls e
rank_counted calls lists h e =
    ap (λ b. cond b (suc (count_by (λ m. nat_lt m e.number) (versions_in lists e.component))) (suc (length (versions_in lists e.component)))) (has_update calls lists h e.component e.number)
    ∙ ap (λ n. cond (list_any (is_update_numbered e.component e.number) calls) (suc n) (suc (length (versions_in lists e.component)))) (count_below calls lists h e)
    ∙ ap (λ n. cond (list_any (is_update_numbered e.component e.number) calls) (suc (count_by (λ c. writes_below c.operation e) calls)) (suc n)) (count_updates calls lists h e.component)

entry_counted : (calls : List Call) (lists : List (List ℕ)) → AreVersionsOf calls lists → (e : Entry) → ranked_entry lists e ≡ counted_entry calls e
entry_counted calls lists h e = ap (λ n. record { component = e.component; number = n; value = e.value }) (rank_counted calls lists h e)

map_same : {X Y : Type 0} (f g : X → Y) (xs : List X) → ((x : X) → f x ≡ g x) → map f xs ≡ map g xs
map_same f g [] h = refl
map_same f g (x ∷ xs) h = ap (λ y. y ∷ map f xs) (h x) ∙ ap (λ z. g x ∷ z) (map_same f g xs h)

call_counted : (calls : List Call) (lists : List (List ℕ)) → AreVersionsOf calls lists → (c : Call) → ranked_call lists c ≡ counted calls c
call_counted calls lists h c =
    ap (λ o. record { number = c.number; process = c.process; operation = o; begun = c.begun; ended = c.ended }) (at c.operation)
  where
    at : (o : Operation) → ranked_operation lists o ≡ counted_operation calls o
    at (Updates e) = ap Updates (entry_counted calls lists h e)
    at (Views None) = refl
    at (Views (Some es)) = ap (λ z. Views (Some z)) (map_same (ranked_entry lists) (counted_entry calls) es (entry_counted calls lists h))

pub calls_counted : (calls : List Call) (lists : List (List ℕ)) → AreVersionsOf calls lists → map (ranked_call lists) calls ≡ counted_calls calls
calls_counted calls lists h = map_same (ranked_call lists) (counted calls) calls (call_counted calls lists h)

-- entries with ranks as numbers are those of a view
ranked_rise : (lists : List (List ℕ)) (es : List Entry) → rises (map (ranked_entry lists) es) ≡ rises es
ranked_rise lists [] = refl
ranked_rise lists (d ∷ []) = refl
ranked_rise lists (d ∷ e ∷ es) = ap (λ b. nat_lt d.component e.component && b) (ranked_rise lists (e ∷ es))

rank_positive : (versions : List ℕ) (n : ℕ) → (rank_among versions n == 0) ≡ false
rank_positive versions n = at (has_version versions n)
  where
    at : (b : Bool) → (cond b (suc (count_by (λ m. nat_lt m n) versions)) (suc (length versions)) == 0) ≡ false
    at true = ne_eqb (suc (count_by (λ m. nat_lt m n) versions)) 0 (λ e. omega (arith, e))
    at false = ne_eqb (suc (length versions)) 0 (λ e. omega (arith, e))

ranked_positive : (lists : List (List ℕ)) (es : List Entry) → has_zero (map (ranked_entry lists) es) ≡ false
ranked_positive lists [] = refl
ranked_positive lists (e ∷ es) = ap (λ b. b || has_zero (map (ranked_entry lists) es)) (rank_positive (versions_in lists e.component) e.number) ∙ ranked_positive lists es

pub ranked_is_view : (lists : List (List ℕ)) (es : List Entry) → AreEntries es → view_refusal (map (ranked_entry lists) es) ≡ None
ranked_is_view lists es h =
    ap (λ b. cond (not b) (Some NotRising) (cond (has_zero (map (ranked_entry lists) es)) (Some ZeroNumber) None)) (ranked_rise lists es ∙ h.rising)
    ∙ ap (λ b. cond b (Some ZeroNumber) None) (ranked_positive lists es)

-- there are no more calls that stay than calls
pub kept_few : (calls : List Call) → length (kept_calls calls) ≤ length calls
kept_few calls = omega (arith, length-filter (λ c. stays_as calls c.ended c.operation) calls, count_by-le-length (λ c. stays_as calls c.ended c.operation) calls)
